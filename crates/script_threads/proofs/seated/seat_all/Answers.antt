use Rattle.script_threads.proofs.Prelude.{◌≡◌, ◌∙◌, ◌++◌, ◌∷◌, [], ℕ, List, true, ap, sym, subst, rules, map, YieldsList-from_vec, YieldsList-so_far, YieldsList-turn, map_push, Said, said_by, is_leased, HasSeat, asked_of}
use Rattle.script_threads.proofs.SeatLemmas.{free_at, seated_more}
use Rattle.script_threads.proofs.seated.seat_all.Goals as goal

pub seat-seated-requires : goal.seat-seated-requires
seat-seated-requires g c =
    let all = YieldsList-from_vec {s = c.into_iter-said-iterator.result} c.args.sessions.items (search rules) (search rules) in
    let so_far = YieldsList-so_far all c.loop-said.yielded c.loop-said.said-iterator c.loop-said.yielded_by in
    let turn = YieldsList-turn all c.loop-said.yielded c.loop-said.said-iterator c.loop-said.yielded_by c.next.result c.next.new.self c.in-Some.said c.in-Some.is c.next.ensures.steps in
    record { free = free_at c.args.operator.now c.loop-said.core.marks c.args.sessions.items c.loop-said.yielded c.in-Some.said c.requires.apart so_far turn.0 turn.1 c.loop-said.invariant.leased }

pub loop-said-preserved : goal.loop-said-preserved
loop-said-preserved g c =
    let names = c.args.operator.now in
    let before = map said_by c.loop-said.yielded in
    let said = sym (map_push said_by c.loop-said.yielded c.in-Some.said) in
    let asked = asked_of names c.args.core.now.service.histories in
    let more : c.push.new.self.items ≡ map asked before ++ asked (said_by c.in-Some.said) ∷ [] = search rules in
    record {
      service = c.seat-seated.ensures.service ∙ c.loop-said.invariant.service;
      seats = more ∙ sym (map_push asked before (said_by c.in-Some.said)) ∙ ap (map asked) said;
      leased =
          (let P : List Said → Type 0 = λ seated. (id : ℕ) → is_leased c.seat-seated.new.core.marks id ≡ true → HasSeat names seated id in
          subst P said (seated_more names c.loop-said.core.marks c.seat-seated.new.core.marks before (said_by c.in-Some.said) c.loop-said.invariant.leased c.seat-seated.ensures.leased));
    }
