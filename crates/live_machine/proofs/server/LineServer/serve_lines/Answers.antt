use Rattle.live_machine.proofs.Prelude.{◌≡◌, ◌<◌, ℕ, List, ◌∷◌, length, sym, subst, rules, AllByRecursion, physical_lines, IsSaidBy, ServesAll, state_with}
use Rattle.live_machine.proofs.server.LineServer.serve_lines.Goals as goal

pub loop-rest-preserved : goal.loop-rest-preserved
loop-rest-preserved c =
    let name = c.args.name.now in
    let rest = c.loop-rest.rest.now in
    let some : 0 < length rest = search rules in
    let cut : physical_lines rest ≡ c.split_line.result.0.now ∷ physical_lines c.split_line.result.1.now = c.split_line.ensures.lines some in
    let A : List (List ℕ) → Type 0 = λ ls. AllByRecursion (IsSaidBy name) ls in
    record {
      said = (subst A cut c.loop-rest.invariant.said).1;
      ready = c.in_ok-serve_said.ensures.ready;
      rest = λ held new serves.
          let P : List (List ℕ) → Type 0 = λ ls. ServesAll name ls (state_with c.loop-rest.self held) new in
          c.loop-rest.invariant.rest held new (subst P (sym cut) (state_with c.serve_said.new.self held, c.in_ok-serve_said.ensures.serves held, serves));
    }
