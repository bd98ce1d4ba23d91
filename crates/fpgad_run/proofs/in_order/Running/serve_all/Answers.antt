use Rattle.fpgad_run.proofs.Prelude.{◌≡◌, ℕ, List, [], ◌∙◌, ap, refl, sym, subst, rules, map, YieldsList-from_vec, YieldsList-end, map-id, map_push, Basis, ServiceState, empty_service, Act, Stage, named_act, device_of, told_so_far}
use Rattle.fpgad_run.proofs.Telling.{Progress, progress_more, replies_all}
use Rattle.fpgad_run.proofs.in_order.Running.serve_all.Goals as goal

pub loop-act-preserved : goal.loop-act-preserved
loop-act-preserved c =
    let start : Stage = record { names = []; jobs = []; service = c.args.self.now.core; graph = c.args.self.now.graph.now } in
    let told = map named_act c.loop-act.yielded in
    let more = progress_more start c.loop-act.self c.serve.new.self told (named_act c.in-Some.act) c.loop-act.invariant c.in_ok-serve.ensures in
    let P : List (Act (List ℕ)) → Type 0 = λ acts. Progress start c.serve.new.self acts in
    subst P (sym (map_push named_act c.loop-act.yielded c.in-Some.act)) more

pub returns : goal.returns
returns c = record {
  told = λ options arch starts own.
      let end = YieldsList-end (YieldsList-from_vec {s = c.into_iter-act-iterator.result} c.into_acts-act-items.result.items (search rules) (search rules)) c.loop-act.yielded c.loop-act.act-iterator c.loop-act.yielded_by c.next.result c.next.new.self c.in-None.is c.next.ensures.steps in
      let yielded : c.loop-act.yielded ≡ c.into_acts-act-items.result.items = sym (map-id c.loop-act.yielded) ∙ end.0 in
      let all : map named_act c.loop-act.yielded ≡ c.args.script = ap (map named_act) yielded ∙ c.into_acts-act-items.ensures in
      let P : ServiceState → Type 0 = λ s. Progress (record { names = []; jobs = []; service = s; graph = c.args.self.now.graph.now }) c.loop-act.self (map named_act c.loop-act.yielded) in
      let Q : Basis → Type 0 = λ g. Progress (record { names = []; jobs = []; service = empty_service (device_of options arch); graph = g }) c.loop-act.self (map named_act c.loop-act.yielded) in
      let progress = subst Q own (subst P starts c.loop-act.invariant) in
      replies_all options arch c.args.script c.loop-act.self (map named_act c.loop-act.yielded) (told_so_far c.loop-act.self) (record { alone = c.headline.ensures.alone; parted = c.headline.ensures.parted; journals = c.headline.ensures.journals; book = c.headline.ensures.book; exact = c.headline.ensures.exact; line = c.end_to_end.ensures }) progress all refl;
  even = c.loop-act.invariant.even;
}
