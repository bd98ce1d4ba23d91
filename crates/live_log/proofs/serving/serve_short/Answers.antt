use Rattle.live_log.proofs.Prelude.{ℕ, List, ◌++◌, OnOk, Bor, map, subst, AreAnswered, physical_lines, texts, lines_kept, last_line}
use Rattle.live_log.proofs.ServingSteps.{then_served}
use Rattle.live_log.proofs.serving.serve_short.Goals as goal

pub returns-clause-served : goal.returns-clause-served
returns-clause-served g c =
    let kept = lines_kept c.args.short.now.kept.items (physical_lines c.args.short.now.log.now) in
    let P : List (Bor (List ℕ)) → Type 0 = λ tags. OnOk c.serve_last.result ((text : List ℕ) × AreAnswered g.A.Answers.answers c.args.service.now 1 (kept ++ map last_line (texts tags)) text c.serve_last.new.service) in
    subst P c.as_slice.ensures.value
    (then_served g.A.Answers.answers c.args.service.now c.serve_kept.new.service c.serve_last.new.service c.in_ok-number.number kept (map last_line (texts c.as_slice.result.now)) c.serve_last.result
    c.in_ok-number.ensures.served c.in_ok-number.ensures.number c.serve_last.ensures.served)
