use Rattle.live_log.proofs.Prelude.{◌≡◌, ◌++◌, true, length, map, replicate, append-nil, rules, arith, ap, ◌∙◌, physical_lines, texts, lines_kept, last_line}
use Rattle.live_log.proofs.ServingSteps.{all_chosen}
use Rattle.live_log.proofs.short_log.ShortLog.into_whole.Goals as goal

pub returns-clause-lines : goal.returns-clause-lines
returns-clause-lines c =
    let lines = physical_lines c.args.self.log.now in
    let kept : c.in_ok-from_elem.field-0.items ≡ replicate c.len.result true = search rules in
    let count : c.len.result ≡ length lines = omega (arith, c.len.ensures, c.requires) in
    ap (λ k. lines_kept k lines ++ map last_line (texts c.new.result.items)) kept
    ∙ (ap (λ tags. lines_kept (replicate c.len.result true) lines ++ map last_line (texts tags)) c.new.ensures.items
    ∙ (append-nil (lines_kept (replicate c.len.result true) lines) ∙ all_chosen lines c.len.result count))
