use Rattle.layout_check.proofs.Prelude.{◌+◌, ◌<◌, ℕ, ap, arith, length, min, ◌∙◌, get_or_default}
use Rattle.layout_check.proofs.ReadCounts.{counted_read}
use Rattle.layout_check.proofs.reads.count.Goals as goal

pub returns-then-net-len : goal.returns-then-net-len
returns-then-net-len c =
    let small : c.args.net < length c.args.counts.now.items = omega arith in
    counted_read c.args.counts.now.items c.args.net c.saturating_add.result small
    (c.saturating_add.ensures ∙ ap (λ (n : ℕ). min (n + 1) 255) (c.index.ensures ∙ get_or_default c.args.counts.now.items c.args.net c.index.result.now 0 small))
