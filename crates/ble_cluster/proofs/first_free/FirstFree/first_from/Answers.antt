use Rattle.ble_cluster.proofs.Prelude.{◌∙◌, arith, sym}
use Rattle.ble_cluster.proofs.FreeNumbers.{above_more, least_here, none_within}
use Rattle.ble_cluster.proofs.first_free.FirstFree.first_from.Goals as goal

pub returns-then-is_within : goal.returns-then-is_within
returns-then-is_within c = least_here _ _ _ _ (omega arith) c.loop-number.invariant (sym c.if-is_within.true ∙ c.is_within.ensures)

pub loop-number-preserved : goal.loop-number-preserved
loop-number-preserved c = above_more _ _ _ _ c.loop-number.invariant (sym c.if-is_within.false ∙ c.is_within.ensures)

pub returns : goal.returns
returns c = none_within _ _ _ c.loop-number.number (omega arith) c.loop-number.invariant
