use Rattle.ble_cluster.proofs.Prelude.{◌∙◌, sym, subst, arith, IsFirstWithin}
use Rattle.ble_cluster.proofs.FreeNumbers.{from_next, lowest_here, none_free}
use Rattle.ble_cluster.proofs.first_free.FirstFree.lowest_free.Goals as goal

pub returns-then-is_some-clause-first : goal.returns-then-is_some-clause-first
returns-then-is_some-clause-first c =
    let i = c.loop-bound.invariant in
    lowest_here _ _ c.loop-bound.bound _ (sym c.is_some.ensures ∙ c.if-is_some.true) i.from (subst (λ keys. IsFirstWithin c.args.taken.now keys c.loop-bound.bound c.first_within-first.result) i.keys c.first_within-first.ensures.first)

pub loop-bound-preserved : goal.loop-bound-preserved
loop-bound-preserved c =
    let i = c.loop-bound.invariant in
    let first = subst (λ keys. IsFirstWithin c.args.taken.now keys c.loop-bound.bound c.first_within-first.result) i.keys c.first_within-first.ensures.first in
    record {
      keys = c.first_within-first.ensures.keys ∙ i.keys;
      lawful = c.first_within-first.ensures.lawful;
      from = from_next _ _ c.loop-bound.bound _ (sym c.is_some.ensures ∙ c.if-is_some.false) first;
    }

pub returns-clause-first : goal.returns-clause-first
returns-clause-first c =
    let i = c.loop-bound.invariant in
    none_free _ _ c.loop-bound.bound (λ k d small. omega (arith, c.requires.bounds k d small)) i.from
