use Rattle.one_user.proofs.Prelude.{subst}
use Rattle.cluster.specs.LawfulPackings.{IsPacked}
use Rattle.one_user.proofs.TooFew.{unrouted_below}
use Rattle.one_user.proofs.least.too_few_below.Goals as goal

pub returns : goal.returns
returns c =
    let placing = c.args.placing.now in
    let packed = subst IsPacked c.packed.ensures c.laws-2.ensures in
    unrouted_below c.few_cross_at_end.ensures c.args.plan c.args.request c.requires.lawful placing c.requires.placed (c.laws_of_packing.ensures placing.packed packed) c.laws.ensures packed.arch c.args.first c.requires.first
