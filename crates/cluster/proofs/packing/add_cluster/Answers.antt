use Rattle.cluster.proofs.Prelude.{◌∙◌, ◌==◌, ap, sym, length, cluster_of}
use Rattle.cluster.proofs.Going.{none_taken}
use Rattle.cluster.proofs.packing.add_cluster.Goals as goal

pub returns-then-is_empty-clause-free : goal.returns-then-is_empty-clause-free
returns-then-is_empty-clause-free c =
    let old = c.args.grower.now in
    let cluster = cluster_of c.args.arch.now old.elements old.free in
    let members = c.members.ensures.value ∙ c.in_ok-choose.ensures.members in
    c.in_ok-choose.ensures.free ∙ none_taken old.free cluster (ap (λ ms. length ms == 0) (sym members) ∙ sym c.is_empty.ensures ∙ c.if-is_empty.true)
