use Rattle.ble_cluster.proofs.Prelude.{◌∙◌, subst, IsFirstFree, IsKept, IsLowest}
use Rattle.ble_cluster.proofs.SeedLemmas.{seeded_on, written}
use Rattle.ble_cluster.proofs.free_bles.FreeBles.take.Goals as goal

pub invariant_of-self : goal.invariant_of-self
invariant_of-self c =
    let old = c.self.inside in
    let new = c.mark_taken.new.taken in
    let kept = subst (λ ts. IsKept ts new) c.as_mut_slice.ensures.value c.mark_taken.ensures.kept in
    let is = written new old.taken.items old.taken.len kept.count old.taken.ok.0 in
    let slice = c.as_slice-2.ensures.value ∙ is in
    let lowest = c.lowest_free-self-inside.ensures in
    let g = c.self.invariant.0 in
    rw is (
      record { marks = kept.count ∙ g.marks; few = g.few; members = g.members; room = g.room },
      seeded_on old.elements.elements old.taken.items new old.by_lack c.lowest_free-self-inside.new.self old.by_outside old.seed c.lowest_free-self-inside.result g.marks c.self.invariant.1 kept
          lowest.keys
          (subst (λ ts. IsFirstFree ts c.lowest_free-self-inside.new.self) slice lowest.lawful)
          (subst (λ ts. IsLowest ts old.by_lack.keys.items c.lowest_free-self-inside.result) slice lowest.first),
    )
