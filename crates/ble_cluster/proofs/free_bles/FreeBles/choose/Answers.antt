use Rattle.ble_cluster.proofs.free_bles.FreeBles.choose.Goals as goal

pub choose-requires-clause-by_outside : goal.choose-requires-clause-by_outside
choose-requires-clause-by_outside c =
    let kept = c.self.invariant.0 in
    let seeded = c.self.invariant.1 in
    rw c.as_slice.ensures.value (record { few = kept.few; taken = kept.marks; counts = seeded.outside; free = seeded.by_outside_free })
