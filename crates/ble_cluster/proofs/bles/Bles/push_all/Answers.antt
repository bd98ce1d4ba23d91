use Rattle.ble_cluster.proofs.Prelude.{bles_of}
use Rattle.ble_cluster.proofs.bles.Bles.push_all.Goals as goal

pub returns : goal.returns
unfolding bles_of
returns c = rw (c.as_slice.ensures.value, c.in_ok-latches.ensures) at c.push_in_order-pushed.ensures
