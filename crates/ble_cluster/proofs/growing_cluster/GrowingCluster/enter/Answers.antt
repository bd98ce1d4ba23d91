use Rattle.ble_cluster.proofs.Prelude.{arith}
use Rattle.ble_cluster.proofs.GrowingLemmas.{have_room}
use Rattle.ble_cluster.proofs.growing_cluster.GrowingCluster.enter.Goals as goal

pub has-requires : goal.has-requires
has-requires c = omega (arith, c.requires.within, c.requires.room.reads, c.requires.room.drives)

pub raise-requires : goal.raise-requires
raise-requires c = record {
  within = λ place d small. omega (arith, c.having.ensures.having.within place d small, c.requires.room.gains);
  once = c.having.ensures.having.once;
  room = have_room _ _ _ c.having.ensures.all c.requires.room.gains c.requires.told;
}
