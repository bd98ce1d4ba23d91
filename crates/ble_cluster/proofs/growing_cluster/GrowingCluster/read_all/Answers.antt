use Rattle.ble_cluster.proofs.Prelude.{arith}
use Rattle.ble_cluster.proofs.GrowingLemmas.{reads_on}
use Rattle.ble_cluster.proofs.growing_cluster.GrowingCluster.read_all.Goals as goal

pub read-requires : goal.read-requires
read-requires c = record {
  within = c.requires.within c.loop-net.net-index 0 (omega arith);
  room = c.loop-net.invariant.1;
  told = c.loop-net.invariant.2;
}

pub loop-net-preserved : goal.loop-net-preserved
loop-net-preserved c =
    let i = c.loop-net.invariant in (
      reads_on c.args.self.now c.loop-net.self c.read.new.self c.args.nets.now c.loop-net.net-index (omega arith) i.0 c.in_ok-read.ensures.same c.in_ok-read.ensures.read,
      c.in_ok-read.ensures.room,
      c.in_ok-read.ensures.told,
    )
