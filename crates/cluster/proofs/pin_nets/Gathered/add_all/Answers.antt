use Rattle.cluster.proofs.ReaderLists.{told_all}
use Rattle.cluster.proofs.pin_nets.Gathered.add_all.Goals as goal

pub returns-clause-readers : goal.returns-clause-readers
returns-clause-readers c =
    let is = told_all c.args.circuit.now c.args.bles.now c.args.clusters.now c.add_with-added.new.self.pairs.items c.in_ok-added.ensures.pairs in
    rw (c.as_slice.ensures.value, c.len-count.ensures, is) at c.by_key.ensures
