use Rattle.ble_cluster.proofs.Counting.{counts_more}
use Rattle.ble_cluster.proofs.readers.count.Goals as goal

pub returns : goal.returns
returns c = counts_more c.args.counts.now c.args.net c.saturating_add.result c.requires c.saturating_add.ensures
