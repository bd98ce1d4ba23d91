use Rattle.sessions.proofs.Fitting.{own_made}
use Rattle.sessions.proofs.graphs.device_graph.Goals as goal

pub new-requires-clause-size : goal.new-requires-clause-size
new-requires-clause-size c = record { width = c.requires.columns; rows = c.requires.rows; io_rat = c.requires.arch.io_rat }

pub returns : goal.returns
returns c = own_made c.args.device.now c.new.result c.new.ensures.arch c.new.ensures.strip
