use Rattle.blif.proofs.Prelude.{◌≡◌, take}
use Rattle.blif.proofs.reader.net_names.Given as goal

-- the names so far are copied
abbrev pub invariant-loop-net : goal.invariant-loop-net
invariant-loop-net l = l.nets ≡ take l.net l.names
