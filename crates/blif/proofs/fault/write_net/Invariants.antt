use Rattle.blif.proofs.Prelude.{◌++◌, codes, take, encode_utf8_all, HasWritten, IsPlainFormatter}
use Rattle.blif.proofs.fault.write_net.Given as goal

-- the blank and the bytes so far are written
abbrev pub invariant-loop-byte : goal.invariant-loop-byte
invariant-loop-byte g l = IsPlainFormatter l.fn.f → HasWritten g.W.Write.write_str_gives l.fn.f (codes " " ++ encode_utf8_all (take l.byte-index l.net)) l.f
