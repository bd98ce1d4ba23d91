use Rattle.line_text.proofs.Prelude.{◌≡◌, ◌^◌, ◌<◌, drop}
use Rattle.line_text.proofs.DecimalLemmas.{number_from}
use Rattle.line_text.proofs.decimal.digits.Given as goal

abbrev pub invariant-loop-byte : goal.invariant-loop-byte
invariant-loop-byte l = (number_from (2 ^ 64) 0 l.bytes ≡ number_from (2 ^ 64) l.number (drop l.byte-index l.bytes)) × (l.number < 2 ^ 64)
