use Rattle.desk_circuits.proofs.Prelude.{slice_get-get_or, part_loop, writes_part, doubled_quote}
use Rattle.desk_circuits.proofs.csv.write_doubled.Goals as goal

pub returns-in_err-write_byte : goal.returns-in_err-write_byte
returns-in_err-write_byte g c =
    writes_part _ c.from_residual.ensures.0
    (part_loop doubled_quote _ c.loop-byte.byte-index _ (slice_get-get_or _ _ 0 c.loop-byte-test.true) c.loop-byte.invariant c.in_err-write_byte.ensures)
