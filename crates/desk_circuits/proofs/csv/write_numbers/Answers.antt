use Rattle.desk_circuits.proofs.Prelude.{slice_get-get_or, part_loop, writes_part, number_field}
use Rattle.desk_circuits.proofs.csv.write_numbers.Goals as goal

pub returns-in_err-write_number : goal.returns-in_err-write_number
returns-in_err-write_number g c =
    writes_part _ c.from_residual.ensures.0
    (part_loop number_field _ c.loop-number.number-index _ (slice_get-get_or _ _ 0 c.loop-number-test.true) c.loop-number.invariant c.in_err-write_number.ensures)
