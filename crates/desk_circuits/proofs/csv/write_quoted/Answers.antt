use Rattle.desk_circuits.proofs.Prelude.{part_first, part_then, writes_part, writes_then}
use Rattle.desk_circuits.proofs.csv.write_quoted.Goals as goal

pub returns-in_err-write_quote : goal.returns-in_err-write_quote
returns-in_err-write_quote g c =
    writes_part _ c.from_residual.ensures.0 (part_first _ c.in_err-write_quote.ensures)

pub returns-in_err-write_doubled : goal.returns-in_err-write_doubled
returns-in_err-write_doubled g c =
    writes_part _ c.from_residual-in_err-write_doubled.ensures.0
    (part_then c.in_ok-write_quote.ensures (part_first _ c.in_err-write_doubled.ensures))

pub returns : goal.returns
returns g c =
    writes_then c.in_ok-write_quote.ensures _ _ c.write_quote-2.result
    (writes_then c.in_ok-write_doubled.ensures _ _ c.write_quote-2.result c.write_quote-2.ensures)
