use Rattle.layout_files.proofs.Prelude.{arith, [], Bor, List, ℕ, Text, bytes_of_part}
use Rattle.layout_files.proofs.Printing.{next_printed}
use Rattle.layout_files.proofs.cursor.Cursor.print.Goals as goal

pub loop-part-preserved : goal.loop-part-preserved
loop-part-preserved c =
    let none : Bor (List ℕ) = record { ref_ptr = (0, 0); now = [] } in
    record {
      left = next_printed bytes_of_part c.args.parts.now c.loop-part.part-index (Text none) c.args.self.now c.loop-part.self c.print_part.new.self c.loop-part-test.true c.loop-part.invariant.left c.print_part.ensures.left;
      shorter = omega (arith, c.print_part.ensures.shorter, c.loop-part.invariant.shorter);
    }
