use Rattle.arch_file.proofs.Prelude.{◌∙◌, arith, sym, take}
use Rattle.arch_file.proofs.ReaderLemmas.{faults_behind-fine, reads_fault, take_line}
use Rattle.arch_file.proofs.reader.read_lines.Goals as goal

pub returns-in-Err : goal.returns-in-Err
returns-in-Err c =
    let lines = c.args.lines.now in
    let place = c.loop-place.place in
    rw (c.at_line.ensures, c.number.ensures)
    (reads_fault lines place _ c.in-Err.refusal c.loop-place.draft c.requires c.line-line.ensures
    (c.in-Err.ensures (take place lines) c.loop-place.invariant.follows) c.loop-place.invariant.rest)

pub loop-place-preserved : goal.loop-place-preserved
loop-place-preserved c =
    let lines = c.args.lines.now in
    let place = c.loop-place.place in
    let reads = c.in_default.ensures (take place lines) c.loop-place.invariant.follows in
    let found = c.line-line.ensures in
    record {
      within = omega arith;
      follows = rw (take_line lines place _ found) reads.1;
      rest = sym (faults_behind-fine lines place _ found reads.0) ∙ c.loop-place.invariant.rest;
    }
