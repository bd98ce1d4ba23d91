use Rattle.script_text.proofs.Prelude.{◌≡◌, ◌+◌, ◌≤◌, length, comes_to, script_of}
use Rattle.script_text.proofs.script.read_script.Given as goal

-- the acts so far, and those of the remaining lines, are those of the script
abbrev pub invariant-loop-reader : goal.invariant-loop-reader
invariant-loop-reader l = record {
  counted : l.reader.number + length l.reader.rest.now ≤ l.fn.number + length l.text;
  same : comes_to l.reader ≡ script_of l.fn.number l.text;
}

abbrev pub decreases-loop-reader : goal.decreases-loop-reader
decreases-loop-reader l = length l.reader.rest.now
