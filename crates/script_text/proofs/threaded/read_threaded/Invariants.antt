use Rattle.script_text.proofs.Prelude.{◌≡◌, ◌+◌, ◌≤◌, length, physical_lines, AreNamed, threaded_from, threaded_of, heard_by}
use Rattle.script_text.proofs.threaded.read_threaded.Given as goal

-- what is read so far, with the remaining lines, results in the script's parts
abbrev pub invariant-loop-rest : goal.invariant-loop-rest
invariant-loop-rest l = record {
  counted : l.number + length l.rest ≤ l.fn.number + length l.text;
  same : threaded_from l.number (heard_by l.reader) (physical_lines l.rest) ≡ threaded_of l.fn.number l.text;
  named : AreNamed l.reader.sessions;
}

abbrev pub decreases-loop-rest : goal.decreases-loop-rest
decreases-loop-rest l = length l.rest
