use Rattle.script_replies.proofs.Prelude.{◌≡◌, ◌+◌, ◌<◌, ◌^◌, ◌++◌, length, map, physical_lines, asked_from, lines_asked, numbered}
use Rattle.script_replies.proofs.lines.script_lines.Given as goal

-- the lines so far and those of the rest are all lines
abbrev pub invariant-loop-rest : goal.invariant-loop-rest
invariant-loop-rest l =
    record {
      counted : l.number + length l.rest < 2 ^ 64;
      lines : map numbered l.lines.items ++ asked_from l.number l.is_in_text (physical_lines l.rest) ≡ lines_asked l.fn.number l.fn.text;
    }

abbrev pub decreases-loop-rest : goal.decreases-loop-rest
decreases-loop-rest l = length l.rest
