use Rattle.line_text.proofs.Prelude.{◌≡◌, ◌+◌, ◌≤◌, length, take, suffix_len, is_blank}
use Rattle.line_text.proofs.reader.trim_end.Given as goal

abbrev pub invariant-loop-end : goal.invariant-loop-end
invariant-loop-end l = record {
  within : l.end ≤ length l.bytes;
  blank : l.end + suffix_len is_blank l.bytes ≡ length l.bytes + suffix_len is_blank (take l.end l.bytes);
}

abbrev pub decreases-loop-end : goal.decreases-loop-end
decreases-loop-end l = l.end
