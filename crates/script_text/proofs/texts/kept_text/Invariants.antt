use Rattle.script_text.proofs.Prelude.{◌≡◌, ◌++◌, ◌≤◌, length, vec_len, kept_part, without_crs}
use Rattle.script_text.proofs.texts.kept_text.Given as goal

-- the text so far, and the remaining lines, are all of it
abbrev pub invariant-loop-rest : goal.invariant-loop-rest
invariant-loop-rest l = record {
  within : vec_len l.text ≤ 1048577;
  same : kept_part (l.text.items ++ without_crs l.rest) ≡ kept_part (without_crs l.ahead);
}

abbrev pub decreases-loop-rest : goal.decreases-loop-rest
decreases-loop-rest l = length l.rest
