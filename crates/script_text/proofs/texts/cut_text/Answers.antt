use Rattle.script_text.proofs.Prelude.{◌≡◌, ◌∷◌, ◌<◌, length, false, rules, physical_lines, ends_text}
use Rattle.script_text.proofs.Walked.{first_of, shorter, walked_more}
use Rattle.script_text.proofs.texts.cut_text.Goals as goal

pub loop-rest-preserved : goal.loop-rest-preserved
loop-rest-preserved c =
    let rest = c.loop-rest.rest.now in
    let line = c.split_line.result.0.now in
    let after = c.split_line.result.1.now in
    let some : 0 < length rest = search rules in
    let lines : physical_lines rest ≡ line ∷ physical_lines after = c.split_line.ensures.lines some in
    let less : length after < length rest = rw c.split_line.ensures.later (shorter rest some) in
    let passed : ends_text line ≡ false = search rules in
    walked_more c.args.number c.args.bytes.now rest line after c.loop-rest.number c.loop-rest.invariant lines less
    (rw (c.split_line.ensures.first, c.split_line.ensures.later) (first_of rest)) passed
