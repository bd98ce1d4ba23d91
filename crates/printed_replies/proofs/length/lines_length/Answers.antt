use Rattle.printed_replies.proofs.Prelude.{◌≡◌, ◌≤◌, ◌+◌, ◌-◌, suc, Some, length, option_map, ap, ◌∙◌, arith, rules, length-drop, line_length, lines_length}
use Rattle.printed_replies.proofs.LengthLemmas.{line_more}
use Rattle.printed_replies.proofs.length.lines_length.Goals as goal

pub loop-left-preserved : goal.loop-left-preserved
loop-left-preserved c =
    let bytes = c.args.bytes.now in
    let rest = c.loop-left.rest.now in
    let left = c.loop-left.left in
    let first = c.in_ok-line_length.field-0 in
    let is : line_length rest ≡ Some first = search rules in
    let within : first ≤ length rest = search rules in
    let some : left ≡ suc (left - 1) = omega (arith, c.loop-left-test.true) in
    let inside : length rest ≤ length bytes = c.loop-left.invariant.within in
    let shorter = length-drop first rest in
    record {
      within = rw c.split_at.ensures.back (omega (arith, inside, shorter));
      same = ap (λ r. option_map (λ more. (length bytes - length r) + more) (lines_length (left - 1) r)) c.split_at.ensures.back
          ∙ line_more left (left - 1) (length bytes) first rest some is within inside ∙ c.loop-left.invariant.same;
    }
