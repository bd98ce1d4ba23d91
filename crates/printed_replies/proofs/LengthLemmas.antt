-- A number of lines, one by one.
use Rattle.printed_replies.proofs.Prelude.{◌≡◌, ℕ, suc, ◌+◌, ◌-◌, ◌≤◌, List, length, drop, Option, Some, arith, length-drop, line_length, lines_length}
use Rattle.std.specs.Prelude.{option_map}

counted : (whole first : ℕ) (rest : List ℕ) (o : Option ℕ) → first ≤ length rest → length rest ≤ whole →
    option_map (λ more. (whole - length (drop first rest)) + more) o ≡ option_map (λ more. (whole - length rest) + more) (option_map (λ more. first + more) o)
counted whole first rest o within inside = grind (arith, length-drop)

-- one more line
pub line_more : (left fewer whole first : ℕ) (rest : List ℕ) → left ≡ suc fewer → line_length rest ≡ Some first → first ≤ length rest → length rest ≤ whole →
    option_map (λ more. (whole - length (drop first rest)) + more) (lines_length fewer (drop first rest)) ≡ option_map (λ more. (whole - length rest) + more) (lines_length left rest)
line_more left fewer whole first rest e is within inside = grind (arith, counted)
