use Rattle.line_text.proofs.Prelude.{◌≡◌, ℕ, ◌+◌, ◌-◌, ◌≤◌, List, ◌++◌, length, take, drop, sym, ap, ◌∙◌, subst, Option, arith, length-drop, take_rest, drop-drop, take-add, Appends, Appends-trans}
use Rattle.line_text.proofs.sink.write_all.Goals as goal

-- what is left after one more write
left_after : (bytes rest : List ℕ) (n count : ℕ) → rest ≡ drop n bytes → take (length rest - count) (drop count rest) ≡ drop (n + count) bytes
left_after bytes rest n count e = take_rest rest count ∙ (ap (drop count) e ∙ drop-drop count n bytes)

-- what was taken after one more write
taken_after : (a b c : Option (List ℕ)) (bytes rest : List ℕ) (n count : ℕ) → rest ≡ drop n bytes → Appends a b (take n bytes) → Appends b c (take count rest) → Appends a c (take (n + count) bytes)
taken_after a b c bytes rest n count e first second =
    subst (λ all. Appends a c all) (ap (λ part. take n bytes ++ take count part) e ∙ sym (take-add n count bytes)) (Appends-trans a b c _ _ first second)

within : (bytes rest : List ℕ) (n count : ℕ) → rest ≡ drop n bytes → n ≤ length bytes → count ≤ length rest → n + count ≤ length bytes
within bytes rest n count e h l = omega (arith, ap length e, length-drop n bytes)

pub loop-rest-preserved : goal.loop-rest-preserved
loop-rest-preserved g c =
    let (n, le, rest, taken, works) = c.loop-rest.invariant in
    let count = c.in_ok-count.count in
    (n + count, within _ _ n count rest le c.in_ok-count.ensures.bound, left_after _ _ n count rest, taken_after _ _ _ _ _ n count rest taken c.in_ok-count.ensures.bytes, c.in_ok-count.ensures.works.1 ∙ (sym c.in_ok-count.ensures.works.0 ∙ works))
