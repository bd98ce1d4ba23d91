use Rattle.strip_files.proofs.Prelude.{arith, ◌≡◌, ◌∙◌, ◌≤◌, ℕ, Option, Some, None, IfSome, IfNone, ap, sym, true≢false, MAX_COLUMNS, MAX_ROWS, HasSize, IsWithin, StripSize}
use Rattle.strip_files.proofs.place_text.size_in.Goals as goal

size_told : (found : Option StripSize) (m n columns rows : ℕ) → m ≡ columns → n ≡ rows → IsWithin columns rows → IfSome found (λ size. (size.columns ≡ m) × (size.rows ≡ n))
    → IfNone found ((1 ≤ m) × (m ≤ MAX_COLUMNS) × (1 ≤ n) × (n ≤ MAX_ROWS) → ⊥) → HasSize found columns rows
size_told None m n columns rows e f within some none = none (omega (arith, e, within.0.0), omega (arith, e, within.0.1), omega (arith, f, within.1.0), omega (arith, f, within.1.1))
size_told (Some size) m n columns rows e f within some none = (some.0 ∙ e, some.1 ∙ f)

pub returns-then-not-is_size : goal.returns-then-not-is_size
returns-then-not-is_size c columns rows within stops same =
    let words = c.size_words-is_size.ensures columns rows within stops same in
    let hidden = c.if-not-is_size.true in
    absurd (true≢false (sym (ap (λ w. w.0) words) ∙ hidden))

pub returns : goal.returns
returns c columns rows within stops same =
    let words = c.size_words-is_size.ensures columns rows within stops same in
    size_told c.new.result c.size_words-is_size.result.1 c.size_words-is_size.result.2 columns rows (ap (λ w. w.1) words) (ap (λ w. w.2) words) within c.new.ensures.some c.new.ensures.none
