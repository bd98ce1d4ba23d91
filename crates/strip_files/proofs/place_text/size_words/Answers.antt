use Rattle.strip_files.proofs.Prelude.{◌≡◌, ◌∙◌, Bool, ◌&&◌, ℕ, true, refl, sym, append-nil, codes, decimal, arith, ◌++◌}
use Rattle.strip_files.proofs.Fronts.{number_taken, text_taken}
use Rattle.strip_files.proofs.place_text.size_words.Goals as goal

all_told : (a b c d : Bool) (m n columns rows : ℕ) → a ≡ true → b ≡ true → c ≡ true → d ≡ true → m ≡ columns → n ≡ rows → ◌≡◌ {A = Bool × ℕ × ℕ} (((a && b) && c) && d, m, n) (true, columns, rows)
all_told a b c d m n columns rows e f g h i j = rw (e, f, g, h, i, j) refl

pub returns : goal.returns
returns c columns rows within stops same =
    let end = c.args.end.now in
    let begun = text_taken (codes "Array size: ") c.new-scanner.result c.takes-begins.new.self (decimal columns ++ (codes " x " ++ (decimal rows ++ end))) c.takes-begins.result c.takes-begins.ensures.whether c.takes-begins.ensures.taken (c.new-scanner.ensures ∙ same) in
    let wide = number_taken columns c.takes-begins.new.self c.number-columns.new.self (codes " x " ++ (decimal rows ++ end)) c.number-columns.result (omega (arith, within.0.1)) refl c.number-columns.ensures.number c.number-columns.ensures.taken begun.1 in
    let crossed = text_taken (codes " x ") c.number-columns.new.self c.takes-has_cross.new.self (decimal rows ++ end) c.takes-has_cross.result c.takes-has_cross.ensures.whether c.takes-has_cross.ensures.taken wide.1 in
    let high = number_taken rows c.takes-has_cross.new.self c.number-rows.new.self end c.number-rows.result (omega (arith, within.1.1)) stops c.number-rows.ensures.number c.number-rows.ensures.taken crossed.1 in
    let ended = text_taken end c.number-rows.new.self c.takes-has_end.new.self _ c.takes-has_end.result c.takes-has_end.ensures.whether c.takes-has_end.ensures.taken (high.1 ∙ sym (append-nil end)) in
    let wide_is : c.unwrap_or.result ≡ columns = rw wide.0 at c.unwrap_or.ensures in
    let high_is : c.unwrap_or-2.result ≡ rows = rw high.0 at c.unwrap_or-2.ensures in
    all_told c.takes-begins.result c.takes-has_cross.result c.takes-has_end.result c.is_done.result c.unwrap_or.result c.unwrap_or-2.result columns rows begun.0 crossed.0 ended.0 (c.is_done.ensures.1 ended.1) wide_is high_is
