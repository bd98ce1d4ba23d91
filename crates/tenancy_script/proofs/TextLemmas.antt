-- Lines of a text, and of texts one after the other.
use Rattle.tenancy_script.proofs.Prelude.{◌≡◌, ℕ, suc, ◌+◌, ◌-◌, ◌<◌, List, [], ◌∷◌, ◌++◌, Bool, true, false, not, cond, eqb, length, take, drop, refl, sym, ap, ◌∙◌, arith, append_assoc, slice_index, ◌&&◌, list_all, onto_first, and_parts, true≢false, physical_lines, without_cr, last_feed, is_ended}

-- neither LF nor CR
abbrev pub is_plain : ℕ → Bool
is_plain b = not (eqb b 10) && not (eqb b 13)

pub is_not : (x : Bool) → not x ≡ true → x ≡ false
is_not x e = grind arith

-- a line and LF are the first line of a text
pub line_first : (line more : List ℕ) → list_all is_plain line ≡ true → physical_lines (line ++ 10 ∷ more) ≡ line ∷ physical_lines more
line_first [] more plain = refl
line_first (b ∷ line) more plain =
    let parts = and_parts (is_plain b) (list_all is_plain line) plain in
    let lf : eqb b 10 ≡ false = is_not (eqb b 10) (and_parts (not (eqb b 10)) (not (eqb b 13)) parts.0).0 in
    ap (λ v. cond v ([] ∷ physical_lines (line ++ 10 ∷ more)) (onto_first b (physical_lines (line ++ 10 ∷ more)))) lf ∙ ap (onto_first b) (line_first line more parts.1)

-- a line without CR stays as it is
cr_later : (b : ℕ) (line : List ℕ) → eqb b 13 ≡ false → without_cr (b ∷ line) ≡ b ∷ without_cr line
cr_later b [] e = grind arith
cr_later b (c ∷ line) e = grind arith

cr_none : without_cr [] ≡ []
cr_none = elim (eqb (slice_index [] 0) 13) as (λ v. cond {A = List ℕ} v [] [] ≡ []) [ true ↦ refl | false ↦ refl ]

pub without_cr-plain : (line : List ℕ) → list_all is_plain line ≡ true → without_cr line ≡ line
without_cr-plain [] plain = cr_none
without_cr-plain (b ∷ line) plain =
    let parts = and_parts (is_plain b) (list_all is_plain line) plain in
    let cr : eqb b 13 ≡ false = is_not (eqb b 13) (and_parts (not (eqb b 10)) (not (eqb b 13)) parts.0).1 in
    cr_later b line cr ∙ ap (λ l. b ∷ l) (without_cr-plain line parts.1)

-- a text that isn't empty has a line
length-onto : (b : ℕ) (lines : List (List ℕ)) → 0 < length (onto_first b lines)
length-onto b lines = grind arith

some_lines : (b : ℕ) (text : List ℕ) → 0 < length (physical_lines (b ∷ text))
some_lines b text = grind arith

onto_first-append : (b : ℕ) (lines more : List (List ℕ)) → 0 < length lines → onto_first b (lines ++ more) ≡ onto_first b lines ++ more
onto_first-append b lines more some = grind arith

-- the lines of a text that ends with LF, and those of the text after it
pub lines-append : (text more : List ℕ) → is_ended text ≡ true → physical_lines (text ++ more) ≡ physical_lines text ++ physical_lines more
lines-append [] more e = refl
lines-append (b ∷ []) more e = grind arith
lines-append (b ∷ c ∷ text) more e = grind (arith, onto_first-append, some_lines, lines-append (c ∷ text) more e)

-- an LF that ends the last line adds none
lines-closed : (text : List ℕ) → is_ended text ≡ false → physical_lines (text ++ 10 ∷ []) ≡ physical_lines text
lines-closed [] e = absurd (true≢false e)
lines-closed (b ∷ []) e = grind arith
lines-closed (b ∷ c ∷ text) e = ap (λ lines. cond (eqb b 10) ([] ∷ lines) (onto_first b lines)) (lines-closed (c ∷ text) e)

ended-closed : (text : List ℕ) → is_ended (text ++ 10 ∷ []) ≡ true
ended-closed [] = refl
ended-closed (b ∷ []) = refl
ended-closed (b ∷ c ∷ text) = ended-closed (c ∷ text)

pub lines-closing : (text more : List ℕ) → physical_lines (text ++ (last_feed text ++ more)) ≡ physical_lines text ++ physical_lines more
lines-closing text more = grind (arith, lines-append, lines-closed, append_assoc text (10 ∷ []) more, lines-append (text ++ 10 ∷ []) more (ended-closed text))

-- whether a text ends with LF follows from its last byte
pub ended_at : (text : List ℕ) → 0 < length text → eqb (slice_index text (length text - 1)) 10 ≡ is_ended text
ended_at [] some = absurd (omega arith)
ended_at (b ∷ []) some = refl
ended_at (b ∷ c ∷ text) some =
    let n : length (b ∷ c ∷ text) - 1 ≡ suc (length text) = omega arith in
    let m : length (c ∷ text) - 1 ≡ length text = omega arith in
    ap (λ k. eqb (slice_index (b ∷ c ∷ text) k) 10) n ∙ sym (ap (λ k. eqb (slice_index (c ∷ text) k) 10) m) ∙ ended_at (c ∷ text) (omega arith)

-- a text whose last part ends with LF ends with LF
pub ended-append : (text more : List ℕ) → 0 < length more → is_ended (text ++ more) ≡ is_ended more
ended-append [] more some = refl
ended-append (b ∷ []) [] some = absurd (omega arith)
ended-append (b ∷ []) (c ∷ more) some = refl
ended-append (b ∷ c ∷ text) more some = ended-append (c ∷ text) more some

-- the elements before an element, and after it
pub take-front : {X : Type 0} (xs ys : List X) → take (length xs) (xs ++ ys) ≡ xs
take-front [] ys = refl
take-front (x ∷ xs) ys = ap (λ l. x ∷ l) (take-front xs ys)

pub drop-front : {X : Type 0} (xs : List X) (y : X) (ys : List X) → drop (length xs + 1) (xs ++ y ∷ ys) ≡ ys
drop-front [] y ys = refl
drop-front (x ∷ xs) y ys = grind (arith, drop-front xs y ys)
