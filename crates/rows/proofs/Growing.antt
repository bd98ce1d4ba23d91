-- Parts of a flat list to which items are appended.
use Rattle.rows.proofs.Prelude.{◌≡◌, ℕ, ◌-◌, ◌≤◌, List, [], ◌∷◌, ◌++◌, length, drop, map, refl, sym, ap, ◌∙◌, arith, length-append, length-drop, map_push, take-append-le, drop-append-le, drop_at, take_all, Span, part_of, AreWithin}

-- a part is unchanged
pub part_of-append : {A : Type 0} (xs ys : List A) (span : Span) → span.start ≤ span.end → span.end ≤ length xs → part_of (xs ++ ys) span ≡ part_of xs span
part_of-append xs ys span ordered within =
    let starts : span.start ≤ length xs = omega arith in
    let fits : span.end - span.start ≤ length (drop span.start xs) = simp length-drop (omega arith) in
    rw (drop-append-le span.start xs ys starts) (take-append-le (span.end - span.start) (drop span.start xs) ys fits)

-- the appended items are the part at their span
pub part_of-added : {A : Type 0} (xs ys : List A) (start end : ℕ) → start ≡ length xs → end ≡ length (xs ++ ys) → part_of (xs ++ ys) (record { start = start; end = end }) ≡ ys
part_of-added xs ys start end starts ends =
    let at : length xs ≡ start = sym starts in
    let all : length ys ≤ end - start = omega (arith, length-append xs ys) in
    rw (drop_at xs ys start at) (take_all (end - start) ys all)

-- the parts at spans within the list are unchanged
pub parts-append : {A : Type 0} (xs ys : List A) (spans : List Span) → AreWithin (length xs) spans → map (part_of (xs ++ ys)) spans ≡ map (part_of xs) spans
parts-append xs ys [] within = refl
parts-append xs ys (span ∷ spans) within =
    let head = part_of-append xs ys span within.0.0 within.0.1 in
    let tail = parts-append xs ys spans within.1 in
    cc

-- the parts with one more, whose items were appended to the list
pub parts_push : {A : Type 0} (xs ys : List A) (spans : List Span) (start end : ℕ) → AreWithin (length xs) spans → start ≡ length xs → end ≡ length (xs ++ ys) → map (part_of (xs ++ ys)) (spans ++ record { start = start; end = end } ∷ []) ≡ map (part_of xs) spans ++ ys ∷ []
parts_push xs ys spans start end within starts ends =
    map_push (part_of (xs ++ ys)) spans (record { start = start; end = end })
    ∙ ap (λ front. front ++ part_of (xs ++ ys) (record { start = start; end = end }) ∷ []) (parts-append xs ys spans within)
    ∙ ap (λ last. map (part_of xs) spans ++ last ∷ []) (part_of-added xs ys start end starts ends)
