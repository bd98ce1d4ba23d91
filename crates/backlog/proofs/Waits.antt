-- What waits in a backlog.
use Rattle.std.proofs.Common.{◌≡◌, ℕ, zero, suc, ◌+◌, ◌≤◌, List, [], ◌∷◌, ◌++◌, length, map, Option, Some, None, ◌<◌, false, refl, sym, ap, subst, ◌∙◌, arith, append-nil, append_assoc, length-append}
use Rattle.std.specs.Prelude.{replicate}
use Rattle.std.specs.List.{sum_by}
use Rattle.std.proofs.lemmas.List.Sums.{sum_by-cons, sum_by_push}
use Rattle.std.proofs.lemmas.List.{replicate-append-replicate}
use Rattle.backlog.specs.Waiting.{IsBounded, IsWithin, is_none_left, items_not_lost, turns_of}

-- one more that is lost
pub one_lost : {T : Type 0} (items : List T) (lost : ℕ) → turns_of items (lost + 1) ≡ turns_of items lost ++ None ∷ []
one_lost {T = T} items lost = ap (λ (xs : List (Option T)). map Some items ++ xs) (sym (replicate-append-replicate lost 1 None)) ∙ sym (append_assoc (map Some items) (replicate {A = Option T} lost None) (None ∷ []))

map-more : {T : Type 0} (items : List T) (item : T) → map Some (items ++ item ∷ []) ≡ map Some items ++ Some item ∷ []
map-more [] item = refl
map-more (x ∷ items) item = ap (λ xs. Some x ∷ xs) (map-more items item)

-- one more that waits, if none is lost
pub one_more : {T : Type 0} (items : List T) (item : T) → turns_of (items ++ item ∷ []) 0 ≡ turns_of items 0 ++ Some item ∷ []
one_more items item =
    append-nil (map Some (items ++ item ∷ [])) ∙ (map-more items item ∙ sym (ap (λ xs. xs ++ Some item ∷ []) (append-nil (map Some items))))

none-left : {T : Type 0} (n : ℕ) → items_not_lost (replicate {A = Option T} n None) ≡ []
none-left {T = T} zero = refl
none-left {T = T} (suc n) = none-left {T = T} n

-- what waits as itself is the items
pub not_lost-turns : {T : Type 0} (items : List T) (lost : ℕ) → items_not_lost (turns_of items lost) ≡ items
not_lost-turns {T = T} [] lost = none-left {T = T} lost
not_lost-turns (x ∷ items) lost = ap (λ xs. x ∷ xs) (not_lost-turns items lost)

-- an item waits
pub some_left : {T : Type 0} (items : List T) (lost : ℕ) → 0 < length items → is_none_left (turns_of items lost) ≡ false
some_left [] lost some = absurd (omega arith)
some_left (x ∷ items) lost some = refl

-- an item that is put
pub one_within : {T : Type 0} (weight : T → ℕ) (items new : List T) (item : T) (w total : ℕ) → IsWithin weight items total → new ≡ items ++ item ∷ [] → w ≡ weight item
    → length items < 4096 → w + total ≤ 2097152 → IsWithin weight new (total + w)
one_within weight items new item w total old e is few light =
    let s = sum_by_push weight items item in
    record {
      few = subst (λ xs. length xs ≤ 4096) (sym e) (omega (arith, length-append items (item ∷ [])));
      light = omega arith;
      counted = let c = old.counted in ap (λ n. n + w) c ∙ (ap (λ n. sum_by weight items + n) is ∙ (sym s ∙ ap (λ xs. sum_by weight xs) (sym e)));
    }

pub same_within : {T : Type 0} (weight : T → ℕ) (items new : List T) (total : ℕ) → IsWithin weight items total → new ≡ items → IsWithin weight new total
same_within weight items new total old e = subst (λ xs. IsWithin weight xs total) (sym e) old

pub bounded : {T : Type 0} (weight : T → ℕ) (items : List T) (total lost : ℕ) → IsWithin weight items total → IsBounded weight (turns_of items lost)
bounded weight items total lost w =
    let e = not_lost-turns items lost in
    record {
      few = subst (λ xs. length xs ≤ 4096) (sym e) w.few;
      light = subst (λ xs. sum_by weight xs ≤ 2097152) (sym e) (subst (λ n. n ≤ 2097152) w.counted w.light);
    }

-- the first item is taken
pub bounded_after : {T : Type 0} (weight : T → ℕ) (items new : List T) (item : T) (total lost : ℕ) → IsWithin weight items total → items ≡ item ∷ new → IsBounded weight (turns_of new lost)
bounded_after weight items new item total lost within e =
    let w : IsWithin weight (item ∷ new) total = subst (λ xs. IsWithin weight xs total) e within in
    let c = w.counted in
    let l = w.light in
    let f = w.few in
    let lighter : sum_by weight new ≤ 2097152 = omega (arith, c, l, sum_by-cons weight item new) in
    let fewer : length new ≤ 4096 = omega (arith, f) in
    let n = not_lost-turns new lost in
    record {
      few = subst (λ xs. length xs ≤ 4096) (sym n) fewer;
      light = subst (λ xs. sum_by weight xs ≤ 2097152) (sym n) lighter;
    }
