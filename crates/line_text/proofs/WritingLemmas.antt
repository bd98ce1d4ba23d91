-- Texts written in parts.
use Rattle.line_text.proofs.Prelude.{◌≡◌, ℕ, ◌+◌, ◌<◌, ◌≤◌, Bool, List, [], ◌∷◌, ◌++◌, length, take, drop, get_or, Option, Some, Result, Ok, Err, refl, sym, ap, subst, ◌∙◌, arith, length-append, flat_map, range_with_len, length-range_with_len, get_or-range_with_len, IsErr, take-append-le, take_more, take_all, drop_more, take-append-drop, flat_map-append, slice_get_within, get_or_from_slice_get, slice_get-get_or, take-append-add, Appends-nil, Appends-trans, Appends, Failed, TakesAll, TakesPart, Writes}
use Rattle.std.proofs.Common.{append-nil}
use Rattle.std.specs.List.{slice_get}

-- writing an equal text
pub writes_same : {S : Type 0} (contents : S → Option (List ℕ)) (has_failed : S → Bool) (a b : S) (s t : List ℕ) (r : Result (Unit {0}) Failed) → s ≡ t → Writes contents has_failed a b s r → Writes contents has_failed a b t r
writes_same contents has_failed a b s t r e h = subst (λ text. Writes contents has_failed a b text r) e h

-- after a failure only a beginning was written
pub writes_part : {S : Type 0} {contents : S → Option (List ℕ)} {has_failed : S → Bool} {a b : S} {s : List ℕ} (r : Result (Unit {0}) Failed) → IsErr r → TakesPart contents has_failed a b s → Writes contents has_failed a b s r
writes_part r is h = grind arith

pub all_same : {S : Type 0} {contents : S → Option (List ℕ)} {has_failed : S → Bool} {a b : S} {s t : List ℕ} → TakesAll contents has_failed a b s → s ≡ t → TakesAll contents has_failed a b t
all_same {contents = contents} {has_failed = has_failed} {a = a} {b = b} h e = subst (λ text. TakesAll contents has_failed a b text) e h

pub part_same : {S : Type 0} {contents : S → Option (List ℕ)} {has_failed : S → Bool} {a b : S} {s t : List ℕ} → TakesPart contents has_failed a b s → s ≡ t → TakesPart contents has_failed a b t
part_same {contents = contents} {has_failed = has_failed} {a = a} {b = b} h e = subst (λ text. TakesPart contents has_failed a b text) e h

-- nothing is written
pub all_none : {S : Type 0} (contents : S → Option (List ℕ)) (has_failed : S → Bool) (a : S) → TakesAll contents has_failed a a []
all_none contents has_failed a = record { bytes = Appends-nil (contents a); works = refl }

-- one text after another is written
pub all_then : {S : Type 0} {contents : S → Option (List ℕ)} {has_failed : S → Bool} {a b c : S} {s t : List ℕ} → TakesAll contents has_failed a b s → TakesAll contents has_failed b c t → TakesAll contents has_failed a c (s ++ t)
all_then h k = record { bytes = Appends-trans _ _ _ _ _ h.bytes k.bytes; works = k.works ∙ h.works }

-- a failure within the first text
pub part_first : {S : Type 0} {contents : S → Option (List ℕ)} {has_failed : S → Bool} {a b : S} {s : List ℕ} (t : List ℕ) → TakesPart contents has_failed a b s → TakesPart contents has_failed a b (s ++ t)
part_first t h = grind (arith, length-append, take-append-le)

-- the first text is written, and the device fails within the second
pub part_then : {S : Type 0} {contents : S → Option (List ℕ)} {has_failed : S → Bool} {a b c : S} {s t : List ℕ} → TakesAll contents has_failed a b s → TakesPart contents has_failed b c t → TakesPart contents has_failed a c (s ++ t)
part_then {contents = contents} {a = a} {c = c} {s = s} {t = t} h k = record {
  count = length s + k.count;
  within = (let w = k.within in omega (arith, length-append s t));
  bytes = (let P : List ℕ → Type 0 = λ bytes. Appends (contents a) (contents c) bytes in subst P (sym (take-append-add s t k.count)) (Appends-trans _ _ _ _ _ h.bytes k.bytes));
  fails = k.fails;
}

-- the texts up to an index, with one more
text_more : {X : Type 0} (f : X → List ℕ) (xs : List X) (i : ℕ) (x : X) → slice_get xs i ≡ Some x → flat_map f (take i xs) ++ f x ≡ flat_map f (take (i + 1) xs)
text_more f xs i x e = grind (arith, slice_get_within, flat_map-append, get_or_from_slice_get, append-nil, take_more xs i x (slice_get_within xs i x e), slice_get_within xs i x e, flat_map-append f (take i xs) (get_or xs i x ∷ []), get_or_from_slice_get xs i x x e, append-nil (f x))

-- all texts, split at an index
text_split : {X : Type 0} (f : X → List ℕ) (xs : List X) (i : ℕ) (x : X) → slice_get xs i ≡ Some x → flat_map f (take i xs) ++ (f x ++ flat_map f (drop (i + 1) xs)) ≡ flat_map f xs
text_split f xs i x e = grind (arith, drop_more, slice_get_within, flat_map-append, take-append-drop, get_or_from_slice_get xs i x x e, drop_more xs i x (slice_get_within xs i x e), slice_get_within xs i x e, flat_map-append f (take i xs) (drop i xs), take-append-drop i xs)

-- one more text of a list is written
pub all_loop : {S X : Type 0} {contents : S → Option (List ℕ)} {has_failed : S → Bool} {a b c : S} (f : X → List ℕ) (xs : List X) (i : ℕ) (x : X) → slice_get xs i ≡ Some x → TakesAll contents has_failed a b (flat_map f (take i xs)) → TakesAll contents has_failed b c (f x) → TakesAll contents has_failed a c (flat_map f (take (i + 1) xs))
all_loop f xs i x e h k = all_same (all_then h k) (text_more f xs i x e)

-- the device fails within one text of a list
pub part_loop : {S X : Type 0} {contents : S → Option (List ℕ)} {has_failed : S → Bool} {a b c : S} (f : X → List ℕ) (xs : List X) (i : ℕ) (x : X) → slice_get xs i ≡ Some x → TakesAll contents has_failed a b (flat_map f (take i xs)) → TakesPart contents has_failed b c (f x) → TakesPart contents has_failed a c (flat_map f xs)
part_loop f xs i x e h k = part_same (part_then h (part_first (flat_map f (drop (i + 1) xs)) k)) (text_split f xs i x e)

-- the whole list is written
pub all_loop_end : {S X : Type 0} {contents : S → Option (List ℕ)} {has_failed : S → Bool} {a b : S} (f : X → List ℕ) (xs : List X) (i : ℕ) → length xs ≤ i → TakesAll contents has_failed a b (flat_map f (take i xs)) → TakesAll contents has_failed a b (flat_map f xs)
all_loop_end f xs i long h = all_same h (ap (flat_map f) (take_all i xs long))

-- the number at an index of the range
pub place_at : (count place : ℕ) → place < count → slice_get (range_with_len 0 count) place ≡ Some place
place_at count place within = grind (arith, slice_get-get_or, length-range_with_len, get_or-range_with_len 0 count place 0 within)

-- all numbers of a range are written
pub all_range_end : {S : Type 0} {contents : S → Option (List ℕ)} {has_failed : S → Bool} {a b : S} (f : ℕ → List ℕ) (count place : ℕ) → count ≤ place → TakesAll contents has_failed a b (flat_map f (take place (range_with_len 0 count))) → TakesAll contents has_failed a b (flat_map f (range_with_len 0 count))
all_range_end f count place end h = all_loop_end f (range_with_len 0 count) place (let long = length-range_with_len 0 count in omega arith) h

-- the first text is written, and the second is attempted
pub writes_then : {S : Type 0} {contents : S → Option (List ℕ)} {has_failed : S → Bool} {a b : S} {s : List ℕ} → TakesAll contents has_failed a b s → (c : S) (t : List ℕ) (r : Result (Unit {0}) Failed) → Writes contents has_failed b c t r → Writes contents has_failed a c (s ++ t) r
writes_then h c t (Ok u) k = all_then h k
writes_then h c t (Err failed) k = part_then h k

-- the written text, for a device known by an equation
pub all_found : {S : Type 0} {contents : S → Option (List ℕ)} {has_failed : S → Bool} {a b c : S} {s : List ℕ} → TakesAll contents has_failed a b s → c ≡ b → TakesAll contents has_failed a c s
all_found {contents = contents} {has_failed = has_failed} {a = a} {s = s} h e = subst (λ at. TakesAll contents has_failed a at s) (sym e) h
