-- Texts that are printed one after another.
use Rattle.layout_files.proofs.Prelude.{◌≡◌, ◌≢◌, refl, cond, Bool, Option, None, OnErr, ℕ, ◌+◌, ◌-◌, ◌<◌, ◌≤◌, ◌==◌, nat_eq, nat_lt, List, [], ◌∷◌, ◌++◌, length, take, get_or, true, false, IsTrue, MatchOption, subst, Some, Result, Ok, Err, OnOk, sym, ap, ◌∙◌, arith, append-nil, enumerate_from, flat_map, is_some, if◌then◌else◌, eq-eqb, true≢false, nat_tests, flat_map-append, take_more, take_all, get_or-enumerate_from, length-enumerate_from, slice_get_within, get_or_from_slice_get, slice_get-get_or, IsSame, left_after, without_front}
use Rattle.std.specs.List.{slice_get}

-- the texts up to an index, with one more
text_more : {X : Type 0} (f : X → List ℕ) (xs : List X) (i : ℕ) (x : X) → slice_get xs i ≡ Some x → flat_map f (take i xs) ++ f x ≡ flat_map f (take (i + 1) xs)
text_more f xs i x e = grind (arith, slice_get_within, flat_map-append, get_or_from_slice_get, append-nil, take_more xs i x (slice_get_within xs i x e), slice_get_within xs i x e, flat_map-append f (take i xs) (get_or xs i x ∷ []), get_or_from_slice_get xs i x x e, append-nil (f x))

if_same : (t : List ℕ) (b : Bool) (s whole : Option (List ℕ)) → left_after s t ≡ whole → left_after (cond b s None) t ≡ cond b whole None
if_same t b s whole e = grind arith

front_append : (t bytes text : List ℕ) → left_after (without_front bytes text) t ≡ without_front (bytes ++ t) text
front_append t [] text = refl
front_append t (byte ∷ bytes) [] = refl
front_append t (byte ∷ bytes) (first ∷ others) = if_same t (byte == first) _ _ (front_append t bytes others)

-- what is left after two texts
pub left_append : (left : Option (List ℕ)) (s t : List ℕ) → left_after (left_after left s) t ≡ left_after left (s ++ t)
left_append left s t = grind (arith, front_append)

-- the text is these bytes and what is left
pub front_is : (bytes text left : List ℕ) → without_front bytes text ≡ Some left → text ≡ bytes ++ left
front_is [] text left e = let same : text ≡ left = cc in same
front_is (byte ∷ bytes) [] left e = absurd cc
front_is (byte ∷ bytes) (first ∷ others) left e = grind (arith, front_is bytes others left)

pub front_of : (bytes left : List ℕ) → without_front bytes (bytes ++ left) ≡ Some left
front_of [] left = refl
front_of (byte ∷ bytes) left = ap (λ b. cond b (without_front bytes (bytes ++ left)) None) (eq-eqb byte byte refl) ∙ front_of bytes left

-- a text that doesn't begin with these bytes has no rest
pub front_not : (bytes text : List ℕ) → ((left : List ℕ) → text ≢ bytes ++ left) → without_front bytes text ≡ None
front_not bytes text other = by (without_front bytes text) refl
  where
    by : (found : Option (List ℕ)) → without_front bytes text ≡ found → without_front bytes text ≡ None
    by None e = e
    by (Some left) e = absurd (other left (front_is bytes text left e))

pub front_found : (bytes text left : List ℕ) → text ≡ bytes ++ left → without_front bytes text ≡ Some left
front_found bytes text left e = ap (without_front bytes) e ∙ front_of bytes left

-- the comparison's outcome
pub same_outcome : {E : Type 0} (outcome : Result (Unit {0}) E) (text printed : List ℕ) (left : Option (List ℕ)) → left ≡ left_after (Some text) printed → OnOk outcome (left ≡ Some []) → OnErr outcome (left ≢ Some []) → IsSame outcome text printed
same_outcome (Ok u) text printed left e ok err = record { ok = front_is printed text [] (sym e ∙ ok) ∙ append-nil printed; err = record {} }
same_outcome (Err f) text printed left e ok err = record { ok = record {}; err = λ same. err (e ∙ front_found printed text [] (same ∙ sym (append-nil printed))) }

-- one more text of a list is printed
pub one_more : {X : Type 0} (f : X → List ℕ) (xs : List X) (i : ℕ) (x : X) (start old new : Option (List ℕ)) → slice_get xs i ≡ Some x → old ≡ left_after start (flat_map f (take i xs)) → new ≡ left_after old (f x) → new ≡ left_after start (flat_map f (take (i + 1) xs))
one_more f xs i x start old new at e g = grind (arith, left_append, text_more)

-- the whole list is printed
pub all_printed : {X : Type 0} (f : X → List ℕ) (xs : List X) (i : ℕ) (start old : Option (List ℕ)) → length xs ≤ i → old ≡ left_after start (flat_map f (take i xs)) → old ≡ left_after start (flat_map f xs)
all_printed f xs i start old long e = e ∙ ap (λ ys. left_after start (flat_map f ys)) (take_all i xs long)

-- an equal text is printed
pub printed_as : (start new : Option (List ℕ)) (s t : List ℕ) → new ≡ left_after start s → s ≡ t → new ≡ left_after start t
printed_as start new s t e g = e ∙ ap (left_after start) g

-- one text after another is printed
pub printed_then : (start mid new : Option (List ℕ)) (s t : List ℕ) → mid ≡ left_after start s → new ≡ left_after mid t → new ≡ left_after start (s ++ t)
printed_then start mid new s t e g = g ∙ ap (λ x. left_after x t) e ∙ left_append start s t

-- the last text is printed
pub finish : (start mid new : Option (List ℕ)) (first s whole : List ℕ) → mid ≡ left_after start first → first ++ s ≡ whole → new ≡ left_after mid s → new ≡ left_after start whole
finish start mid new first s whole e g h = printed_as start new (first ++ s) whole (printed_then start mid new first s e h) g

pub same_text : (start new : Option (List ℕ)) (s whole : List ℕ) → s ≡ whole → new ≡ left_after start s → new ≡ left_after start whole
same_text start new s whole g h = printed_as start new s whole h g

-- a print of two parts is compared with a text
pub compared : {E : Type 0} (outcome : Result (Unit {0}) E) (text : List ℕ) (start mid new : Option (List ℕ)) (first s whole : List ℕ) → start ≡ Some text → mid ≡ left_after start first → first ++ s ≡ whole → new ≡ left_after mid s
    → OnOk outcome (new ≡ Some []) → OnErr outcome (new ≢ Some []) → IsSame outcome text whole
compared outcome text start mid new first s whole begun e g h ok err = same_outcome outcome text whole new (finish start mid new first s whole e g h ∙ ap (λ left. left_after left whole) begun) ok err

-- an element with its number
pub numbered : {X : Type 0} (xs : List X) (i : ℕ) (x : X) → i < length xs → x ≡ get_or xs i x → slice_get (enumerate_from 0 xs) i ≡ Some (i, x)
numbered xs i x within e = grind (arith, slice_get-get_or, length-enumerate_from, get_or-enumerate_from 0 xs i (i, x) within)

-- an element of a list
pub element : {X : Type 0} (xs : List X) (i : ℕ) (x : X) → i < length xs → x ≡ get_or xs i x → slice_get xs i ≡ Some x
element xs i x within e = slice_get-get_or xs i x within ∙ ap Some (sym e)

-- numbers that were tested
pub last_place : (place count : ℕ) → IsTrue (nat_eq (place + 1) count) → place ≡ count - 1
last_place place count t = grind (arith, nat_tests)

pub last_test : (place count : ℕ) → place < count → place ≡ count - 1 → IsTrue (nat_eq (place + 1) count)
last_test place count within is = grind (arith, nat_tests)

pub same_inside : (a b : ℕ) → Some a ≡ Some b → a ≡ b
same_inside a b e = cc

pub some_count : (count : ℕ) → (count == 0) ≡ false → nat_lt 0 count ≡ true
some_count count e = grind (arith, nat_tests)

-- bytes are taken off the front, or differ
pub take_some : (old : Option (List ℕ)) (text bytes left : List ℕ) → Some text ≡ old → text ≡ bytes ++ left → Some left ≡ left_after old bytes
take_some old text bytes left e same = sym (ap (λ v. left_after v bytes) (sym e) ∙ front_found bytes text left same)

pub take_none : (old : Option (List ℕ)) (text bytes : List ℕ) → Some text ≡ old → ((left : List ℕ) → text ≢ bytes ++ left) → None ≡ left_after old bytes
take_none old text bytes e other = sym (ap (λ v. left_after v bytes) (sym e) ∙ front_not bytes text other)

pub in_Some : {X : Type 0} (P : Type 0) (Q : X → Type 0) (r : Option X) (x : X) → r ≡ Some x → MatchOption r P Q → Q x
in_Some P Q r x e m = subst (λ r. MatchOption r P Q) e m

pub in_None : {X : Type 0} (P : Type 0) (Q : X → Type 0) (r : Option X) → r ≡ None → MatchOption r P Q → P
in_None P Q r e m = subst (λ r. MatchOption r P Q) e m

-- one more text of a list is printed, by its index
pub next_printed : {X : Type 0} (f : X → List ℕ) (xs : List X) (i : ℕ) (d : X) (start old new : Option (List ℕ)) → i < length xs → old ≡ left_after start (flat_map f (take i xs)) → new ≡ left_after old (f (get_or xs i d)) → new ≡ left_after start (flat_map f (take (i + 1) xs))
next_printed f xs i d start old new within e g = one_more f xs i (get_or xs i d) start old new (slice_get-get_or xs i d within) e g

-- a line's last word
pub line_end : (word : List ℕ) → word ++ 10 ∷ [] ≡ (word ++ []) ++ 10 ∷ []
line_end word = ap (λ (w : List ℕ). w ++ 10 ∷ []) (sym (append-nil word))

-- bytes that are here are taken
pub took : (old new : Option (List ℕ)) (bytes rest : List ℕ) → old ≡ Some (bytes ++ rest) → new ≡ left_after old bytes → new ≡ Some rest
took old new bytes rest e left = left ∙ ap (λ v. left_after v bytes) e ∙ front_of bytes rest

-- whether a text is here
pub takes_true : (old new : Option (List ℕ)) (text : List ℕ) (taken : Bool) → taken ≡ true → new ≡ (if taken then left_after old text else old) → new ≡ left_after old text
takes_true old new text taken is e = e ∙ ap (λ (b : Bool). cond b (left_after old text) old) is

pub takes_false : (old new : Option (List ℕ)) (text : List ℕ) (taken : Bool) → taken ≡ false → new ≡ (if taken then left_after old text else old) → new ≡ old
takes_false old new text taken is e = e ∙ ap (λ (b : Bool). cond b (left_after old text) old) is

pub not_here : (old : Option (List ℕ)) (text end : List ℕ) (taken : Bool) → taken ≡ true → taken ≡ is_some (left_after old text) → left_after (Some end) text ≡ None → old ≢ Some end
not_here old text end taken is e none same = true≢false (sym is ∙ e ∙ ap (λ v. is_some (left_after v text)) same ∙ ap is_some none)

pub is_here : (old : Option (List ℕ)) (text rest : List ℕ) (taken : Bool) → taken ≡ false → taken ≡ is_some (left_after old text) → old ≡ Some (text ++ rest) → ⊥
is_here old text rest taken is e same = true≢false (sym (ap is_some (front_of text rest)) ∙ sym (ap (λ v. is_some (left_after v text)) same) ∙ sym e ∙ is)
