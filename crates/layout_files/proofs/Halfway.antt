-- A list whose elements are read one after another.
use Rattle.layout_files.proofs.Prelude.{◌≡◌, ◌≢◌, ◌⊎◌, inl, inr, ℕ, ◌+◌, ◌-◌, ◌<◌, ◌≤◌, nat_lt, true, false, List, [], ◌∷◌, ◌++◌, length, map, take, Option, Some, All, subst, refl, sym, ap, ◌∙◌, arith, append_assoc, append-nil, slice_get, length-append, enumerate_from, flat_map, nat_tests, length-map, map-id, get_or_from_slice_get, slice_get_within, size}

-- the texts of a list's elements, with their numbers, one after another
abbrev pub texts_from : {X : Type 0} → (ℕ → X → List ℕ) → ℕ → List X → List ℕ
texts_from f i [] = []
texts_from f i (x ∷ xs) = f i x ++ texts_from f (i + 1) xs

pub texts_plain : {X : Type 0} (f : X → List ℕ) (i : ℕ) (xs : List X) → flat_map f xs ≡ texts_from (λ k. f) i xs
texts_plain f i [] = refl
texts_plain f i (x ∷ xs) = ap (λ t. f x ++ t) (texts_plain f (i + 1) xs)

pub texts_numbered : {X : Type 0} (f : ℕ × X → List ℕ) (i : ℕ) (xs : List X) → flat_map f (enumerate_from i xs) ≡ texts_from (λ k x. f (k, x)) i xs
texts_numbered f i [] = refl
texts_numbered f i (x ∷ xs) = ap (λ t. f (i, x) ++ t) (texts_numbered f (i + 1) xs)

-- some elements are read, and the texts of the others are left, with an end after them
pub record Halfway {X Y : Type 0} (f : ℕ → X → List ℕ) (g : X → Y) (xs : List X) (end : List ℕ) (done : List Y) (left : Option (List ℕ)) : Type 0 where
  pub first : List X
  pub todo : List X
  pub all : xs ≡ first ++ todo
  pub read : done ≡ map g first
  pub here : left ≡ Some (texts_from f (length first) todo ++ end)

pub begun : {X Y : Type 0} (f : ℕ → X → List ℕ) (g : X → Y) (xs : List X) (end : List ℕ) (done : List Y) (left : Option (List ℕ)) → done ≡ [] → left ≡ Some (texts_from f 0 xs ++ end) → Halfway f g xs end done left
begun f g xs end done left none e = record { first = []; todo = xs; all = refl; read = none; here = e }

-- the next element, and what is so after it is read
pub record Next {X Y : Type 0} (f : ℕ → X → List ℕ) (g : X → Y) (xs : List X) (end : List ℕ) (done : List Y) (left : Option (List ℕ)) : Type 0 where
  pub element : X
  pub at : slice_get xs (length done) ≡ Some element
  pub rest : List ℕ
  pub text : left ≡ Some (f (length done) element ++ rest)
  pub then : (more : List Y) (new : Option (List ℕ)) (read : Y) → more ≡ done ++ read ∷ [] → new ≡ Some rest → read ≡ g element → Halfway f g xs end more new

slice_get-middle : {X : Type 0} (first : List X) (x : X) (todo : List X) → slice_get (first ++ x ∷ todo) (length first) ≡ Some x
slice_get-middle [] x todo = refl
slice_get-middle (y ∷ first) x todo = slice_get-middle first x todo

map-one_more : {X Y : Type 0} (g : X → Y) (first : List X) (x : X) → map g first ++ g x ∷ [] ≡ map g (first ++ x ∷ [])
map-one_more g [] x = refl
map-one_more g (y ∷ first) x = ap (λ ys. g y ∷ ys) (map-one_more g first x)

length-one_more : {X : Type 0} (first : List X) (x : X) → length (first ++ x ∷ []) ≡ length first + 1
length-one_more [] x = refl
length-one_more (y ∷ first) x = omega (arith, length-one_more first x)

first_of : {X Y : Type 0} (f : ℕ → X → List ℕ) (g : X → Y) (xs : List X) (end : List ℕ) (done : List Y) (left : Option (List ℕ)) (h : Halfway f g xs end done left) → (h.todo ≢ []) → Next f g xs end done left
first_of {X} {Y} f g xs end done left h some = by h.todo refl
  where
    long : length done ≡ length h.first
    long = ap length h.read ∙ length-map h.first g

    by : (todo : List X) → h.todo ≡ todo → Next f g xs end done left
    by [] e = absurd (some e)
    by (x ∷ todo) e =
        let rest = texts_from f (length h.first + 1) todo ++ end in
        let all : xs ≡ h.first ++ x ∷ todo = h.all ∙ ap (λ (t : List X). h.first ++ t) e in
        let text : left ≡ Some (f (length h.first) x ++ rest) = h.here ∙ ap (λ (t : List X). Some (texts_from f (length h.first) t ++ end)) e ∙ ap Some (append_assoc (f (length h.first) x) (texts_from f (length h.first + 1) todo) end) in
        record {
          element = x;
          at = ap (λ (ys : List X). slice_get ys (length done)) all ∙ ap (slice_get (h.first ++ x ∷ todo)) long ∙ slice_get-middle h.first x todo;
          rest = rest;
          text = text ∙ ap (λ k. Some (f k x ++ rest)) (sym long);
          then = λ more new read longer n is. record {
            first = h.first ++ x ∷ [];
            todo = todo;
            all = all ∙ sym (append_assoc h.first (x ∷ []) todo);
            read = longer ∙ ap (λ (y : Y). done ++ y ∷ []) is ∙ ap (λ (ys : List Y). ys ++ g x ∷ []) h.read ∙ map-one_more g h.first x;
            here = n ∙ ap (λ k. Some (texts_from f k todo ++ end)) (sym (length-one_more h.first x));
          };
        }

pub next : {X Y : Type 0} (f : ℕ → X → List ℕ) (g : X → Y) (xs : List X) (end : List ℕ) (done : List Y) (left : Option (List ℕ)) → Halfway f g xs end done left → left ≢ Some end → Next f g xs end done left
next {X} f g xs end done left h more = first_of f g xs end done left h (λ e. more (h.here ∙ ap (λ (t : List X). Some (texts_from f (length h.first) t ++ end)) e))

counted : {X Y : Type 0} (f : ℕ → X → List ℕ) (g : X → Y) (xs : List X) (end : List ℕ) (done : List Y) (left : Option (List ℕ)) (h : Halfway f g xs end done left) → length xs ≡ length done + length h.todo
counted f g xs end done left h = ap length h.all ∙ length-append h.first h.todo ∙ ap (λ n. n + length h.todo) (sym (ap length h.read ∙ length-map h.first g))

-- the next element, if not all are read yet
pub next_of : {X Y : Type 0} (f : ℕ → X → List ℕ) (g : X → Y) (xs : List X) (end : List ℕ) (done : List Y) (left : Option (List ℕ)) → Halfway f g xs end done left → length done < length xs → Next f g xs end done left
next_of f g xs end done left h fewer = first_of f g xs end done left h (λ e. omega (arith, fewer, counted f g xs end done left h, ap length e))

-- as many are read as there are
pub all_of : {X Y : Type 0} (f : ℕ → X → List ℕ) (g : X → Y) (xs : List X) (end : List ℕ) (done : List Y) (left : Option (List ℕ)) → Halfway f g xs end done left → length xs ≤ length done → (done ≡ map g xs) × (left ≡ Some end)
all_of {X} {Y} f g xs end done left h long = by h.todo refl
  where
    by : (todo : List X) → h.todo ≡ todo → (done ≡ map g xs) × (left ≡ Some end)
    by [] e =
        let all : xs ≡ h.first = h.all ∙ ap (λ (t : List X). h.first ++ t) e ∙ append-nil h.first in
        (h.read ∙ ap (map g) (sym all), h.here ∙ ap (λ (t : List X). Some (texts_from f (length h.first) t ++ end)) e)
    by (x ∷ todo) e = absurd (omega (arith, long, counted f g xs end done left h, ap length e))

-- if no element's text is here, all are read
pub last : {X Y : Type 0} (f : ℕ → X → List ℕ) (g : X → Y) (xs : List X) (end : List ℕ) (done : List Y) (left : Option (List ℕ)) → Halfway f g xs end done left
    → ((k : ℕ) (x : X) (rest : List ℕ) → left ≡ Some (f k x ++ rest) → ⊥) → (done ≡ map g xs) × (left ≡ Some end)
last {X} {Y} f g xs end done left h none = by h.todo refl
  where
    by : (todo : List X) → h.todo ≡ todo → (done ≡ map g xs) × (left ≡ Some end)
    by [] e =
        let all : xs ≡ h.first = h.all ∙ ap (λ (t : List X). h.first ++ t) e ∙ append-nil h.first in
        (h.read ∙ ap (map g) (sym all), h.here ∙ ap (λ (t : List X). Some (texts_from f (length h.first) t ++ end)) e)
    by (x ∷ todo) e = absurd (none (length h.first) x (texts_from f (length h.first + 1) todo ++ end)
        (h.here ∙ ap (λ (t : List X). Some (texts_from f (length h.first) t ++ end)) e ∙ ap Some (append_assoc (f (length h.first) x) (texts_from f (length h.first + 1) todo) end)))

pub last_of : {X Y : Type 0} (f : ℕ → X → List ℕ) (g : X → Y) (xs : List X) (end : List ℕ) (done : List Y) (left : Option (List ℕ)) → Halfway f g xs end done left
    → ((k : ℕ) (x : X) (rest : List ℕ) → slice_get xs k ≡ Some x → left ≡ Some (f k x ++ rest) → ⊥) → (done ≡ map g xs) × (left ≡ Some end)
last_of {X} {Y} f g xs end done left h none = by (grind arith)
  where
    by : (length done < length xs) ⊎ (length xs ≤ length done) → (done ≡ map g xs) × (left ≡ Some end)
    by (inl fewer) = let n = next_of f g xs end done left h fewer in absurd (none (length done) n.element n.rest n.at n.text)
    by (inr long) = all_of f g xs end done left h long

-- what is so of all elements is so of this one
pub each : {X : Type 0} (P : X → Type 0) (xs : List X) (k : ℕ) (x : X) → All P xs → slice_get xs k ≡ Some x → P x
each P xs k x all at = subst P (get_or_from_slice_get xs k x x at) (all k x (slice_get_within xs k x at))

-- whether anything is left
pub not_done : (left : Option (List ℕ)) → nat_lt 0 (size left) ≡ true → left ≢ Some []
not_done left more e = let t : nat_lt 0 (size (Some [])) ≡ true = ap (λ l. nat_lt 0 (size l)) (sym e) ∙ more in absurd cc

pub nothing : (left : Option (List ℕ)) (text rest : List ℕ) → nat_lt 0 (size left) ≡ false → 0 < length text → left ≡ Some (text ++ rest) → ⊥
nothing left [] rest none some e = absurd (omega (arith, some))
nothing left (b ∷ text) rest none some e = let t : nat_lt 0 (size (Some (b ∷ (text ++ rest)))) ≡ false = ap (λ l. nat_lt 0 (size l)) (sym e) ∙ none in grind (arith, nat_tests)

-- numbers that are left
pub fewer : (old mid new : ℕ) → nat_lt 0 old ≡ true → mid ≤ old - 1 → new ≤ mid → new < old
fewer old mid new more less later = grind (arith, nat_tests)

front_taken : {X : Type 0} (first todo : List X) → take (length first) (first ++ todo) ≡ first
front_taken [] todo = refl
front_taken (x ∷ first) todo = ap (λ xs. x ∷ xs) (front_taken first todo)

-- those that are read are the first ones
pub done_is : {X : Type 0} (f : ℕ → X → List ℕ) (xs : List X) (end : List ℕ) (done : List X) (left : Option (List ℕ)) → Halfway f (λ (x : X). x) xs end done left → take (length done) xs ≡ done
done_is f xs end done left h = grind (arith, map-id, front_taken)
