-- Of faults that are listed in order, the first is the least.
use Rattle.line_text.proofs.Prelude.{◌≡◌, ◌∙◌, ℕ, ◌<◌, Bool, true, false, cond, List, [], ◌∷◌, ◌++◌, Option, Some, None, option_map, map, filter, refl, ap, arith, option_map_or, Found, by_number, least_by, least_fault, precedes}

-- the first of a list, if it has one
abbrev pub first_of : {X : Type 0} → List X → Option X
first_of [] = None
first_of (x ∷ xs) = Some x

-- each element has the property
abbrev pub Each : {X : Type 0} → (X → Type 0) → List X → Type 0
Each P [] = Unit {0}
Each P (x ∷ xs) = P x × Each P xs

-- each element is related to all that follow it
abbrev pub InOrder : {X : Type 0} → (X → X → Type 0) → List X → Type 0
InOrder R [] = Unit {0}
InOrder R (x ∷ xs) = Each (R x) xs × InOrder R xs

pub Each-weaker : {X : Type 0} (P Q : X → Type 0) (xs : List X) → ((x : X) → P x → Q x) → Each P xs → Each Q xs
Each-weaker P Q [] weaker h = tt
Each-weaker P Q (x ∷ xs) weaker h = (weaker x h.0, Each-weaker P Q xs weaker h.1)

pub Each-append : {X : Type 0} (P : X → Type 0) (xs ys : List X) → Each P xs → Each P ys → Each P (xs ++ ys)
Each-append P [] ys h k = k
Each-append P (x ∷ xs) ys h k = (h.0, Each-append P xs ys h.1 k)

pub Each-map : {X Y : Type 0} (P : Y → Type 0) (f : X → Y) (xs : List X) → Each (λ x. P (f x)) xs → Each P (map f xs)
Each-map P f [] h = tt
Each-map P f (x ∷ xs) h = (h.0, Each-map P f xs h.1)

pub Each-filter : {X : Type 0} (P : X → Type 0) (p : X → Bool) (xs : List X) → Each P xs → Each P (filter p xs)
Each-filter P p [] h = tt
Each-filter P p (x ∷ xs) h = grind (arith, Each-filter P p xs h.1)

-- two lists in order, if each element of the first is related to all of the second
pub InOrder-append : {X : Type 0} (R : X → X → Type 0) (xs ys : List X) → InOrder R xs → InOrder R ys → Each (λ x. Each (R x) ys) xs → InOrder R (xs ++ ys)
InOrder-append R [] ys h k all = k
InOrder-append R (x ∷ xs) ys h k all = (Each-append (R x) xs ys h.0 all.0, InOrder-append R xs ys h.1 k all.1)

pub InOrder-filter : {X : Type 0} (R : X → X → Type 0) (p : X → Bool) (xs : List X) → InOrder R xs → InOrder R (filter p xs)
InOrder-filter R p [] h = tt
InOrder-filter R p (x ∷ xs) h = grind (arith, Each-filter, InOrder-filter R p xs h.1)

pub InOrder-map : {X Y : Type 0} (R : X → X → Type 0) (S : Y → Y → Type 0) (f : X → Y) (xs : List X) → ((x y : X) → R x y → S (f x) (f y)) → InOrder R xs → InOrder S (map f xs)
InOrder-map R S f [] keeps h = tt
InOrder-map R S f (x ∷ xs) keeps h = grind (arith, Each-map, Each-weaker, InOrder-map R S f xs keeps h.1)

-- the end comes after all lines
abbrev pub turn_of : Bool → ℕ
turn_of at_end = cond at_end 1 0

-- the lesser of an element and another one, if there is another one, by this test
abbrev pub earlier_by : {X : Type 0} → (X → X → Bool) → X → Option X → X
earlier_by comes_before x other = option_map_or (λ y. cond (comes_before x y) x y) other x

-- a fault comes before another
abbrev pub Precedes : {F : Type 0} → Found F → Found F → Type 0
Precedes first second = precedes first second ≡ true

-- the least of a list has every property that all its elements have
abbrev IfThere : {X : Type 0} → Option X → (X → Type 0) → Type 0
IfThere None P = Unit {0}
IfThere (Some x) P = P x

module _ {X : Type 0} (r : X → X → Bool) where
  has_earlier : (P : X → Type 0) (x : X) (other : Option X) → P x → IfThere other P → P (earlier_by r x other)
  has_earlier P x None here there = here
  has_earlier P x (Some other) here there = by (r x other)
    where
      by : (b : Bool) → P (cond b x other)
      by true = here
      by false = there

  has_least : (P : X → Type 0) (xs : List X) → Each P xs → IfThere (least_by r xs) P
  has_least P [] h = tt
  has_least P (x ∷ xs) h = has_earlier P x (least_by r xs) h.0 (has_least P xs h.1)

  stays_earlier : (x : X) (other : Option X) → IfThere other (λ y. r x y ≡ true) → earlier_by r x other ≡ x
  stays_earlier x None h = refl
  stays_earlier x (Some other) h = ap (λ b. cond b x other) h

  -- of a list in order, the first is the least
  pub least_by_in_order : (xs : List X) → InOrder (λ x y. r x y ≡ true) xs → least_by r xs ≡ first_of xs
  least_by_in_order [] h = refl
  least_by_in_order (x ∷ xs) h = ap Some (stays_earlier x (least_by r xs) (has_least (λ y. r x y ≡ true) xs h.0))

  -- if each of a list comes before all others, so does its least
  pub least_before : (xs others : List X) (x : X) → least_by r xs ≡ Some x → Each (λ x. Each (λ y. r x y ≡ true) others) xs → least_by r (xs ++ others) ≡ Some x
  least_before [] others x is all = let never : None ≡ Some x = is in cc
  least_before (first ∷ []) others x is all =
      ap Some (stays_earlier first (least_by r others) (has_least (λ y. r first y ≡ true) others all.0)) ∙ is
  least_before (first ∷ second ∷ xs) others x is all =
      ap (λ least. Some (earlier_by r first least)) (least_before (second ∷ xs) others (earlier_by r second (least_by r xs)) refl all.1) ∙ is

-- the least of images under a function that preserves the test
pub least_map : {X Y : Type 0} (r : X → X → Bool) (s : Y → Y → Bool) (f : X → Y) (xs : List X) → ((x y : X) → s (f x) (f y) ≡ r x y) → least_by s (map f xs) ≡ option_map f (least_by r xs)
least_map r s f [] same = refl
least_map r s f (x ∷ xs) same = grind (arith, least_map r s f xs same)

-- of faults in order, the first is the least
pub least_in_order : {F : Type 0} (all : List (Found F)) → InOrder Precedes all → least_fault all ≡ option_map (λ found. found.fault) (first_of all)
least_in_order all h = ap (option_map (λ found. found.fault)) (least_by_in_order precedes all h)

-- if the numbers are equal, the next criterion decides
pub by_number-same : (n : ℕ) (next : Bool) → by_number n n next ≡ next
by_number-same n next = grind arith

-- a lesser number decides
pub by_number-less : (n m : ℕ) (next : Bool) → n < m → by_number n m next ≡ true
by_number-less n m next less = grind arith

-- a fault of a line comes before the faults of later lines and of the end
pub precedes-line : {F : Type 0} (found other : Found F) → found.at_end ≡ other.at_end → found.line < other.line → Precedes found other
precedes-line found other same less = grind arith

pub precedes-end : {F : Type 0} (found other : Found F) → found.at_end ≡ false → other.at_end ≡ true → Precedes found other
precedes-end found other here there = rw (here, there) refl
