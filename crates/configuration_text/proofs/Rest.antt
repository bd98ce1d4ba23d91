-- What is left of a list, step by step.
use Rattle.configuration_text.proofs.Prelude.{◌≡◌, ℕ, suc, ◌+◌, ◌-◌, ◌<◌, ◌≤◌, Bool, true, false, List, [], ◌∷◌, ◌++◌, cond, drop, length, map, Some, sym, ap, ◌∙◌, arith, append_assoc, append-nil, get_or, slice_get, prefix_len, range_with_len, bit_digit, at_drop_more, at_drop_all, slice_get-get_or, slice_get_within, get_or_from_slice_get}

-- an element that is read
pub read_get : {X : Type 0} (xs : List X) (i : ℕ) (x : X) → i < length xs → x ≡ get_or xs i x → slice_get xs i ≡ Some x
read_get xs i x small is = slice_get-get_or xs i x small ∙ ap (λ y. Some y) (sym is)

-- the same, of a list that is lent
pub read_from : {X : Type 0} (lent xs : List X) → lent ≡ xs → (i : ℕ) (x : X) → i < length lent → x ≡ get_or lent i x → slice_get xs i ≡ Some x
read_from lent xs e i x small is = sym (ap (λ zs. slice_get zs i) e) ∙ read_get lent i x small is

pub past_from : {X : Type 0} (lent xs : List X) → lent ≡ xs → (i : ℕ) → length lent ≤ i → length xs ≤ i
past_from lent xs e i long = let same : length lent ≡ length xs = ap length e in omega arith

-- a function of what is left, one step on
pub rest_more : {X Y : Type 0} (F : List X → Y) (xs : List X) (i : ℕ) (x : X) → slice_get xs i ≡ Some x → F (drop i xs) ≡ F (x ∷ drop (i + 1) xs)
rest_more F xs i x e = at_drop_more F xs i x (slice_get_within xs i x e) ∙ ap (λ y. F (y ∷ drop (i + 1) xs)) (get_or_from_slice_get xs i x x e)

-- A list of which what `T` gives for the rest of a list is still to be written, one step on, and at
-- the end.
pub written_more : {X A : Type 0} (T : ℕ → List X → List A) (xs : List X) (i : ℕ) (x : X) (part text old new all : List A) → slice_get xs i ≡ Some x → T i (x ∷ drop (i + 1) xs) ≡ part ++ T (i + 1) (drop (i + 1) xs) →
    text ++ T i (drop i xs) ≡ old ++ all → new ≡ text ++ part → new ++ T (i + 1) (drop (i + 1) xs) ≡ old ++ all
written_more T xs i x part text old new all get split h e =
    let rest = T (i + 1) (drop (i + 1) xs) in
    ap (λ t. t ++ rest) e ∙ append_assoc text part rest ∙ ap (λ t. text ++ t) (sym (rest_more (T i) xs i x get ∙ split)) ∙ h

pub written_end : {X A : Type 0} (T : ℕ → List X → List A) (xs : List X) (i : ℕ) (text old all : List A) → length xs ≤ i → T i [] ≡ [] → text ++ T i (drop i xs) ≡ old ++ all → text ≡ old ++ all
written_end T xs i text old all long nothing h = sym (append-nil text) ∙ sym (ap (λ t. text ++ t) (at_drop_all (T i) xs i long ∙ nothing)) ∙ h

-- the numbers from one on
pub map_rest : {X : Type 0} (f : ℕ → X) (i n : ℕ) → i < n → map f (range_with_len i (n - i)) ≡ f i ∷ map f (range_with_len (i + 1) (n - (i + 1)))
map_rest f i n small = let e : n - i ≡ suc (n - (i + 1)) = omega arith in ap (λ (k : ℕ). map f (range_with_len i k)) e

pub map_end : {X : Type 0} (f : ℕ → X) (i n : ℕ) → n ≤ i → map f (range_with_len i (n - i)) ≡ []
map_end f i n long = let e : n - i ≡ 0 = omega arith in ap (λ (k : ℕ). map f (range_with_len i k)) e

-- the bits at the numbers from one on are still to be written
abbrev pub AreBitsLeft : (ℕ → Bool) → ℕ → ℕ → List ℕ → List ℕ → Type 0
AreBitsLeft f count number text old = text ++ map bit_digit (map f (range_with_len number (count - number))) ≡ old ++ map bit_digit (map f (range_with_len 0 count))

pub bits_none : (f : ℕ → Bool) (count : ℕ) (text : List ℕ) → AreBitsLeft f count 0 text text
bits_none f count text = let e : count - 0 ≡ count = omega arith in ap (λ (n : ℕ). text ++ map bit_digit (map f (range_with_len 0 n))) e

pub bits_more : (f : ℕ → Bool) (count number : ℕ) (text old new : List ℕ) (value : Bool) → number < count → AreBitsLeft f count number text old → new ≡ text ++ bit_digit value ∷ [] → value ≡ f number → AreBitsLeft f count (number + 1) new old
bits_more f count number text old new value small h e is =
    let rest = map bit_digit (map f (range_with_len (number + 1) (count - (number + 1)))) in
    ap (λ (t : List ℕ). t ++ rest) e ∙ append_assoc text (bit_digit value ∷ []) rest ∙ ap (λ (b : Bool). text ++ bit_digit b ∷ rest) is
    ∙ ap (λ (bs : List Bool). text ++ map bit_digit bs) (sym (map_rest f number count small)) ∙ h

pub bits_end : (f : ℕ → Bool) (count number : ℕ) (text old : List ℕ) → count ≤ number → AreBitsLeft f count number text old → text ≡ old ++ map bit_digit (map f (range_with_len 0 count))
bits_end f count number text old long h = sym (append-nil text) ∙ ap (λ (bs : List Bool). text ++ map bit_digit bs) (sym (map_end f number count long)) ∙ h

-- how many of the first elements pass a test
pub prefix_more : {X : Type 0} (p : X → Bool) (xs : List X) (i : ℕ) (x : X) (r : ℕ) → slice_get xs i ≡ Some x → p x ≡ true → i + prefix_len p (drop i xs) ≡ r → i + 1 + prefix_len p (drop (i + 1) xs) ≡ r
prefix_more p xs i x r get passes h =
    let here : prefix_len p (drop i xs) ≡ 1 + prefix_len p (drop (i + 1) xs) = rest_more (prefix_len p) xs i x get ∙ ap (λ (b : Bool). cond b (1 + prefix_len p (drop (i + 1) xs)) 0) passes in
    omega (arith, h, here)

pub prefix_stop : {X : Type 0} (p : X → Bool) (xs : List X) (i : ℕ) (x : X) (r : ℕ) → slice_get xs i ≡ Some x → p x ≡ false → i + prefix_len p (drop i xs) ≡ r → i ≡ r
prefix_stop p xs i x r get fails h =
    let here : prefix_len p (drop i xs) ≡ 0 = rest_more (prefix_len p) xs i x get ∙ ap (λ (b : Bool). cond b (1 + prefix_len p (drop (i + 1) xs)) 0) fails in
    omega (arith, h, here)
