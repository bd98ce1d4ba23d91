-- Receipts that are confirmed, one after another.
use Rattle.settling.proofs.Prelude.{◌≡◌, ℕ, zero, suc, ◌+◌, ◌<◌, List, [], ◌∷◌, ◌++◌, length, get_or, take, drop, Bool, Some, None, refl, sym, ap, ◌∙◌, arith, All, slice_get, All-append, All-push, filter_map-append, slice_get-get_or, Receipted, CoreState, Item, ItemAnswer, Receipt, TranscriptState, receipt_in, receipts_of, Claim, IsBorneOut, IsFirstBad, claims_from, claims_in, claims_of, has_id}

-- the place after the last receipt's
abbrev pub next_place : ℕ → List Receipted → ℕ
next_place least [] = least
next_place least (r ∷ rs) = next_place (r.place + 1) rs

pub next_place-push : (least : ℕ) (rs : List Receipted) (r : Receipted) → next_place least (rs ++ r ∷ []) ≡ r.place + 1
next_place-push least [] r = refl
next_place-push least (x ∷ rs) r = next_place-push (x.place + 1) rs r

claims_in-append : (id : ℕ) (repeated : Bool) (least : ℕ) (xs ys : List Receipted) → claims_in id repeated least (xs ++ ys) ≡ claims_in id repeated least xs ++ claims_in id repeated (next_place least xs) ys
claims_in-append id repeated least [] ys = refl
claims_in-append id repeated least (x ∷ xs) ys = ap (λ cs. record { id = id; repeated = repeated; least = least; receipt = x } ∷ cs) (claims_in-append id repeated (x.place + 1) xs ys)

pub at_index : {A : Type 0} (xs : List A) (i : ℕ) (x : A) → i < length xs → x ≡ get_or xs i x → slice_get xs i ≡ Some x
at_index xs i x within is = slice_get-get_or xs i x within ∙ ap Some (sym is)

-- an item that has no receipt
pub no_receipt_in : (p : ItemAnswer) → ((r : Receipted) → p ≡ Receipt r → ⊥) → receipt_in p ≡ None
no_receipt_in p not = grind arith

-- a list around one of its elements
around : {A : Type 0} (xs : List A) (i : ℕ) (x : A) → slice_get xs i ≡ Some x → xs ≡ take i xs ++ x ∷ drop (i + 1) xs
around [] i x at = cc
around (y ∷ ys) zero x at = let same : y ≡ x = cc in rw same refl
around (y ∷ ys) (suc i) x at = let one : suc i + 1 ≡ suc (i + 1) = omega arith in rw one (ap (λ zs. y ∷ zs) (around ys i x at))

pub take-next : {A : Type 0} (xs : List A) (i : ℕ) (x : A) → slice_get xs i ≡ Some x → take (i + 1) xs ≡ take i xs ++ x ∷ []
take-next [] i x at = cc
take-next (y ∷ ys) zero x at = let same : y ≡ x = cc in ap (λ z. z ∷ []) same
take-next (y ∷ ys) (suc i) x at = let one : suc i + 1 ≡ suc (i + 1) = omega arith in rw one (ap (λ zs. y ∷ zs) (take-next ys i x at))

-- an item's receipt, if it has one
one_receipt : (item : Item) (r : Receipted) → receipt_in item.place ≡ Some r → receipts_of (item ∷ []) ≡ r ∷ []
one_receipt item r is = rw is refl

no_receipt : (item : Item) → receipt_in item.place ≡ None → receipts_of (item ∷ []) ≡ []
no_receipt item is = rw is refl

receipts-append : (xs ys : List Item) → receipts_of (xs ++ ys) ≡ receipts_of xs ++ receipts_of ys
receipts-append xs ys = filter_map-append (λ i. receipt_in i.place) xs ys

pub receipts-next : (items : List Item) (j : ℕ) (item : Item) (r : Receipted) → slice_get items j ≡ Some item → receipt_in item.place ≡ Some r → receipts_of (take (j + 1) items) ≡ receipts_of (take j items) ++ r ∷ []
receipts-next items j item r at is = ap receipts_of (take-next items j item at) ∙ (receipts-append (take j items) (item ∷ []) ∙ ap (λ rs. receipts_of (take j items) ++ rs) (one_receipt item r is))

assoc : {A : Type 0} (xs ys zs : List A) → (xs ++ ys) ++ zs ≡ xs ++ (ys ++ zs)
assoc [] ys zs = refl
assoc (x ∷ xs) ys zs = ap (λ ws. x ∷ ws) (assoc xs ys zs)

append-nil : {A : Type 0} (xs : List A) → xs ++ [] ≡ xs
append-nil [] = refl
append-nil (x ∷ xs) = ap (λ ys. x ∷ ys) (append-nil xs)

pub receipts-same : (items : List Item) (j : ℕ) (item : Item) → slice_get items j ≡ Some item → receipt_in item.place ≡ None → receipts_of (take (j + 1) items) ≡ receipts_of (take j items)
receipts-same items j item at is = ap receipts_of (take-next items j item at) ∙ (receipts-append (take j items) (item ∷ []) ∙ (ap (λ rs. receipts_of (take j items) ++ rs) (no_receipt item is) ∙ append-nil (receipts_of (take j items))))

receipts-around : (items : List Item) (j : ℕ) (item : Item) (r : Receipted) → slice_get items j ≡ Some item → receipt_in item.place ≡ Some r → receipts_of items ≡ receipts_of (take j items) ++ r ∷ receipts_of (drop (j + 1) items)
receipts-around items j item r at is = ap receipts_of (around items j item at) ∙ (receipts-append (take j items) (item ∷ drop (j + 1) items) ∙ ap (λ rs. receipts_of (take j items) ++ rs) (receipts-append (item ∷ []) (drop (j + 1) items) ∙ ap (λ rs. rs ++ receipts_of (drop (j + 1) items)) (one_receipt item r is)))

-- one more is confirmed
pub good-next : (core : CoreState) (id : ℕ) (repeated : Bool) (rs : List Receipted) (r : Receipted) → All (IsBorneOut core) (claims_in id repeated 0 rs) → IsBorneOut core (record { id = id; repeated = repeated; least = next_place 0 rs; receipt = r }) → All (IsBorneOut core) (claims_in id repeated 0 (rs ++ r ∷ []))
good-next core id repeated rs r all good = rw (claims_in-append id repeated 0 rs (r ∷ [])) (All-push (IsBorneOut core) (claims_in id repeated 0 rs) (record { id = id; repeated = repeated; least = next_place 0 rs; receipt = r }) all good)

-- or it is the first that isn't
pub bad-next : (core : CoreState) (id : ℕ) (repeated : Bool) (items : List Item) (j : ℕ) (item : Item) (r : Receipted) → slice_get items j ≡ Some item → receipt_in item.place ≡ Some r → All (IsBorneOut core) (claims_in id repeated 0 (receipts_of (take j items))) → (IsBorneOut core (record { id = id; repeated = repeated; least = next_place 0 (receipts_of (take j items)); receipt = r }) → ⊥) → IsFirstBad core (claims_in id repeated 0 (receipts_of items)) r.id r.place
bad-next core id repeated items j item r at is all bad = grind (arith, claims_in-append, receipts-around items j item r)

-- over all transcripts
claims_from-append : (earlier xs ys : List TranscriptState) → claims_from earlier (xs ++ ys) ≡ claims_from earlier xs ++ claims_from (earlier ++ xs) ys
claims_from-append earlier [] ys = rw (append-nil earlier) refl
claims_from-append earlier (x ∷ xs) ys = grind (arith, assoc, claims_from-append (earlier ++ x ∷ []) xs ys)

pub all-next : (core : CoreState) (ts : List TranscriptState) (i : ℕ) (t : TranscriptState) → slice_get ts i ≡ Some t → All (IsBorneOut core) (claims_of (take i ts)) → All (IsBorneOut core) (claims_in t.id (has_id (take i ts) t.id) 0 (receipts_of t.items)) → All (IsBorneOut core) (claims_of (take (i + 1) ts))
all-next core ts i t at all more =
    let mine : List Claim = claims_in t.id (has_id (take i ts) t.id) 0 (receipts_of t.items) in
    let are : claims_of (take (i + 1) ts) ≡ claims_of (take i ts) ++ mine = ap claims_of (take-next ts i t at) ∙ (claims_from-append [] (take i ts) (t ∷ []) ∙ ap (λ cs. claims_of (take i ts) ++ cs) (append-nil mine)) in
    rw are (All-append (IsBorneOut core) (claims_of (take i ts)) mine all more)

pub first-bad : (core : CoreState) (ts : List TranscriptState) (i : ℕ) (t : TranscriptState) (id place : ℕ) → slice_get ts i ≡ Some t → All (IsBorneOut core) (claims_of (take i ts)) → IsFirstBad core (claims_in t.id (has_id (take i ts) t.id) 0 (receipts_of t.items)) id place → IsFirstBad core (claims_of ts) id place
first-bad core ts i t id place at all bad =
    let earlier : List Claim = claims_of (take i ts) in
    let mine : List Claim = claims_in t.id (has_id (take i ts) t.id) 0 (receipts_of t.items) in
    let later : List Claim = claims_from (take i ts ++ t ∷ []) (drop (i + 1) ts) in
    let are : claims_of ts ≡ earlier ++ (mine ++ later) = ap claims_of (around ts i t at) ∙ claims_from-append [] (take i ts) (t ∷ drop (i + 1) ts) in
    let split : mine ++ later ≡ bad.before ++ bad.bad ∷ (bad.after ++ later) = ap (λ cs. cs ++ later) bad.are ∙ assoc bad.before (bad.bad ∷ bad.after) later in
    record {
      before = earlier ++ bad.before;
      bad = bad.bad;
      after = bad.after ++ later;
      are = are ∙ (ap (λ cs. earlier ++ cs) split ∙ sym (assoc earlier bad.before (bad.bad ∷ (bad.after ++ later))));
      good = All-append (IsBorneOut core) earlier bad.before all bad.good;
      not = bad.not;
      its_id = bad.its_id;
      its_place = bad.its_place;
    }
