-- A service goes on after calls of it.
use Rattle.shared_core.proofs.Prelude.{◌≡◌, ℕ, List, [], ◌∷◌, ◌++◌, length, take, Bool, true, false, Option, Some, None, refl, ap, ◌∙◌, arith, if◌then◌else◌, IsSomeAnd, is_some, Entry, with_moved, History, with_entry, with_here, closed_history, if_live, ServiceState, history_of, with_changed, without_tenancy, history_of-modified, history_of-past, history_of-push, length-modified, Follows, GoesOn, Stays}

-- a list that is a beginning of another
whole : {A : Type 0} (xs : List A) → take (length xs) xs ≡ xs
whole [] = refl
whole (x ∷ xs) = ap (λ ys. x ∷ ys) (whole xs)

ahead : {A : Type 0} (xs ys : List A) → take (length xs) (xs ++ ys) ≡ xs
ahead [] ys = refl
ahead (x ∷ xs) ys = ap (λ zs. x ∷ zs) (ahead xs ys)

abbrev head_or : {A : Type 0} → A → List A → A
head_or d [] = d
head_or d (x ∷ xs) = x

abbrev tail_of : {A : Type 0} → List A → List A
tail_of [] = []
tail_of (x ∷ xs) = xs

begins : {A : Type 0} (xs ys zs : List A) → take (length xs) ys ≡ xs → take (length ys) zs ≡ ys → take (length xs) zs ≡ xs
begins [] ys zs one two = refl
begins (x ∷ xs) [] zs one two = cc
begins (x ∷ xs) (y ∷ ys) [] one two = cc
begins (x ∷ xs) (y ∷ ys) (z ∷ zs) one two = grind (arith, begins xs ys zs (ap tail_of one) (ap tail_of two))

-- each history goes on as itself
pub GoesOn-same : (h : History) → GoesOn h h
GoesOn-same h = record { id = refl; arch = refl; strip = refl; entries = whole h.entries; closed = λ e. e }

GoesOn-trans : (h g f : History) → GoesOn h g → GoesOn g f → GoesOn h f
GoesOn-trans h g f one two = grind (arith, begins)

pub GoesOn-entry : (e : Entry) (h : History) → GoesOn h (with_entry e h)
GoesOn-entry e h = record { id = refl; arch = refl; strip = refl; entries = ahead h.entries (e ∷ []); closed = λ is. is }

pub GoesOn-here : (here : Option Bool) (h : History) → GoesOn h (with_here here h)
GoesOn-here here h = record { id = refl; arch = refl; strip = refl; entries = whole h.entries; closed = λ is. is }

pub GoesOn-closed : (h : History) → GoesOn h (closed_history h)
GoesOn-closed h = record { id = refl; arch = refl; strip = refl; entries = whole h.entries; closed = λ is. refl }

-- each service goes on as itself
pub Follows-same : (s : ServiceState) → Follows s s
Follows-same s = record { device = refl; each = λ id h at. rw at (GoesOn-same h) }

some_trans : (h g : History) (o : Option History) → GoesOn h g → IsSomeAnd o (GoesOn g) → IsSomeAnd o (GoesOn h)
some_trans h g o one two = grind (arith, GoesOn-trans)

pub Follows-trans : (a b c : ServiceState) → Follows a b → Follows b c → Follows a c
Follows-trans a b c one two = record {
  device = two.device ∙ one.device;
  each = λ id h at. at_option id h (history_of b.histories id) refl (one.each id h at);
}
  where
    at_option : (id : ℕ) (h : History) (o : Option History) → history_of b.histories id ≡ o → IsSomeAnd o (GoesOn h) → IsSomeAnd (history_of c.histories id) (GoesOn h)
    at_option id h None e none = absurd none
    at_option id h (Some g) e goes = some_trans h g (history_of c.histories id) goes (two.each id g e)

abbrev pub changed_at : ServiceState → ℕ → (History → History) → ServiceState
changed_at s id change = record s { histories = with_changed s.histories id change }

pub Follows-changed : (s : ServiceState) (id : ℕ) (change : History → History) → ((h : History) → GoesOn h (change h)) → Follows s (changed_at s id change)
Follows-changed s id change goes = grind (arith, history_of-modified, GoesOn-same)

-- one tenancy fewer
pub Follows-without : (s : ServiceState) (id : ℕ) → Follows s (without_tenancy s id)
Follows-without s id = grind (arith, Follows-changed s id closed_history GoesOn-closed)

-- a strip moved
pub Follows-moved : (s : ServiceState) (id offset : ℕ) → Follows s (record s { plan = with_moved s.plan id offset })
Follows-moved s id offset = let same = Follows-same s in record { device = refl; each = same.each }

-- one tenancy more
pub Follows-push : (s t : ServiceState) (h : History) → t.device ≡ s.device → t.histories ≡ s.histories ++ h ∷ [] → Follows s t
Follows-push s t h device more = grind (arith, history_of-push, history_of-past, GoesOn-same)

-- the tenancies
pub Stays-same : (s : ServiceState) → Stays s s
Stays-same s = record { plan = refl; count = refl; live = λ id. refl }

pub Stays-trans : (a b c : ServiceState) → Stays a b → Stays b c → Stays a c
Stays-trans a b c one two = record { plan = two.plan ∙ one.plan; count = two.count ∙ one.count; live = λ id. two.live id ∙ one.live id }

live_some : (h : History) → is_some (if_live (Some h)) ≡ h.live
live_some h = elim h.live as (λ b. is_some (if b then Some h else None) ≡ b) [ true ↦ refl | false ↦ refl ]

pub Stays-changed : (s : ServiceState) (id : ℕ) (change : History → History) → ((h : History) → (change h).live ≡ h.live) → Stays s (changed_at s id change)
Stays-changed s id change live = grind (arith, length-modified, history_of-modified)
