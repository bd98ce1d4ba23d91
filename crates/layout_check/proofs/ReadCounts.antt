-- Counts of reads by net, after more reads.
use Rattle.layout_check.proofs.Prelude.{◌≡◌, ◌≢◌, ◌⊎◌, inl, inr, ℕ, ◌+◌, ◌<◌, true, false, cond, ◌==◌, List, [], ◌∷◌, ◌++◌, Option, Some, length, get_or, set, take, min, refl, sym, ap, subst, ◌∙◌, arith, append_assoc, slice_get, option_to_list, flat_map, flat_map-append, append-nil, get_or-replicate, get_or-set_other, get_or-set_same, length-replicate, length-set, take_more, get_or_from_slice_get, eqb_tells, Latch, count-append, AreCounts, CountsOn}
use Rattle.std.specs.Prelude.{replicate}
use Rattle.std.specs.List.{count_by}

-- one more read
one_read : (reads : List ℕ) (net other : ℕ) → count_by (λ read. read == other) (reads ++ net ∷ []) ≡ count_by (λ read. read == other) reads + cond (net == other) 1 0
one_read reads net other = grind (arith, count-append)

pub counted_read : (counts : List ℕ) (net more : ℕ) → net < length counts → more ≡ min (get_or counts net 0 + 1) 255 → CountsOn counts (net ∷ []) (set counts net more)
counted_read counts net more within is = record {
  long = length-set counts net more;
  counted = λ reads counted other inside.
      let inner : other < length counts = (let long = length-set counts net more in omega (arith, inside, long)) in
      by reads other (eqb_tells net other) (one_read reads net other) (counted other inner);
}
  where
    by : (reads : List ℕ) (other : ℕ) → ((net == other) ≡ true) × (net ≡ other) ⊎ ((net == other) ≡ false) × (net ≢ other) → count_by (λ read. read == other) (reads ++ net ∷ []) ≡ count_by (λ read. read == other) reads + cond (net == other) 1 0 →
        get_or counts other 0 ≡ min 255 (count_by (λ read. read == other) reads) → get_or (set counts net more) other 0 ≡ min 255 (count_by (λ read. read == other) (reads ++ net ∷ []))
    by reads other (inl e) count old =
        let one = rw e.0 at count in
        let here : get_or (set counts net more) other 0 ≡ more = ap (λ n. get_or (set counts net more) n 0) (sym e.1) ∙ get_or-set_same counts net more 0 within in
        let same : get_or counts net 0 ≡ get_or counts other 0 = ap (λ n. get_or counts n 0) e.1 in
        omega (arith, here, same, is, old, one)
    by reads other (inr e) count old =
        let none = rw e.0 at count in
        let here : get_or (set counts net more) other 0 ≡ get_or counts other 0 = get_or-set_other counts net other more 0 (λ h. e.1 (sym h)) in
        omega (arith, here, old, none)

-- no reads, and first some and then others
pub counts_on_none : (counts : List ℕ) → CountsOn counts [] counts
counts_on_none counts = record { long = refl; counted = λ reads counted. subst (λ rs. AreCounts rs counts) (sym (append-nil reads)) counted }

pub counts_on : (old mid new some others all : List ℕ) → CountsOn old some mid → CountsOn mid others new → some ++ others ≡ all → CountsOn old all new
counts_on old mid new some others all first then is = record {
  long = then.long ∙ first.long;
  counted = λ reads counted. subst (λ rs. AreCounts rs new) (append_assoc reads some others ∙ ap (λ rs. reads ++ rs) is) (then.counted (reads ++ some) (first.counted reads counted));
}

-- nothing is read yet
pub counts_none : (n : ℕ) → AreCounts [] (replicate n 0)
counts_none n net within = let inner : net < n = (let long = length-replicate {A = ℕ} n 0 in omega (arith, within, long)) in get_or-replicate n net 0 0 inner

-- ---- one more item of a list

pub take_place : {X : Type 0} (xs : List X) (i : ℕ) (x : X) → i < length xs → slice_get xs i ≡ Some x → take (i + 1) xs ≡ take i xs ++ x ∷ []
take_place xs i x within at = take_more xs i x within ∙ ap (λ y. take i xs ++ y ∷ []) (get_or_from_slice_get xs i x x at)

pub flat_map_push : {X A : Type 0} (f : X → List A) (xs : List X) (x : X) → flat_map f (xs ++ x ∷ []) ≡ flat_map f xs ++ f x
flat_map_push f xs x = flat_map-append f xs (x ∷ []) ∙ ap (λ last. flat_map f xs ++ last) (append-nil (f x))

pub control_here : (control : Option ℕ) (net : ℕ) → control ≡ Some net → net ∷ [] ≡ option_to_list control
control_here control net is = sym (ap option_to_list is)

pub control_none : (control : Option ℕ) → ((net : ℕ) → control ≡ Some net → ⊥) → [] ≡ option_to_list control
control_none control h = grind arith

pub controls_more : (latches : List Latch) (i : ℕ) (d : Latch) (controls : List ℕ) → i < length latches → controls ≡ option_to_list (get_or latches i d).control →
    flat_map (λ (latch : Latch). option_to_list latch.control) (take i latches) ++ controls ≡ flat_map (λ (latch : Latch). option_to_list latch.control) (take (i + 1) latches)
controls_more latches i d controls within is = grind (arith, flat_map_push, take_more latches i d within)
