-- Events, one after another.
use Rattle.line_service.proofs.Prelude.{◌≡◌, ℕ, zero, suc, List, [], ◌∷◌, ◌++◌, length, take, Option, Some, ◌⊎◌, inl, inr, refl, sym, ap, subst, ◌∙◌, arith, append-nil, append_assoc, length-append, slice_get, Appends-nil, Appends-trans, flat_map-append, take-append-le, take_all, slice_get_within, take-nil, take-append_seam, Event, Follows, Happens, View, bytes_kept, bytes_told, kept_in, told_in, Kept, Told, AtEachMoment, AtEachRead, IsBacked, IsCaughtUp}

pub kept_in-append : (events more : List Event) → kept_in (events ++ more) ≡ kept_in events ++ kept_in more
kept_in-append events more = flat_map-append bytes_kept events more

pub told_in-append : (events more : List Event) → told_in (events ++ more) ≡ told_in events ++ told_in more
told_in-append events more = flat_map-append bytes_told events more

follows_none : (a : Option (List Event)) → Follows a a []
follows_none a = grind (arith, append-nil)

follows_then : (a b c : Option (List Event)) (events more : List Event) → Follows a b events → Follows b c more → Follows a c (events ++ more)
follows_then a b c events more p q = grind (arith, append_assoc)

pub nothing_happens : (view : View) → Happens view view []
nothing_happens view = record { kept = Appends-nil view.log; told = Appends-nil view.output; in_order = follows_none view.history }

pub happens_then : (a b c : View) (events more : List Event) → Happens a b events → Happens b c more → Happens a c (events ++ more)
happens_then a b c events more first second = grind (arith, kept_in-append, Appends-trans, told_in-append, follows_then)

pub kept_push : (events : List Event) (bytes : List ℕ) → kept_in (events ++ Kept bytes ∷ []) ≡ kept_in events ++ bytes
kept_push events bytes = kept_in-append events (Kept bytes ∷ []) ∙ ap (λ l. kept_in events ++ l) (append-nil bytes)

pub told_push : (events : List Event) (bytes : List ℕ) → told_in (events ++ Told bytes ∷ []) ≡ told_in events ++ bytes
told_push events bytes = told_in-append events (Told bytes ∷ []) ∙ ap (λ l. told_in events ++ l) (append-nil bytes)

pub kept_told : (events : List Event) (bytes : List ℕ) → kept_in (events ++ Told bytes ∷ []) ≡ kept_in events
kept_told events bytes = kept_in-append events (Told bytes ∷ []) ∙ append-nil (kept_in events)

pub told_kept : (events : List Event) (bytes : List ℕ) → told_in (events ++ Kept bytes ∷ []) ≡ told_in events
told_kept events bytes = told_in-append events (Kept bytes ∷ []) ∙ append-nil (told_in events)

-- one more event
take_push : (events : List Event) (e : Event) (n : ℕ) → (take n (events ++ e ∷ []) ≡ take n events) ⊎ (take n (events ++ e ∷ []) ≡ events ++ e ∷ [])
take_push events e n = grind (arith, take-append-le, take_all, length-append)

get_push : (events : List Event) (e : Event) (n : ℕ) (x : Event) → slice_get (events ++ e ∷ []) n ≡ Some x → (slice_get events n ≡ Some x) ⊎ ((n ≡ length events) × (e ≡ x))
get_push [] e zero x is = inr (refl, cc)
get_push [] e (suc n) x is = absurd (cc)
get_push (d ∷ events) e zero x is = inl is
get_push (d ∷ events) e (suc n) x is = elim (get_push events e n x is) [ inl h ↦ inl h | inr h ↦ inr (ap suc h.0, h.1) ]

pub moments_more : {S : Type 0} (answers : S → ℕ → List ℕ → List ℕ → S → Type 0) (old : S) (first : ℕ) (events : List Event) (e : Event) → AtEachMoment answers old first events → IsBacked answers old first (events ++ e ∷ []) → AtEachMoment answers old first (events ++ e ∷ [])
moments_more answers old first events e moments is = grind (arith, take_push)

read_before : {S : Type 0} (answers : S → ℕ → List ℕ → List ℕ → S → Type 0) (old : S) (first : ℕ) (events : List Event) (e : Event) (n : ℕ) (bytes : List ℕ) → AtEachRead answers old first events → slice_get events n ≡ Some (Kept bytes) → IsCaughtUp answers old first (take n (events ++ e ∷ []))
read_before answers old first events e n bytes reads at = grind (arith, slice_get_within, take-append-le)

pub reads_told : {S : Type 0} (answers : S → ℕ → List ℕ → List ℕ → S → Type 0) (old : S) (first : ℕ) (events : List Event) (told : List ℕ) → AtEachRead answers old first events → AtEachRead answers old first (events ++ Told told ∷ [])
reads_told answers old first events told reads = grind (arith, get_push, read_before)

pub reads_kept : {S : Type 0} (answers : S → ℕ → List ℕ → List ℕ → S → Type 0) (old : S) (first : ℕ) (events : List Event) (kept : List ℕ) → AtEachRead answers old first events → IsCaughtUp answers old first events → AtEachRead answers old first (events ++ Kept kept ∷ [])
reads_kept answers old first events kept reads is = grind (arith, get_push, read_before, take-append_seam)

pub moments_none : {S : Type 0} (answers : S → ℕ → List ℕ → List ℕ → S → Type 0) (old : S) (first : ℕ) → AtEachMoment answers old first []
moments_none answers old first = λ n.
    let P : List Event → Type 0 = λ es. IsBacked answers old first es in
    subst P (sym (take-nil n)) (record { lines = []; more = []; kept = refl; are_lines = refl; text = []; new = old; answered = (refl, refl); unsaid = []; told = refl })

pub reads_none : {S : Type 0} (answers : S → ℕ → List ℕ → List ℕ → S → Type 0) (old : S) (first : ℕ) → AtEachRead answers old first []
reads_none answers old first = λ n bytes at. absurd (cc)
