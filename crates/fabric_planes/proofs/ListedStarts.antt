-- The starts that are in a track's plane.
use Rattle.fabric_planes.proofs.Prelude.{◌≡◌, ℕ, ◌+◌, ◌<◌, ◌⊎◌, List, [], ◌∷◌, ◌++◌, length, sym, ap, ◌∙◌, subst, inl, inr, arith, true, Contains, slice_index_or, map-append, Contains-append_left, Contains-append_right, Contains-append_cases, Node, IsWire, Basis, IsBasis, graph_of, IsLowerBound, Family, IsPlaneBound, places_of, Start, PinAt, node_at, family_of, Terminals, place_of, shows, labels_of, planes_of, IsNetSearch, IsShownPin, ArePins, AreSomeStarts, AreFirsts}
use Rattle.std.specs.Prelude.{Some}
use Rattle.fabric_planes.proofs.Labeled.{at_place, has_place, place_has}
use Rattle.fabric_planes.proofs.Numbers.{same_shows, listed_there}
use Rattle.fabric_planes.proofs.Strips.{are_labels}

module _ (basis : Basis) (t : Terminals) (cost : ℕ → ℕ) (starts : List ℕ) (goal : ℕ) where
  abbrev pub IsShownIn : ℕ → ℕ → Type 0
  IsShownIn track number = shows basis.strip t track ((graph_of basis).node number).kind ((graph_of basis).node number) ≡ true

module _ {basis : Basis} (is : IsBasis basis) (t : Terminals) (cost : ℕ → ℕ) (starts : List ℕ) (goal : ℕ) (search : IsNetSearch basis cost starts goal t) where
  abbrev node : ℕ → Node
  node = (graph_of basis).node

  abbrev IsShown : ℕ → ℕ → Type 0
  IsShown track number = IsShownIn basis t cost starts goal track number

  -- ---- pins that are listed

  pub pin_shows : (track number : ℕ) → IsShownPin basis t number → IsShown track number
  pin_shows track number s = same_shows basis.strip t 0 track (node number).kind (node number) s.no_wire s.shown

  pub shows_pin : (track number : ℕ) → number < (graph_of basis).count → (IsWire (node number).kind → ⊥) → IsShown track number → IsShownPin basis t number
  shows_pin track number b n s = record { within = b; no_wire = n; shown = same_shows basis.strip t track 0 (node number).kind (node number) n s }

  module _ (firsts : List ℕ) (told : AreFirsts basis firsts) (pins : List PinAt) (are_pins : ArePins basis t pins) where
    pub listed_shown : (place number other : ℕ) → (pin : PinAt) × Contains pins pin × (pin.place ≡ place) × (pin.number ≡ other) → other ≡ number → IsShownPin basis t number
    listed_shown place number other (pin, c, p, n) e = subst (λ (v : ℕ). IsShownPin basis t v) (n ∙ e) (are_pins.shown pin c)

    pub other_listed : (place number other : ℕ) → (pin : PinAt) × Contains pins pin × (pin.place ≡ place) × (pin.number ≡ other) → place_of basis (node number) ≡ place → (other ≡ number → ⊥) → IsShownPin basis t number → ⊥
    unfolding labels_of
    other_listed place number other found at differ s =
        let l = labels_of basis cost starts goal t in
        let mine : node_at l 0 (place_of basis (node number)) ≡ number = at_place l (are_labels is cost starts goal t search) 0 number s.within s.shown in
        let theirs = (listed_there is t cost starts goal search firsts told pins are_pins 0 place other found).0 in
        differ (sym theirs ∙ (ap (node_at l 0) (sym at) ∙ mine))

    pub none_shown : (place number : ℕ) → ((k : ℕ) (d : PinAt) → k < length pins → (slice_index_or pins k d).place ≡ place → ⊥) → place_of basis (node number) ≡ place → IsShownPin basis t number → ⊥
    none_shown place number none at s = are_pins.all number s (λ k d b e. none k d b (e ∙ at))

  -- ---- entries

  abbrev F : Family
  F = planes_of basis cost starts goal t

  -- a start that is shown is at an entry
  pub entry_of : (track number : ℕ) → Contains starts number → IsShown track number → Contains (F.entries track) (place_of basis (node number))
  unfolding family_of labels_of
  entry_of track number c s = has_place (labels_of basis cost starts goal t) track starts number c s

  -- an entry is the place of a start that is shown
  pub record IsEntryOf (track entry : ℕ) : Type 0 where
    pub number : ℕ
    pub contained : Contains starts number
    pub shown : IsShown track number
    pub at : place_of basis (node number) ≡ entry

  pub entry_start : (track entry : ℕ) → Contains (F.entries track) entry → IsEntryOf track entry
  unfolding family_of labels_of
  entry_start track entry c = grind (arith, place_has (labels_of basis cost starts goal t) track starts entry c)

  -- a bound of all paths of the plane is one of the ways from each entry
  pub entry_bound : (track entry bound : ℕ) → IsPlaneBound F track bound → Contains (F.entries track) entry → IsLowerBound (F.plane track) F.exit entry (Some bound)
  entry_bound track entry bound low c rest way = low (entry ∷ rest) (c, way)

  -- ---- lists of starts

  only : (start other : Start) → Contains (start ∷ []) other → start ≡ other
  only start other h1 = grind arith

  pub some_more : (track : ℕ) (list : List Start) (start : Start) → AreSomeStarts F track list → Contains (F.entries track) start.place → IsLowerBound (F.plane track) F.exit start.place (Some start.ahead)
      → AreSomeStarts F track (list ++ start ∷ [])
  some_more track list start are entry low = record {
    among = λ other c. elim (Contains-append_cases list (start ∷ []) other c) [
      | inl before ↦ are.among other before
      | inr last ↦ subst (λ (s : Start). Contains (F.entries track) s.place) (only start other last) entry
    ];
    bounded = λ other c. elim (Contains-append_cases list (start ∷ []) other c) [
      | inl before ↦ are.bounded other before
      | inr last ↦ subst (λ (s : Start). IsLowerBound (F.plane track) F.exit s.place (Some s.ahead)) (only start other last) low
    ];
  }

-- the places with one more start
places_more : (list : List Start) (start : Start) → places_of (list ++ start ∷ []) ≡ places_of list ++ start.place ∷ []
places_more list start = map-append (λ (s : Start). s.place) list (start ∷ [])

pub place_kept : (list : List Start) (start : Start) (place : ℕ) → Contains (places_of list) place → Contains (places_of (list ++ start ∷ [])) place
place_kept list start place c = subst (λ (xs : List ℕ). Contains xs place) (sym (places_more list start)) (Contains-append_left (places_of list) (start.place ∷ []) place c)

pub place_last : (list : List Start) (start : Start) (place : ℕ) → start.place ≡ place → Contains (places_of (list ++ start ∷ [])) place
place_last list start place e = subst (λ (xs : List ℕ). Contains xs place) (sym (places_more list start)) (Contains-append_right (places_of list) (start.place ∷ []) place (0, omega arith, e))

pub below : (k count : ℕ) → k < count + 1 → (k < count) ⊎ (k ≡ count)
below k count b = grind arith
