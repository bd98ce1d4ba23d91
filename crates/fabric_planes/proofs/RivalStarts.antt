-- Bounds of the paths from starts that come before a known path.
use Rattle.fabric_planes.proofs.Prelude.{◌≡◌, ℕ, zero, suc, ◌<◌, ◌≤◌, ◌⊎◌, List, [], ◌∷◌, length, set, Some, sym, ap, ◌∙◌, subst, inl, inr, arith, Contains, slice_index, slice_index_or, sum_by, cases_eq, get_or_default, get_or-set_same, NodeKind, Source, Opin, Node, IsWire, Basis, IsBasis, graph_of, IsLowerBound, Leads, Family, AreLowered, node_at, Terminals, place_of, labels_of, IsNetSearch, IsShownPin, ArePins, AreOverSide, AreOverPin, AreRivalsOver, AreFromSource, AreRivalsFrom, AreShownTo, AreWiresTo, StartWire, PinAt, Lead, Head}
use Rattle.fabric_planes.proofs.Labeled.{at_place}
use Rattle.fabric_planes.proofs.Strips.{are_labels}

pub kind_by : (v w : Node) (k : NodeKind) → v ≡ w → v.kind ≡ k → w.kind ≡ k
kind_by v w k e is = subst (λ (u : Node). u.kind ≡ k) e is

module _ (basis : Basis) (cost : ℕ → ℕ) (f : Family) where
  abbrev node : ℕ → Node
  node = (graph_of basis).node

  -- lesser bounds are still bounds
  pub side_still : (head : Head) (lead : Lead) (side : ℕ) (xs ys : List ℕ) → AreOverSide basis cost f head lead side xs → AreLowered xs ys → AreOverSide basis cost f head lead side ys
  side_still head lead side xs ys low falls wire met first way leads = omega (arith, low wire met first way leads, falls.falls (node wire).n)

  pub over_still : (head : Head) (start pin more : ℕ) (xs ys : List ℕ) → AreRivalsOver basis cost f head start pin more xs → AreLowered xs ys → AreRivalsOver basis cost f head start pin more ys
  over_still head start pin more xs ys are falls = record { low = λ side wire b met first way leads. omega (arith, are.low side wire b met first way leads, falls.falls (node wire).n) }

  pub from_still : (t : Terminals) (head : Head) (start : ℕ) (xs ys : List ℕ) → AreRivalsFrom basis cost f t head start xs → AreLowered xs ys → AreRivalsFrom basis cost f t head start ys
  from_still t head start xs ys are falls = search arith

  -- a pin's whole cost is no less
  pub over_whole : (head : Head) (lead : Lead) (more : ℕ) (xs : List ℕ) → AreOverPin basis cost f head lead xs → lead.more ≤ more → AreRivalsOver basis cost f head lead.start lead.pin more xs
  over_whole head lead more xs low l = record { low = λ side wire b met first way leads. omega (arith, low side b wire met first way leads, l) }

  pub no_over : (head : Head) (start pin more : ℕ) (xs : List ℕ) → ⊥ → AreRivalsOver basis cost f head start pin more xs
  no_over head start pin more xs none = absurd none

  -- ---- starts by kind

  pub from_source : (t : Terminals) (head : Head) (start : ℕ) (xs : List ℕ) → (node start).kind ≡ Source → AreFromSource basis cost f t head start xs → AreRivalsFrom basis cost f t head start xs
  from_source t head start xs k low = grind arith

  pub from_output : (t : Terminals) (head : Head) (start : ℕ) (lead : Lead) (xs : List ℕ) → (node start).kind ≡ Opin → lead.start ≡ start → lead.pin ≡ start → lead.more ≡ 0 → AreOverPin basis cost f head lead xs → AreRivalsFrom basis cost f t head start xs
  from_output t head start lead xs k s p m low = grind arith

  -- all bounds are 0
  pub from_other : (t : Terminals) (head : Head) (start : ℕ) (xs : List ℕ) → (IsWire (node start).kind → ⊥) → ((node start).kind ≡ Source → ⊥) → ((node start).kind ≡ Opin → ⊥) → ((track : ℕ) → track < basis.arch.tracks → slice_index xs track ≡ 0) → AreRivalsFrom basis cost f t head start xs
  from_other t head start xs w s o none = grind arith

  -- a wire
  pub from_wire : (t : Terminals) (head : Head) (start : ℕ) (xs : List ℕ) → IsWire (node start).kind
      → (start < head.start → (way : List ℕ) → Leads (f.plane (node start).n) f.exit (place_of basis (node start)) way → slice_index xs (node start).n ≤ sum_by (f.plane (node start).n).cost way)
      → AreRivalsFrom basis cost f t head start xs
  from_wire t head start xs w low = grind arith

  -- the bound of a wire's track is one of the ways from the wire
  pub wire_set : (t : Terminals) (head : Head) (wire : StartWire) (xs : List ℕ) (ahead : ℕ) → IsWire (node wire.number).kind → wire.track ≡ (node wire.number).n → wire.place ≡ place_of basis (node wire.number) → wire.track < length xs
      → IsLowerBound (f.plane wire.track) f.exit wire.place (Some ahead) → AreRivalsFrom basis cost f t head wire.number (set xs wire.track ahead)
  wire_set t head wire xs ahead w track place b low = grind (arith, get_or-set_same)

-- ---- pins that are shown

-- a pin of the list is at the place, or none is
find_place : (pins : List PinAt) (place : ℕ) → ((k : ℕ) × (k < length pins) × ((d : PinAt) → (slice_index_or pins k d).place ≡ place)) ⊎ ((k : ℕ) (d : PinAt) → k < length pins → (slice_index_or pins k d).place ≡ place → ⊥)
find_place [] place = inr (λ k d b. absurd (omega (arith, b)))
find_place (x ∷ xs) place = elim (cases_eq x.place place) [
  | inl e ↦ inl (0, omega arith, λ d. e)
  | inr n ↦ elim (find_place xs place) [
    | inl found ↦ inl (suc found.0, omega (arith, found.1), found.2)
    | inr none ↦ inr (further n none)
  ]
]
  where
    further : (x.place ≡ place → ⊥) → ((k : ℕ) (d : PinAt) → k < length xs → (slice_index_or xs k d).place ≡ place → ⊥) → (k : ℕ) (d : PinAt) → k < length (x ∷ xs) → (slice_index_or (x ∷ xs) k d).place ≡ place → ⊥
    further n none zero d b e = n e
    further n none (suc k) d b e = none k d (omega (arith, b)) e

pub index_in : {X : Type 0} (xs : List X) (k : ℕ) (d : X) → k < length xs → Contains xs (slice_index_or xs k d)
index_in xs k d b = (k, b, get_or_default xs k (slice_index_or xs k d) d b)

module _ {basis : Basis} (is : IsBasis basis) (t : Terminals) (cost : ℕ → ℕ) (starts : List ℕ) (goal : ℕ) (search : IsNetSearch basis cost starts goal t) (pins : List PinAt) (are_pins : ArePins basis t pins) where
  -- of two pins that are shown at one place, both have one number
  same_number : (number other : ℕ) → IsShownPin basis t number → IsShownPin basis t other → place_of basis ((graph_of basis).node number) ≡ place_of basis ((graph_of basis).node other) → number ≡ other
  unfolding labels_of
  same_number number other s r e =
      let l = labels_of basis cost starts goal t in
      let are = are_labels is cost starts goal t search in
      sym (at_place l are 0 number s.within s.shown) ∙ (ap (node_at l 0) e ∙ at_place l are 0 other r.within r.shown)

  -- a pin that is shown is listed
  pub record IsListedAt (number : ℕ) : Type 0 where
    pub k : ℕ
    pub within : k < length pins
    pub number_is : (d : PinAt) → (slice_index_or pins k d).number ≡ number

  pub shown_listed : (number : ℕ) → IsShownPin basis t number → IsListedAt number
  shown_listed number s = elim (find_place pins (place_of basis ((graph_of basis).node number))) [
    | inl found ↦ record {
      k = found.0;
      within = found.1;
      number_is = λ d.
          let c = index_in pins found.0 d found.1 in
          same_number (slice_index_or pins found.0 d).number number (are_pins.shown (slice_index_or pins found.0 d) c) s (are_pins.place (slice_index_or pins found.0 d) c ∙ found.2 d);
    }
    | inr none ↦ absurd (are_pins.all number s none)
  ]

  -- the bounds of all pins in the list are those of the pins that are shown
  pub all_shown : (f : Family) (head : Head) (start : ℕ) (bounds : List ℕ) → ((k : ℕ) → k < length pins → AreShownTo basis cost f head start pins k bounds) → AreFromSource basis cost f t head start bounds
  all_shown f head start bounds low number s o =
      let a = shown_listed number s in
      let x : PinAt = slice_index_or pins a.k (record { place = 0; number = 0; row = 0; per_track = 0; base = 0 }) in
      let e : x.number ≡ number = a.number_is (record { place = 0; number = 0; row = 0; per_track = 0; base = 0 }) in
      let there : slice_index_or pins a.k x ≡ x = get_or_default pins a.k x (record { place = 0; number = 0; row = 0; per_track = 0; base = 0 }) a.within in
      subst (λ (v : ℕ). AreRivalsOver basis cost f head start v (cost v) bounds) e
      (low a.k a.within x there (ap (λ (v : ℕ). ((graph_of basis).node v).kind) e ∙ o))

pub contained_index : (xs : List ℕ) (x : ℕ) (c : Contains xs x) → slice_index xs c.0 ≡ x
contained_index xs x c = get_or_default xs c.0 0 x c.1 ∙ c.2

-- ---- one more of a list

pub shown_here : (basis : Basis) (cost : ℕ → ℕ) (f : Family) (head : Head) (start : ℕ) (pins : List PinAt) (k : ℕ) (d : PinAt) (bounds : List ℕ) → k < length pins
    → (((graph_of basis).node (slice_index_or pins k d).number).kind ≡ Opin → AreRivalsOver basis cost f head start (slice_index_or pins k d).number (cost (slice_index_or pins k d).number) bounds) → AreShownTo basis cost f head start pins k bounds
shown_here basis cost f head start pins k d bounds b low pin e o = grind (arith, get_or_default)

pub wires_here : (basis : Basis) (cost : ℕ → ℕ) (f : Family) (t : Terminals) (head : Head) (wires : List StartWire) (k : ℕ) (d : StartWire) (bounds : List ℕ) → k < length wires
    → AreRivalsFrom basis cost f t head (slice_index_or wires k d).number bounds → AreWiresTo basis cost f t head wires k bounds
wires_here basis cost f t head wires k d bounds b low wire e = subst (λ (v : StartWire). AreRivalsFrom basis cost f t head v.number bounds) (get_or_default wires k d wire b ∙ e) low

pub shown_still : (basis : Basis) (cost : ℕ → ℕ) (f : Family) (head : Head) (start : ℕ) (pins : List PinAt) (k : ℕ) (xs ys : List ℕ) → AreShownTo basis cost f head start pins k xs → AreLowered xs ys → AreShownTo basis cost f head start pins k ys
shown_still basis cost f head start pins k xs ys low falls pin e o = over_still basis cost f head start pin.number (cost pin.number) xs ys (low pin e o) falls

pub wires_still : (basis : Basis) (cost : ℕ → ℕ) (f : Family) (t : Terminals) (head : Head) (wires : List StartWire) (k : ℕ) (xs ys : List ℕ) → AreWiresTo basis cost f t head wires k xs → AreLowered xs ys → AreWiresTo basis cost f t head wires k ys
wires_still basis cost f t head wires k xs ys low falls wire e = from_still basis cost f t head wire.number xs ys (low wire e) falls
