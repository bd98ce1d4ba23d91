-- Bounds of the paths of a track's plane, by the starts from which they lead.
use Rattle.fabric_planes.proofs.Prelude.{◌≡◌, ℕ, ◌+◌, ◌<◌, ◌≤◌, List, ◌++◌, length, take, drop, sym, ◌∙◌, subst, inl, inr, arith, Contains, slice_index, sum_by, take_at, All-contains, Node, Basis, IsBasis, graph_of, Leads, cost_of, Family, IsPlaneBound, IsWireBound, IsWireOf, Terminals, IsNetSearch, IsStart, planes_of, AreRivalsFrom, IsOtherPath, IsPinPath, IsSourcePath, IsWirePath, Head}
use Rattle.fabric_planes.proofs.Heads.{plane_head}
use Rattle.fabric_planes.proofs.RivalPaths.{met_somewhere, source_pin}

module _ {basis : Basis} (is : IsBasis basis) (t : Terminals) (cost : ℕ → ℕ) (starts : List ℕ) (goal : ℕ) (search : IsNetSearch basis cost starts goal t) where
  abbrev node : ℕ → Node
  node = (graph_of basis).node

  abbrev F : Family
  F = planes_of basis cost starts goal t

  start_of : (number : ℕ) → Contains starts number → IsStart basis t number
  start_of number c = All-contains (IsStart basis t) starts number search.starts_are c

  module _ (track : ℕ) (few : track < basis.arch.tracks) (head : Head) (bounds : List ℕ) where
    abbrev pub From : ℕ → Type 0
    From number = AreRivalsFrom basis cost F t head number bounds

    -- a bound of the ways from a wire is one of those on its track
    pub over_bound : (wire place more : ℕ) (way : List ℕ) → IsWireOf basis place wire → (node wire).n ≡ track → IsWireBound basis cost F more wire (slice_index bounds (node wire).n) → Leads (F.plane track) F.exit place way
        → slice_index bounds track ≤ more + (cost wire + sum_by (F.plane track).cost way)
    over_bound wire place more way w n low leads = grind arith

    pub wire_path : (path : List ℕ) (h : IsWirePath basis starts F track path) → From h.head.start → h.head.start < head.start → slice_index bounds track ≤ cost_of (F.plane track) path
    wire_path path h from first = grind arith

    pub pin_path : (path : List ℕ) (h : IsPinPath basis cost starts F track path) → From h.head.start → h.head.start < head.start → slice_index bounds track ≤ cost_of (F.plane track) path
    pin_path path h from first =
        let edge : Contains ((graph_of basis).ends h.head.start) h.is.wire = subst (λ (v : ℕ). Contains ((graph_of basis).ends v) h.is.wire) h.is.pin h.edge in
        let met = met_somewhere is h.head.start h.is.wire (start_of h.head.start h.start).within h.is.kind h.is.wire_is.wire edge in
        let low = (from.output h.is.kind).low met.side h.is.wire met.few met.met (inl first) in
        omega (arith, over_bound h.is.wire h.head.place 0 h.way h.is.wire_is (h.is.track ∙ h.on) low h.leads, h.sum)

    pub source_path : (path : List ℕ) (h : IsSourcePath basis cost starts F track path) → From h.head.start → h.head.start < head.start → slice_index bounds track ≤ cost_of (F.plane track) path
    source_path path h from first =
        let (o, shown) = source_pin is t cost starts goal search h.head.start h.head.pin h.start h.is.kind h.first in
        let met = met_somewhere is h.head.pin h.is.wire shown.within o h.is.wire_is.wire h.edge in
        let low = (from.source h.is.kind h.head.pin shown o).low met.side h.is.wire met.few met.met (inl first) in
        omega (arith, over_bound h.is.wire h.head.place (cost h.head.pin) h.way h.is.wire_is (h.is.track ∙ h.on) low h.leads, h.sum)

    pub other_path : (path : List ℕ) (h : IsOtherPath basis starts F track path) → From h.start → slice_index bounds track ≤ cost_of (F.plane track) path
    other_path path h from = omega (arith, from.other h.kind track few)

    -- if all paths come before the head, the bounds are ones of all paths
    pub all_paths : ((number : ℕ) → Contains starts number → From number) → ((number : ℕ) → number < (graph_of basis).count → number < head.start) → IsPlaneBound F track (slice_index bounds track)
    all_paths from last path p = elim (plane_head is t cost starts goal search track few path p) [
      | inl (inl h) ↦ wire_path path h (from h.head.start h.start) (last h.head.start (start_of h.head.start h.start).within)
      | inl (inr h) ↦ other_path path h (from h.start h.contained)
      | inr (inl h) ↦ pin_path path h (from h.head.start h.start) (last h.head.start (start_of h.head.start h.start).within)
      | inr (inr h) ↦ source_path path h (from h.head.start h.start) (last h.head.start (start_of h.head.start h.start).within)
    ]

-- what a vector has after its slice is written
pub written : (new old : List ℕ) (len : ℕ) → length new ≡ length old → len ≡ length old → take len (new ++ drop (length new) old) ≡ new
written new old len e l = take_at new (drop (length new) old) len (e ∙ sym l)
