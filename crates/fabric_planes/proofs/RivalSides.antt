-- Bounds of the paths over an output pin that come before a known path.
use Rattle.fabric_planes.proofs.Prelude.{◌≡◌, ℕ, ◌<◌, ◌≤◌, List, sym, subst, arith, slice_index, Node, Basis, IsBasis, graph_of, Family, AreSides, IsMetAt, IsOutput, IsWireBound, place_of, head_over, IsLead, ComesFirst, Lead, Head}
use Rattle.fabric_planes.proofs.Strips.{together_parts, track_low}

module _ {basis : Basis} (is : IsBasis basis) where
  abbrev node : ℕ → Node
  node = (graph_of basis).node

  -- the wire is at the place of the side
  pub met_place : (source pin : Node) (sides : List ℕ) (side wire : ℕ) → AreSides basis source sides → IsOutput basis source pin → IsMetAt basis pin side wire → slice_index sides side ≡ place_of basis (node wire)
  met_place source pin sides side wire are output met = search (together_parts, arith)

  -- a wire over which paths come before the head is on one of the first tracks
  pub over_first : (source : Node) (sides : List ℕ) (lead : Lead) (head : Head) (side count tracks wire : ℕ) → AreSides basis source sides → IsLead basis source lead → tracks ≡ basis.arch.tracks
      → ((track : ℕ) → track < tracks → ComesFirst (record { start = lead.start; pin = lead.pin; place = slice_index sides side; track = track; cost = 0 }) head → track < count)
      → IsMetAt basis (node lead.pin) side wire → ComesFirst (head_over basis lead.start lead.pin wire) head → (node wire).n < count
  over_first source sides lead head side count tracks wire are is_lead many all met first =
      all (node wire).n (omega (arith, many, track_low is wire met.wire_is))
      (subst (λ (p : ℕ). ComesFirst (record { start = lead.start; pin = lead.pin; place = p; track = (node wire).n; cost = 0 }) head) (sym (met_place source (node lead.pin) sides side wire are is_lead.output met)) first)

  module _ (cost : ℕ → ℕ) (f : Family) where
    pub bound_less : (more wire bound less : ℕ) → less ≤ bound → IsWireBound basis cost f more wire bound → IsWireBound basis cost f more wire less
    bound_less more wire bound less l b way leads = omega (arith, l, b way leads)

    pub no_bound : (more wire bound : ℕ) → ⊥ → IsWireBound basis cost f more wire bound
    no_bound more wire bound none way leads = absurd none
