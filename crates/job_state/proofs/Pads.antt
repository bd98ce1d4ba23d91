-- The pads of placed blocks are on the strip.
use Rattle.job_state.proofs.Prelude.{ℕ, suc, zero, ◌≡◌, ◌+◌, ◌≤◌, inl, inr, Bool, true, ◌||◌, List, [], length, arith, ap, subst, le-leb, lt-ltb, eq-eqb, All, and_from, All-append, All-cons, All-contains, All-nil, Arch, Block, InputPad, OutputPad, Cluster, blocks_of, PackedCircuit, Strip, Place, Kind, Pad, places_of, IsPlaceIn, Resource, is_there, ArePlaced, block_at, place_of, pad_of, pads_of, pads_below, kind_of}
use Rattle.rr_graph.specs.declared.resource.ResourceKind.TheVariants.{Pad as PadResource}
use Rattle.job_state.proofs.Gathered.{gathered_to}

-- the rows of a strip's places
abbrev Within : Strip → Type 0
Within strip = (kind : Kind) → All (IsPlaceIn strip kind) (places_of strip kind)

-- the pad at a place
abbrev pad_at : Place → Resource
pad_at place = record { x = place.x; kind = PadResource; y = place.y; n = place.subblock }

or_left : (a b : Bool) → a ≡ true → (a || b) ≡ true
or_left a b is = ap (λ t. t || b) is

or_right : (a b : Bool) → b ≡ true → (a || b) ≡ true
or_right a b is = grind arith

module _ (arch : Arch) (strip : Strip) where
  abbrev IsThere : Resource → Type 0
  IsThere resource = is_there arch strip resource ≡ true

  pad_there : (place : Place) → IsPlaceIn strip Pad place → IsThere (pad_at place)
  pad_there place within =
      and_from _ _ (le-leb 1 place.x within.column.0) (and_from _ _ (le-leb place.x strip.width within.column.1) (and_from _ _ (elim within.row.0 [
        | inl below ↦ or_left _ _ (eq-eqb place.y 0 below)
        | inr above ↦ or_right _ _ (eq-eqb place.y (strip.rows + 1) above)
      ]) (lt-ltb place.subblock strip.io_rat within.row.1)))

  block_there : (block : Block) (place : Place) → IsPlaceIn strip (kind_of block) place → All IsThere (pad_of block place)
  block_there (InputPad net) place within = All-cons IsThere (pad_at place) [] (pad_there place within) (All-nil IsThere)
  block_there (OutputPad net) place within = All-cons IsThere (pad_at place) [] (pad_there place within) (All-nil IsThere)
  block_there (Cluster cluster) place within = All-nil IsThere

  below_there : (packed : PackedCircuit) (places : List Place) → ArePlaced strip packed places → Within strip → (count : ℕ) → count ≤ length (blocks_of packed) → All IsThere (pads_below packed places count)
  below_there packed places placed within zero few = All-nil IsThere
  below_there packed places placed within (suc count) few =
      let next : count + 1 ≡ suc count = omega arith in
      let here : IsPlaceIn strip (kind_of (block_at packed count)) (place_of places count) =
      All-contains (IsPlaceIn strip (kind_of (block_at packed count))) (places_of strip (kind_of (block_at packed count))) (place_of places count) (within (kind_of (block_at packed count))) (placed.by_kind count few) in
      subst (λ many. All IsThere (pads_below packed places many)) next
      (subst (All IsThere) (gathered_to (λ number. pad_of (block_at packed number) (place_of places number)) count)
      (All-append IsThere (pads_below packed places count) (pad_of (block_at packed count) (place_of places count)) (below_there packed places placed within count (omega (arith, few)))
      (block_there (block_at packed count) (place_of places count) here)))

  pub pads_there : (packed : PackedCircuit) (places : List Place) → ArePlaced strip packed places → Within strip → All IsThere (pads_of packed places)
  pads_there packed places placed within = below_there packed places placed within (length (blocks_of packed)) (omega arith)
