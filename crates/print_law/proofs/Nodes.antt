-- The paths of a routing as nodes: each ends at its first sink, and their numbers are small.
use Rattle.print_law.proofs.Prelude.{◌≡◌, ℕ, refl, ◌+◌, ◌-◌, ◌<◌, ◌≤◌, ◌^◌, List, [], ◌∷◌, length, map, Option, Some, None, Bool, true, false, not, cond, arith, ◌∙◌, ◌⊎◌, inl, inr, ap, nat_le, nat_lt, ◌&&◌, ◌||◌, All, slice_get, position_or_len, option_map_or, nat_tests, length-map, All-head, All-tail, slice_get_within, IsArch, Arch, Pin, MAX_PINS, IsStripSize, Strip, IsSmallNode, EndsAtSink, is_sink_kind, wiring_of, IsWiring, is_block_number, is_block_row, is_chan_y, is_node, is_pad_row, is_slot, Basis, graph_of, Node, NodeKind, Source, Sink, Opin, Ipin, ChanX, ChanY}
use Rattle.print_law.proofs.Paths.{LeadsToSink}

pub both_hold : (a b : Bool) → (a && b) ≡ true → (a ≡ true) × (b ≡ true)
both_hold true b h = (refl, h)
both_hold false b h = absurd cc

one_holds : (a b : Bool) → (a || b) ≡ true → (a ≡ true) ⊎ (b ≡ true)
one_holds true b h = inl refl
one_holds false b h = inr h

sink_is : (kind : NodeKind) → is_sink_kind kind ≡ true → kind ≡ Sink
sink_is Sink h = refl
sink_is Source h = absurd cc
sink_is Opin h = absurd cc
sink_is Ipin h = absurd cc
sink_is ChanX h = absurd cc
sink_is ChanY h = absurd cc

module _ (basis : Basis) (law : IsWiring (wiring_of basis)) where
  abbrev node : ℕ → Node
  node = (graph_of basis).node

  abbrev is_sink : Node → Bool
  is_sink n = is_sink_kind n.kind

  -- the first sink is the last node
  sink_last : (first : ℕ) (rest : List ℕ) → All (λ number. number < (graph_of basis).count) (first ∷ rest) → LeadsToSink (wiring_of basis) (first ∷ rest) → position_or_len is_sink (map node (first ∷ rest)) ≡ length rest
  sink_last first [] within leads = let is : is_sink (node first) ≡ true = ap is_sink_kind leads in ap (λ (b : Bool). cond {A = ℕ} (not b) (1 + 0) 0) is
  sink_last first (next ∷ rest) within leads = by (is_sink (node first)) refl (sink_last next rest (All-tail (λ number. number < (graph_of basis).count) first (next ∷ rest) within) leads.1)
    where
      by : (b : Bool) → is_sink (node first) ≡ b → position_or_len is_sink (map node (next ∷ rest)) ≡ length rest → cond (not b) (1 + position_or_len is_sink (map node (next ∷ rest))) 0 ≡ length (next ∷ rest)
      by true is later =
          let small = All-head (λ number. number < (graph_of basis).count) first (next ∷ rest) within in
          absurd (law.from_sink first next (record { from = small; to = leads.0 }) (sink_is (node first).kind is))
      by false is later = omega (arith, later)

  pub ends_at_sink : (path : List ℕ) → All (λ number. number < (graph_of basis).count) path → LeadsToSink (wiring_of basis) path → EndsAtSink (map node path)
  ends_at_sink [] within leads = absurd leads
  ends_at_sink (first ∷ rest) within leads =
      let last = sink_last first rest within leads in
      let long : length (map node (first ∷ rest)) ≡ 1 + length rest = length-map (first ∷ rest) node ∙ omega arith in
      let small : nat_lt (position_or_len is_sink (map node (first ∷ rest))) (length (map node (first ∷ rest))) ≡ true = grind (arith, nat_tests, last, long) in
      let at : position_or_len is_sink (map node (first ∷ rest)) ≡ length (map node (first ∷ rest)) - 1 = omega (arith, last, long) in
      ap (λ (b : Bool). cond b (Some (position_or_len is_sink (map node (first ∷ rest)))) None) small ∙ ap (λ (n : ℕ). Some n) at

-- ---- small numbers

module _ (arch : Arch) (strip : Strip) (known : IsArch arch) (size : IsStripSize strip) (few_pins : length arch.pins ≤ MAX_PINS) where
  pin_number : (test : Pin → Bool) (n : ℕ) → option_map_or test (slice_get arch.pins n) false ≡ true → n < 2 ^ 32
  pin_number test n h = by (slice_get arch.pins n) refl h
    where
      by : (o : Option Pin) → slice_get arch.pins n ≡ o → option_map_or test o false ≡ true → n < 2 ^ 32
      by None is passes = absurd cc
      by (Some pin) is passes = let within = slice_get_within arch.pins n pin is in omega (arith, within, few_pins)

  block_number : (kind : NodeKind) (n : ℕ) → is_block_number arch kind n ≡ true → n < 2 ^ 32
  block_number Source n h = grind (arith, nat_tests, h)
  block_number Sink n h = grind (arith, nat_tests, h)
  block_number Opin n h = pin_number _ n h
  block_number Ipin n h = pin_number _ n h
  block_number ChanX n h = absurd cc
  block_number ChanY n h = absurd cc

  at_pad_or_block : (kind : NodeKind) (y n : ℕ) → ((is_pad_row strip y && nat_lt n strip.io_rat) || (is_block_row strip y && is_block_number arch kind n)) ≡ true → (y < 2 ^ 32) × (n < 2 ^ 32)
  at_pad_or_block kind y n h = elim (one_holds (is_pad_row strip y && nat_lt n strip.io_rat) (is_block_row strip y && is_block_number arch kind n) h) [
    | inl pad ↦
        (let both = both_hold (is_pad_row strip y) (nat_lt n strip.io_rat) pad in
        let rows = size.rows in
        let pads = size.io_rat in
        let row = both.0 in
        let few = both.1 in
        (grind (arith, nat_tests, row, rows), grind (arith, nat_tests, few, pads)))
    | inr block ↦
        (let both = both_hold (is_block_row strip y) (is_block_number arch kind n) block in
        let rows = size.rows in
        let row = both.0 in
        (grind (arith, nat_tests, row, rows), block_number kind n both.1))
  ]

  small_slot : (kind : NodeKind) (y n : ℕ) → is_slot arch strip kind y n ≡ true → (y < 2 ^ 32) × (n < 2 ^ 32)
  small_slot ChanX y n h = let r = size.rows in let t = known.tracks in (grind (arith, nat_tests, h, r), grind (arith, nat_tests, h, t))
  small_slot ChanY y n h = let r = size.rows in let t = known.tracks in (grind (arith, nat_tests, h, r), grind (arith, nat_tests, h, t))
  small_slot Source y n h = at_pad_or_block Source y n h
  small_slot Sink y n h = at_pad_or_block Sink y n h
  small_slot Opin y n h = at_pad_or_block Opin y n h
  small_slot Ipin y n h = at_pad_or_block Ipin y n h

  pub small_node : (node : Node) → is_node arch strip node ≡ true → IsSmallNode node
  small_node node h =
      let both = both_hold (nat_le node.x strip.width) ((nat_le 1 node.x || is_chan_y node.kind) && is_slot arch strip node.kind node.y node.n) h in
      let rest = both_hold (nat_le 1 node.x || is_chan_y node.kind) (is_slot arch strip node.kind node.y node.n) both.1 in
      let slot = small_slot node.kind node.y node.n rest.1 in
      let width = size.width in
      let column = both.0 in
      record { x = grind (arith, nat_tests, column, width); y = slot.0; n = slot.1 }
