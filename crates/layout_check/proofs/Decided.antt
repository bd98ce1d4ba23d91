-- The tests together decide the clauses.
use Rattle.layout_check.proofs.Prelude.{◌≡◌, ℕ, ◌≤◌, true, false, List, Option, Some, None, is_some, map, length, slice_get, sym, ap, refl, ◌∙◌, subst, arith, All, Contains, flat_map, ForSome, option_map_or, option_to_list, false≢true, All-contains, All-weaker, get_or_from_slice_get, same_truth, at_member, from_flat_map, from_get, from_has, one_only, only_one, to_flat_map, to_has, Arch, Clock, Output, Circuit, Latch, kind_of, has, is_global, Strip, places_of, AreBlesOf, Implements, IsLaid, IsNarrowBle, ble_places, wants, IsFed, LaidBle, LaidBlock, LaidNet, Layout, input_net, on_pin, traced_bles, Basis, BleFault, TooManyInputs, NoInput, NoClock, WrongOutput, BlockFault, NoPlace, TooManyBles, EntryFault, TwoDrivers, Entry, Overused, Wrong, SamePlace, Inputs, Outputs, NotGlobal, LeftOut, SameNet, NoEntry, Unlawful, Ble, TableTwice, NoTable, LatchTwice, NoLatch, Net, IsBleFault, IsBlockFault, IsBlockRight, AreCarried, AreListsRight, ArePortsRight, IsConnected, IsAboutHeld, IsWrong}
use Rattle.layout_check.specs.declared.fault.BlockFault.TheVariants.{Ble as BleOf}
use Rattle.layout_check.specs.declared.fault.Wrong.TheVariants.{Block}
use Rattle.layout_check.proofs.Entries.{entry_refuted}

all_at : {X : Type 0} (P : X → Type 0) (xs : List X) (k : ℕ) (x : X) → All P xs → slice_get xs k ≡ Some x → P x
all_at P xs k x all there = All-contains P xs x all (from_get xs k x there).1

at_some : {X : Type 0} (o : Option X) (P : X → Type 0) (x : X) → o ≡ Some x → ForSome o P → P x
at_some o P x is holds = holds x is

-- ---- what passes

globals_are : (circuit : Circuit) (globals : List ℕ) → ((net : ℕ) → Contains globals net → is_global circuit net ≡ true) →
    ((k : ℕ) (latch : Latch) → slice_get circuit.latches k ≡ Some latch → option_map_or (has globals) latch.control true ≡ true) → (net : ℕ) → has globals net ≡ is_global circuit net
globals_are circuit globals sound complete net = same_truth (has globals net) (is_global circuit net)
    (λ is. sound net (from_has globals net is))
    (λ is.
    let q = from_flat_map (λ (latch : Latch). option_to_list latch.control) circuit.latches net (from_has (flat_map (λ (latch : Latch). option_to_list latch.control) circuit.latches) net is) in
    let at = at_member circuit.latches q.0 q.1 in
    let control = only_one q.0.control net q.2 in
    sym (ap (λ (o : Option ℕ). option_map_or (has globals) o true) control) ∙ complete at.0 q.0 at.2)

pub connected : (circuit : Circuit) (basis : Basis) (layout : Layout) → AreListsRight circuit basis layout → ArePortsRight circuit basis layout → All (IsLaid circuit basis.arch basis.strip layout) layout.nets → AreCarried basis layout.nets →
    IsConnected circuit basis.arch basis.strip layout
connected circuit basis layout lists ports laid carried = record {
  fed = All-weaker (IsBlockRight basis.arch basis.strip) (λ laid. All (IsFed basis.arch laid) laid.bles) (λ block right. right.are_fed) layout.blocks lists.right;
  few_bles = All-weaker (IsBlockRight basis.arch basis.strip) (λ laid. length laid.bles ≤ ble_places basis.arch laid.block) (λ block right. right.few) layout.blocks lists.right;
  narrow = All-weaker (IsBlockRight basis.arch basis.strip) (λ laid. All (IsNarrowBle basis.arch) laid.bles) (λ block right. right.are_narrow) layout.blocks lists.right;
  laid = laid;
  all = ports.all;
  once = lists.once;
  globals = globals_are circuit layout.globals lists.sound lists.complete;
  inputs = ports.inputs;
  outputs = ports.outputs;
  placed = All-weaker (IsBlockRight basis.arch basis.strip) (λ laid. Contains (places_of basis.strip (kind_of laid.block)) laid.place) (λ block right. right.on_place) layout.blocks lists.right;
  apart = lists.apart;
  carried = carried;
}

pub implemented : (circuit : Circuit) (basis : Basis) (layout : Layout) → IsConnected circuit basis.arch basis.strip layout → AreBlesOf circuit (traced_bles basis.arch layout) → Implements circuit basis.arch basis.strip layout
implemented circuit basis layout is held = grind arith

connected_by : (circuit : Circuit) (basis : Basis) (layout : Layout) → Implements circuit basis.arch basis.strip layout → IsConnected circuit basis.arch basis.strip layout
connected_by circuit basis layout is = grind arith

-- ---- what is wrong

ble_refuted : (arch : Arch) (block : LaidBlock) (ble : LaidBle) (fault : BleFault) → IsBleFault arch block ble fault → IsFed arch block ble → IsNarrowBle arch ble → ⊥
ble_refuted arch block ble TooManyInputs more is narrow = omega (arith, more, narrow)
ble_refuted arch block ble (NoInput k) (feed, there, none) is narrow = false≢true (sym (ap is_some none) ∙ all_at (λ feed. is_some (input_net arch block feed) ≡ true) ble.inputs k feed is.inputs there)
ble_refuted arch block ble NoClock (pin, there, none) is narrow = false≢true (sym (ap is_some none) ∙ at_some ble.clock (λ pin. is_some (on_pin arch block Clock pin) ≡ true) pin there is.clock)
ble_refuted arch block ble WrongOutput (pin, there, differ) is narrow = differ (at_some ble.output (λ pin. on_pin arch block Output pin ≡ Some ble.name) pin there is.output)

block_refuted : (arch : Arch) (strip : Strip) (block : LaidBlock) (fault : BlockFault) → IsBlockFault arch strip block fault → Contains (places_of strip (kind_of block.block)) block.place → length block.bles ≤ ble_places arch block.block →
    All (IsFed arch block) block.bles → All (IsNarrowBle arch) block.bles → ⊥
block_refuted arch strip block NoPlace none placed few are narrow = none placed
block_refuted arch strip block TooManyBles more placed few are narrow = omega (arith, more, few)
block_refuted arch strip block (BleOf number fault) (ble, there, said) placed few are narrow = grind (arith, all_at, ble_refuted arch block ble fault said (all_at (IsFed arch block) block.bles number ble are there) (all_at (IsNarrowBle arch) block.bles number ble narrow there), all_at (IsFed arch block) block.bles number ble are there, all_at (IsNarrowBle arch) block.bles number ble narrow there)

left_out : (circuit : Circuit) (globals : List ℕ) (latch : Latch) → ((net : ℕ) → has globals net ≡ is_global circuit net) → Contains circuit.latches latch → option_map_or (has globals) latch.control true ≡ false → ⊥
left_out circuit globals latch are c fails = by latch.control refl
  where
    by : (o : Option ℕ) → latch.control ≡ o → ⊥
    by None e = false≢true (sym fails ∙ ap (λ (o : Option ℕ). option_map_or (has globals) o true) e)
    by (Some net) e =
        let f : Latch → List ℕ = λ latch. option_to_list latch.control in
        let there : is_global circuit net ≡ true = to_has (flat_map f circuit.latches) net (to_flat_map f circuit.latches latch net c (one_only latch.control net e)) in
        false≢true (sym fails ∙ ap (λ (o : Option ℕ). option_map_or (has globals) o true) e ∙ are net ∙ there)

never_two : (number : ℕ) (fault : EntryFault) → (IsAboutHeld (Net (Entry number fault)) → ⊥) → (driver other : ℕ) → fault ≡ TwoDrivers driver other → ⊥
never_two number fault two driver other e = two (subst (λ f. IsAboutHeld (Net (Entry number f))) (sym e) tt)

refuted : (circuit : Circuit) (basis : Basis) (layout : Layout) (wrong : Wrong) → (IsAboutHeld wrong → ⊥) → IsWrong circuit basis layout wrong → IsConnected circuit basis.arch basis.strip layout → ⊥
refuted circuit basis layout (Block number fault) two (block, there, said) is =
    block_refuted basis.arch basis.strip block fault said (all_at (λ laid. Contains (places_of basis.strip (kind_of laid.block)) laid.place) layout.blocks number block is.placed there)
    (all_at (λ laid. length laid.bles ≤ ble_places basis.arch laid.block) layout.blocks number block is.few_bles there)
    (all_at (λ laid. All (IsFed basis.arch laid) laid.bles) layout.blocks number block is.fed there) (all_at (λ laid. All (IsNarrowBle basis.arch) laid.bles) layout.blocks number block is.narrow there)
refuted circuit basis layout (SamePlace number other) two (less, block, also, there, here, same) is =
    let first = get_or_from_slice_get layout.blocks number block block there in
    let second = get_or_from_slice_get layout.blocks other also block here in
    is.apart number other block less (from_get layout.blocks other also here).0 (ap (λ (laid : LaidBlock). laid.place) first ∙ same ∙ sym (ap (λ (laid : LaidBlock). laid.place) second))
refuted circuit basis layout Inputs two differ is = differ is.inputs
refuted circuit basis layout Outputs two differ is = differ is.outputs
refuted circuit basis layout (NotGlobal net) two (c, none) is = false≢true (sym none ∙ sym (is.globals net) ∙ to_has layout.globals net c)
refuted circuit basis layout (LeftOut number) two (latch, there, fails) is = left_out circuit layout.globals latch is.globals (from_get circuit.latches number latch there).1 fails
refuted circuit basis layout (SameNet number other) two (less, laid, also, there, here, same) is =
    let first = get_or_from_slice_get layout.nets number laid laid there in
    let second = get_or_from_slice_get layout.nets other also laid here in
    is.once number other laid less (from_get layout.nets other also here).0 (ap (λ (laid : LaidNet). laid.net) first ∙ same ∙ sym (ap (λ (laid : LaidNet). laid.net) second))
refuted circuit basis layout (NoEntry number) two (block, there, net, wanted, none) is =
    false≢true (sym none ∙ all_at (λ laid. (net : ℕ) → wants basis.arch net laid ≡ true → has (map (λ between. between.net) layout.nets) net ≡ true) layout.blocks number block is.all there net wanted)
refuted circuit basis layout (Unlawful net) two said is = absurd (two tt)
refuted circuit basis layout (Ble number fault) two said is = absurd (two tt)
refuted circuit basis layout (TableTwice k number other) two said is = absurd (two tt)
refuted circuit basis layout (NoTable k) two said is = absurd (two tt)
refuted circuit basis layout (LatchTwice k number other) two said is = absurd (two tt)
refuted circuit basis layout (NoLatch k) two said is = absurd (two tt)
refuted circuit basis layout (Net (Entry number fault)) two (laid, there, said) is =
    entry_refuted circuit basis layout laid fault (never_two number fault two) said (all_at (IsLaid circuit basis.arch basis.strip layout) layout.nets number laid is.laid there)
refuted circuit basis layout (Net (Overused node)) two more is = let few = is.carried node in omega (arith, more, few)

-- a layout with something wrong doesn't implement the circuit
pub wrong_refuted : (circuit : Circuit) (basis : Basis) (layout : Layout) (wrong : Wrong) → IsWrong circuit basis layout wrong → (IsAboutHeld wrong → ⊥) → Implements circuit basis.arch basis.strip layout → ⊥
wrong_refuted circuit basis layout wrong said two is = refuted circuit basis layout wrong two said (connected_by circuit basis layout is)
