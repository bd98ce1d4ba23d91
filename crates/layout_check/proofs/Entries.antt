-- Entries of nets between blocks.
use Rattle.layout_check.proofs.Prelude.{◌≡◌, ℕ, ◌+◌, ◌<◌, ◌≤◌, Bool, true, false, List, [], ◌∷◌, ◌++◌, Option, Some, None, cond, filter, map, not, ◌&&◌, eqb, suc, get_or, length, slice_get, sym, ap, refl, ◌∙◌, eq-eqb, subst, arith, ◌⊎◌, All, Contains, count_by, enumerate_from, flat_map, list_any, option_to_list, eqb-true, false_from_ne_true, false≢true, get_or_from_slice_get, slice_get-get_or, get_or_default, All-contains, same_truth, from_any, from_get, in_none, one_only, to_any, to_append_left, to_append_right, to_flat_map, to_has, Circuit, Latch, has, Arch, is_global, Block, InputPad, OutputPad, Cluster, Place, IsLaid, drives, is_net, listed_with, sinks_of, wants, LaidBlock, LaidNet, Layout, IsRouted, path_nodes, is_same_node, sink_at, source_at, number_of, same_node, Node, Source, rank_of, Basis, IsRoutingGraph, graph_of, EntryFault, TwoDrivers, AreUsedBy, IsEntryFault, IsOnlyDriver, is_on, IsSetOf, is_in, numbers_of, sinks_at, AreNumbers}
use Rattle.layout_check.proofs.ByNet.{from_numbers, others_by_number, sinks_by_number, to_numbers}
use Rattle.layout_check.proofs.ByNumber.{from_number, to_number}
use Rattle.layout_check.proofs.Numbers.{number_again}
use Rattle.layout_check.proofs.Refute.{paths_refuted}

same_itself : (a : Node) → is_same_node a a ≡ true
same_itself a = rw (eq-eqb a.x a.x refl, eq-eqb (rank_of a.kind) (rank_of a.kind) refl, eq-eqb a.y a.y refl, eq-eqb a.n a.n refl) refl

-- ---- uses

on_is : (basis : Basis) → IsRoutingGraph basis (graph_of basis) → (paths : List (List Node)) (nodes : List ℕ) → AreNumbers basis (path_nodes paths) nodes → (marks : List Bool) → IsSetOf nodes marks → (k : ℕ) → k < (graph_of basis).count →
    is_in marks k ≡ is_on paths ((graph_of basis).node k)
on_is basis lawful paths nodes are marks exact k small = same_truth (is_in marks k) (is_on paths ((graph_of basis).node k))
    (λ is.
    to_any (is_same_node ((graph_of basis).node k)) (path_nodes paths) ((graph_of basis).node k) (from_number basis lawful (path_nodes paths) nodes are.numbers_are are.inside k ((exact k).0 is)) (same_itself ((graph_of basis).node k)))
    (λ on.
    let q = from_any (is_same_node ((graph_of basis).node k)) (path_nodes paths) on in
    let there : Contains (path_nodes paths) ((graph_of basis).node k) = subst (λ n. Contains (path_nodes paths) n) (sym (same_node ((graph_of basis).node k) q.0 q.2)) q.1 in
    (exact k).1 (subst (λ n. Contains nodes n) (number_again basis lawful k small) (to_number basis lawful (path_nodes paths) nodes are.numbers_are are.inside ((graph_of basis).node k) there)))

pub used_by : (basis : Basis) → IsRoutingGraph basis (graph_of basis) → (paths : List (List Node)) (nodes : List ℕ) → AreNumbers basis (path_nodes paths) nodes → (marks : List Bool) → IsSetOf nodes marks → (old new : List ℕ) →
    ((k : ℕ) → k < (graph_of basis).count → get_or new k 0 ≡ get_or old k 0 + cond {A = ℕ} (is_in marks k) 1 0) → AreUsedBy basis paths old new
used_by basis lawful paths nodes are marks exact old new counted node k small e =
    counted k small ∙ ap (λ b. get_or old k 0 + cond {A = ℕ} b 1 0) (on_is basis lawful paths nodes are marks exact k small ∙ ap (is_on paths) e)

-- ---- drivers

source_kind : (block : Block) (place : Place) → (source_at block place).kind ≡ Source
source_kind block place = refl

-- an entry with a fault isn't laid, except that it may have two drivers
pub entry_refuted : (circuit : Circuit) (basis : Basis) (layout : Layout) (laid : LaidNet) (fault : EntryFault) → ((driver other : ℕ) → fault ≡ TwoDrivers driver other → ⊥) → IsEntryFault circuit basis layout laid fault →
    IsLaid circuit basis.arch basis.strip layout laid → ⊥
entry_refuted circuit basis layout laid fault one none is = grind (arith, paths_refuted)

-- ---- global nets

pub control_here : (latches : List Latch) (i : ℕ) (latch : Latch) (net : ℕ) → i < length latches → get_or latches i latch ≡ latch → is_net net latch.control ≡ true → true ≡ has (flat_map (λ latch. option_to_list latch.control) latches) net
control_here latches i latch net small item is =
    let f : Latch → List ℕ = λ latch. option_to_list latch.control in
    sym (to_has (flat_map f latches) net (to_flat_map f latches latch net (i, small, item) (one_only latch.control net (of_control latch.control is))))
  where
    of_control : (control : Option ℕ) → is_net net control ≡ true → control ≡ Some net
    of_control None is = absurd (false≢true is)
    of_control (Some other) is = ap (λ n. Some n) (eqb-true other net is)

pub control_at : (xs latches : List Latch) → xs ≡ latches → (i : ℕ) (d : Latch) (net : ℕ) → i < length xs → is_net net (get_or xs i d).control ≡ true → true ≡ has (flat_map (λ latch. option_to_list latch.control) latches) net
control_at xs latches same i d net small is = grind (arith, get_or_default, control_here xs i (get_or xs i d) net small (get_or_default xs i (get_or xs i d) d small) is, get_or_default xs i (get_or xs i d) d small)

-- ---- the blocks by net, in place of all blocks

-- the block whose number is first in the list
pub first_of : (test : LaidBlock → Bool) (blocks : List LaidBlock) (row : List ℕ) (driver : ℕ) → row ≡ numbers_of test blocks → slice_get row 0 ≡ Some driver → (block : LaidBlock) × (slice_get blocks driver ≡ Some block) × (test block ≡ true)
first_of test blocks row driver is at = from_numbers test blocks driver (subst (λ (ks : List ℕ). Contains ks driver) is (from_get row 0 driver at).1)

pub never_driven : (net : ℕ) (blocks : List LaidBlock) (row : List ℕ) → row ≡ numbers_of (drives net) blocks → slice_get row 0 ≡ None → (k : ℕ) (block : LaidBlock) → slice_get blocks k ≡ Some block → drives net block ≡ false
never_driven net blocks row is none k block there =
    false_from_ne_true (drives net block) (λ yes. empty row none k (subst (λ (ks : List ℕ). Contains ks k) (sym is) (to_numbers (drives net) blocks k block there yes)))
  where
    empty : (row : List ℕ) → slice_get row 0 ≡ None → (k : ℕ) → Contains row k → ⊥
    empty [] none k c = in_none k c
    empty (x ∷ row) none k c = absurd cc

pub two_drivers : (net : ℕ) (blocks : List LaidBlock) (row : List ℕ) (driver other : ℕ) → row ≡ numbers_of (drives net) blocks → slice_get row 0 ≡ Some driver → Contains row other × (other ≡ driver → ⊥) →
    (other ≡ driver → ⊥) × ((block : LaidBlock) × (slice_get blocks driver ≡ Some block) × (drives net block ≡ true)) × ((block : LaidBlock) × (slice_get blocks other ≡ Some block) × (drives net block ≡ true))
two_drivers net blocks row driver other is at told = (told.1, first_of (drives net) blocks row driver is at, from_numbers (drives net) blocks other (subst (λ (ks : List ℕ). Contains ks other) is told.0))

pub only_driver : (layout : Layout) (net : ℕ) (row : List ℕ) (driver : ℕ) → row ≡ numbers_of (drives net) layout.blocks → slice_get row 0 ≡ Some driver → All (λ k. k ≡ driver) row → (block : LaidBlock) × IsOnlyDriver layout net driver block
only_driver layout net row driver is at only =
    let found = first_of (drives net) layout.blocks row driver is at in (
      found.0,
      record {
        there = found.1;
        driven = found.2;
        only = λ k other there yes. All-contains (λ n. n ≡ driver) row k only (subst (λ (ks : List ℕ). Contains ks k) (sym is) (to_numbers (drives net) layout.blocks k other there yes));
      },
    )

pub listed_same : (circuit : Circuit) (arch : Arch) (layout : Layout) (driver net : ℕ) (g : Bool) (readers : List ℕ) → g ≡ is_global circuit net → readers ≡ numbers_of (wants arch net) layout.blocks →
    cond g (driver ∷ filter (λ reader. not (eqb reader driver)) readers) [] ≡ listed_with circuit arch layout driver net
listed_same circuit arch layout driver net g readers g_is readers_are = grind (arith, others_by_number)

pub sinks_same : (circuit : Circuit) (arch : Arch) (layout : Layout) (net : ℕ) (g : Bool) (readers : List ℕ) (blocks : List LaidBlock) → g ≡ is_global circuit net → readers ≡ numbers_of (wants arch net) layout.blocks → blocks ≡ layout.blocks →
    cond g [] (sinks_at blocks readers) ≡ sinks_of circuit arch layout net
sinks_same circuit arch layout net g readers blocks g_is readers_are same = grind (arith, sinks_by_number)

-- an entry is laid
pub entry_laid : (circuit : Circuit) (basis : Basis) (layout : Layout) (laid : LaidNet) (driver : ℕ) (block : LaidBlock) → slice_get layout.blocks driver ≡ Some block → drives laid.net block ≡ true → (source : Node) → source ≡ source_at block.block block.place →
    (sinks : List Node) → sinks ≡ sinks_of circuit basis.arch layout laid.net → IsRouted basis.arch basis.strip source sinks laid.paths → laid.listed ≡ listed_with circuit basis.arch layout driver laid.net →
    IsLaid circuit basis.arch basis.strip layout laid
entry_laid circuit basis layout laid driver block there driven source source_is sinks sinks_are tree listed = grind arith
