-- With too few tracks for the nets that cross a column, a placed netlist is left unrouted.
use Rattle.one_user.proofs.Prelude.{ℕ, ◌≡◌, ◌+◌, ◌*◌, ◌<◌, ◌≤◌, Bool, true, false, List, [], Result, Ok, Err, Option, Some, None, length, get_or, min, max, inl, inr, refl, sym, ap, subst, ◌∙◌, arith, nat_lt, if◌then◌else◌, position_or_len, range_with_len, option_map_or, cases_lt, get_or-range_with_len, length-range_with_len, fails_before_first, passes_at_first, IsArch, IsWithin, arch_from, arch_of, arch_of_lines, Arch, MAX_TRACKS, ArchFault, OverLimit, circuit_of, Circuit, BlifFault, ArePlaced, PackedCircuit, packed_of, IsLawfulPacking, IsStripSize, Strip, Place, end_value, is_last, is_whole_value, nets_in, pads_in, routing_stands, step_count, step_limit, value_of, Work, over_by_thirty, JoinedLine, lines_of, LineFault, MAX_TEXT, Routed, Standing, More, Done, GaveUp, NoPath, routed_after, nets_to_route, wiring_of, Net, Basis, IsBasis, PlacingUnderWay, places_by_block, failure_of, RoutingFailure, IsBusiest, crossing_count, Task, by_routing, outcome_of, routing_of, IsPlaced, AreUnroutedBelow, IsFirstTry, IsLawful, IsPlacedWith, StaysUnrouted, WasUnrouted, task_for, Request, DevicePlan, FirstTry}
use Rattle.one_user.proofs.OtherTracks.{serves, strip_is}
use Rattle.one_user.proofs.Routings.{outcome_is}
use Rattle.one_user.proofs.SameNets.{same_text, with_tracks}
use Rattle.one_user.proofs.Tries.{Serves, basis_for}

-- ---- the architecture with another number of tracks

-- the architecture has that number of tracks, and its pins reach some of them
record HasTracks (tracks : ℕ) (arch : Arch) : Type 0 where
  pub tracks_are : arch.tracks ≡ tracks
  pub output : IsWithin 1 arch.fc_output tracks
  pub input : IsWithin 1 arch.fc_input tracks
  pub pad : IsWithin 1 arch.fc_pad tracks

within_of : (wanted tracks : ℕ) → 1 ≤ tracks → IsWithin 1 (min tracks (max 1 wanted)) tracks
within_of wanted tracks some = (omega (arith, some), omega arith)

from_lines : (lines : List JoinedLine) (tracks : ℕ) → 1 ≤ tracks → HasTracks tracks (arch_from lines tracks)
from_lines lines tracks some = record { tracks_are = refl; output = within_of _ tracks some; input = within_of _ tracks some; pad = within_of _ tracks some }

module _ (tracks others : ℕ) (arch : Arch) (some : 1 ≤ others) where
  by_fault : (lines : List JoinedLine) (fault : Option ArchFault) → option_map_or Err fault (Ok (arch_from lines tracks)) ≡ Ok arch →
      (other : Arch) × (option_map_or Err fault (Ok (arch_from lines others)) ≡ Ok other) × HasTracks others other
  by_fault lines None is = (arch_from lines others, refl, from_lines lines others some)
  by_fault lines (Some fault) is = absurd (cc)

  by_lines : (lines : Result (List JoinedLine) LineFault) → arch_of_lines lines tracks ≡ Ok arch → (other : Arch) × (arch_of_lines lines others ≡ Ok other) × HasTracks others other
  by_lines lines is = grind (arith, by_fault)

  by_length : (long : Bool) (lines : Result (List JoinedLine) LineFault) (fault : ArchFault) → (if long then Err fault else arch_of_lines lines tracks) ≡ Ok arch →
      (other : Arch) × ((if long then Err fault else arch_of_lines lines others) ≡ Ok other) × HasTracks others other
  by_length long lines fault is = grind (arith, by_lines)

  -- the text is read with each number of tracks
  read_with : (text : List ℕ) → arch_of text tracks ≡ Ok arch → (other : Arch) × (arch_of text others ≡ Ok other) × HasTracks others other
  unfolding arch_of
  read_with text is = by_length (nat_lt MAX_TEXT (length text)) (lines_of text) (record { line = 0; kind = OverLimit }) is

is_arch : (arch other : Arch) (tracks : ℕ) → IsWithin 1 tracks MAX_TRACKS → IsArch arch → other ≡ with_tracks arch other → HasTracks tracks other → IsArch other
is_arch arch other tracks within known same has = grind arith

-- ---- a routing that has not failed is done at its end

-- the least number that passes, if there is one
first_passes : (test : ℕ → Bool) (limit k : ℕ) → k < limit → test k ≡ true → test (position_or_len test (range_with_len 0 limit)) ≡ true
first_passes test limit k small passes =
    let first = position_or_len test (range_with_len 0 limit) in
    let long = length-range_with_len 0 limit in
    elim (cases_lt (position_or_len test (range_with_len 0 limit)) (length (range_with_len 0 limit))) [
      | inl within ↦ (let at : get_or (range_with_len 0 limit) first 0 ≡ first = get_or-range_with_len 0 limit first 0 (omega (arith, within, long)) ∙ omega arith in
          sym (ap test at) ∙ passes_at_first test (range_with_len 0 limit) 0 within)
      | inr past ↦ (let at : get_or (range_with_len 0 limit) k 0 ≡ k = get_or-range_with_len 0 limit k 0 small ∙ omega arith in
          let fails = fails_before_first test (range_with_len 0 limit) k 0 (omega (arith, past, long, small)) in
          let wrong : false ≡ true = sym fails ∙ ap test at ∙ passes in absurd cc)
    ]

over_at_end : (task : Task) → is_last (routing_of task) (step_count (routing_of task)) ≡ true
unfolding step_count step_limit
over_at_end task = first_passes (is_last (routing_of task)) step_limit 30 (omega arith) (over_by_thirty (routing_of task) 30 refl refl)

module _ (task : Task) (circuit : Circuit) (said : circuit_of task.text task.arch.lut_size ≡ Ok circuit) where
  abbrev after : Routed
  after = routed_after (wiring_of (basis_for task)) (nets_in (routing_of task) circuit) (step_count (routing_of task))

  abbrev made : Standing → Result Work BlifFault
  made standing = Ok (routing_stands (basis_for task) (pads_in (routing_of task) circuit) (nets_in (routing_of task) circuit) (step_count (routing_of task)) after standing)

  made_is : (standing : Standing) → after.standing ≡ standing → end_value (routing_of task) ≡ made standing
  made_is standing is = ap (λ (r : Result Circuit BlifFault). value_of (routing_of task) r (step_count (routing_of task))) said ∙ ap made is

  done_at_end : failure_of (end_value (routing_of task)) ≡ None → after.standing ≡ Done
  done_at_end unfailed = by after.standing refl
    where
      by : (standing : Standing) → after.standing ≡ standing → after.standing ≡ Done
      by More is = let wrong : false ≡ true = sym (ap is_whole_value (made_is More is)) ∙ over_at_end task in absurd cc
      by Done is = is
      by GaveUp is = let wrong = sym (ap failure_of (made_is GaveUp is)) ∙ unfailed in absurd cc
      by (NoPath net) is = let wrong = sym (ap failure_of (made_is (NoPath net) is)) ∙ unfailed in absurd cc

-- ---- a netlist with too few tracks

-- the law of the nets that cross a column
abbrev pub FewCross : Type 0
FewCross = (basis : Basis) (packed : PackedCircuit) (places : List Place) (iterations : ℕ) → IsBasis basis → IsLawfulPacking packed → ArePlaced basis.strip packed places →
    (routed_after (wiring_of basis) (nets_to_route basis packed places) iterations).standing ≡ Done →
    (column : ℕ) → crossing_count packed places column ≤ (basis.strip.rows + 1) * basis.arch.tracks

module _ (few_cross : FewCross) (task : Task) (placing : PlacingUnderWay) (given : Serves task placing) (known : IsBasis (basis_for task)) (lawful : IsLawfulPacking placing.packed) (placed : ArePlaced task.strip placing.packed (places_by_block placing)) where
  few_cross_if_done : failure_of (end_value (routing_of task)) ≡ None → (column : ℕ) → crossing_count placing.packed (places_by_block placing) column ≤ (task.strip.rows + 1) * task.arch.tracks
  few_cross_if_done unfailed =
      let done = ap (λ (nets : List Net). (routed_after (wiring_of (basis_for task)) nets (step_count (routing_of task))).standing) given.nets ∙ done_at_end task given.circuit given.said unfailed in
      few_cross (basis_for task) placing.packed (places_by_block placing) (step_count (routing_of task)) known lawful placed done

  is_placed : IsPlaced task
  is_placed = record { circuit = given.circuit; said = given.said; fits = given.fits; enough = given.enough }

  outcome_by : (failure : Option RoutingFailure) → failure_of (end_value (routing_of task)) ≡ failure → outcome_of task ≡ by_routing task given.circuit failure
  unfolding is_placed
  outcome_by failure is = outcome_is task is_placed failure is

  left_unrouted : (column : ℕ) → (task.strip.rows + 1) * task.arch.tracks < crossing_count placing.packed (places_by_block placing) column → WasUnrouted (outcome_of task)
  left_unrouted column many = by (failure_of (end_value (routing_of task))) refl
    where
      by : (failure : Option RoutingFailure) → failure_of (end_value (routing_of task)) ≡ failure → WasUnrouted (outcome_of task)
      by None is = let few = few_cross_if_done is column in absurd (omega (arith, few, many))
      by (Some failure) is = subst WasUnrouted (sym (outcome_by (Some failure) is)) tt

packed_arch : (circuit : Circuit) (arch : Arch) → (packed_of circuit arch).arch ≡ arch
unfolding packed_of
packed_arch circuit arch = refl

module _ (few_cross : FewCross) (plan : DevicePlan) (request : Request) (sizes : IsLawful plan request) (placing : PlacingUnderWay) (given : IsPlacedWith plan request placing) (lawful : IsLawfulPacking placing.packed) (placed : ArePlaced placing.strip placing.packed (places_by_block placing)) (known : IsArch placing.packed.arch) where
  known_first : IsArch given.1
  known_first = subst IsArch (ap (λ (p : PlacingUnderWay). p.packed.arch) given.3.is ∙ packed_arch given.3.circuit given.1) known

  stays_unrouted : (tracks column : ℕ) → IsWithin 1 tracks MAX_TRACKS → (plan.rows + 1) * tracks < crossing_count placing.packed (places_by_block placing) column → StaysUnrouted plan request tracks
  stays_unrouted tracks column within many =
      let read = read_with given.0 tracks given.1 within.0 plan.text.now given.2 in
      let arch = read.0 in
      let task = task_for plan arch request in
      let is_known = is_arch given.1 arch tracks within known_first (same_text given.0 tracks given.1 arch plan.text.now given.2 read.1) read.2 in
      let size : IsStripSize task.strip = record { width = sizes.columns; rows = sizes.rows; io_rat = is_known.io_rat } in
      let basis : IsBasis (basis_for task) = record { arch = is_known; strip = size } in
      let there = subst (λ (strip : Strip). ArePlaced strip placing.packed (places_by_block placing)) (strip_is plan request tracks arch read.1 placing given) placed in
      let many_here : (task.strip.rows + 1) * task.arch.tracks < crossing_count placing.packed (places_by_block placing) column =
      subst (λ n. (plan.rows + 1) * n < crossing_count placing.packed (places_by_block placing) column) (sym read.2.tracks_are) many in
      (outcome_of task, (arch, read.1, refl), left_unrouted few_cross task placing (serves plan request tracks arch read.1 placing given) basis lawful there column many_here)

  pub unrouted_below : (first : FirstTry) → IsFirstTry plan placing first → AreUnroutedBelow plan request first.tracks
  unrouted_below first is = λ tracks low less.
      let crossing = is.crossing in
      stays_unrouted tracks first.crossing.column (low, omega (arith, less, is.high)) (omega (arith, crossing.nets, is.too_few tracks low less))

-- ---- the first try

-- the least number that is enough, but at least 1 and at most one past the limit
pub first_is : (plan : DevicePlan) (placed : PlacingUnderWay) (first : FirstTry) (needed : ℕ) → IsBusiest placed.packed (places_by_block placed) plan.columns first.crossing →
    first.crossing.nets ≤ (plan.rows + 1) * needed → ((tracks : ℕ) → first.crossing.nets ≤ (plan.rows + 1) * tracks → needed ≤ tracks) → first.tracks ≡ min (max needed 1) (MAX_TRACKS + 1) → IsFirstTry plan placed first
first_is plan placed first needed busiest enough least is = grind arith
