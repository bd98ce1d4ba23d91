-- The parts of a circuit that one more line adds, and the nets that the line reads and that are not
-- driven.
use Rattle.blif.proofs.Prelude.{◌≡◌, ℕ, ◌+◌, ◌<◌, ◌≤◌, true, false, not, cond, suc, arith, List, [], ◌∷◌, ◌++◌, Option, None, Some, Result, Ok, Err, MatchResult, length, take, drop, slice_get, map, refl, sym, ap, ◌∙◌, subst, flat_map, position_or_len, map-append, drop_all, JoinedLine, Found, Fails, TextError, Parts, circuit_with, lines_to_end, parts_after, parts_of, Circuit, BlifFault, Undriven, first_of, has_name, names_with_index, with_names, reads_in, Sights, sights_of, kind_of, is_end, inputs_of, at_words, driven_nets, first_fault, circuit_from, final_faults, undriven_faults, undriven_names}
use Rattle.blif.proofs.Places.{flat_map_push, first_found, first_none, take_place, drop_place}
use Rattle.blif.proofs.PlacedNames.{first_placed}
use Rattle.blif.proofs.Sightings.{with_names-append}

-- the parts after one more line
pub parts_push : (nets : List (List ℕ)) (lines : List JoinedLine) (line : JoinedLine) → parts_of nets (lines ++ line ∷ []) ≡ parts_after nets line.number (kind_of line) line.words (parts_of nets lines)
unfolding parts_of
parts_push nets lines line = grind (arith, flat_map_push, map-append)

-- the first fault of the lines is at their first line, if that reads this net undriven
found_first : (drivers : List (List ℕ)) (line : JoinedLine) (rest : List JoinedLine) (net : List ℕ) → Some net ≡ first_of (undriven_names drivers (reads_in (kind_of line) line.words)) → first_fault (flat_map (undriven_faults drivers) (line ∷ rest)) ≡ Some (record { line = line.number; kind = Undriven net })
unfolding undriven_faults
found_first drivers line rest net h =
    let reads : List (List ℕ) = reads_in (kind_of line) line.words in
    first_found true line.number (at_words Undriven (names_with_index (λ name. not (has_name drivers name)) reads)) (flat_map (undriven_faults drivers) rest) (Undriven net)
    (of_kinds (undriven_names drivers reads) h ∙ first_placed Undriven (λ name. not (has_name drivers name)) reads)
  where
    of_kinds : (nets : List (List ℕ)) → Some net ≡ first_of nets → Some (Undriven net) ≡ first_of (map Undriven nets)
    of_kinds [] h = absurd cc
    of_kinds (n ∷ nets) h = cc

-- if the first line reads driven nets only, the first fault is one of the rest
none_first : (drivers : List (List ℕ)) (line : JoinedLine) (rest : List JoinedLine) → None ≡ first_of (undriven_names drivers (reads_in (kind_of line) line.words)) → first_fault (flat_map (undriven_faults drivers) (line ∷ rest)) ≡ first_fault (flat_map (undriven_faults drivers) rest)
unfolding undriven_faults
none_first drivers line rest h =
    let reads : List (List ℕ) = reads_in (kind_of line) line.words in
    first_none true line.number (at_words Undriven (names_with_index (λ name. not (has_name drivers name)) reads)) (flat_map (undriven_faults drivers) rest)
    (of_kinds (undriven_names drivers reads) h ∙ first_placed Undriven (λ name. not (has_name drivers name)) reads)
  where
    of_kinds : (nets : List (List ℕ)) → None ≡ first_of nets → None ≡ first_of (map Undriven nets)
    of_kinds [] h = refl
    of_kinds (n ∷ nets) h = absurd cc

module _ (nets drivers : List (List ℕ)) (lines : List JoinedLine) (place : ℕ) (line : JoinedLine)
    (within : place < length lines) (at : slice_get lines place ≡ Some line) where
  -- the line at this index adds its parts
  pub parts_at : (old new : Parts) → old ≡ parts_of nets (take place lines) → new ≡ parts_after nets line.number (kind_of line) line.words old → new ≡ parts_of nets (take (place + 1) lines)
  parts_at old new so_far after =
      after ∙ ap (parts_after nets line.number (kind_of line) line.words) so_far
      ∙ sym (parts_push nets (take place lines) line) ∙ ap (parts_of nets) (sym (take_place lines place line within at))

  -- the line's undriven net is the first one
  pub undriven_at : (net : List ℕ) → Some net ≡ first_of (undriven_names drivers (reads_in (kind_of line) line.words)) → first_fault (flat_map (undriven_faults drivers) (drop place lines)) ≡ first_fault (flat_map (undriven_faults drivers) lines) → first_fault (flat_map (undriven_faults drivers) lines) ≡ Some (record { line = line.number; kind = Undriven net })
  undriven_at net found left =
      sym left ∙ ap (λ rest. first_fault (flat_map (undriven_faults drivers) rest)) (drop_place lines place line within at)
      ∙ found_first drivers line _ net found

  -- if the line has none, the first one is among those of the later lines
  pub no_undriven_at : None ≡ first_of (undriven_names drivers (reads_in (kind_of line) line.words)) → first_fault (flat_map (undriven_faults drivers) (drop place lines)) ≡ first_fault (flat_map (undriven_faults drivers) lines) → first_fault (flat_map (undriven_faults drivers) (drop (place + 1) lines)) ≡ first_fault (flat_map (undriven_faults drivers) lines)
  no_undriven_at none left =
      sym (none_first drivers line _ none) ∙ ap (λ rest. first_fault (flat_map (undriven_faults drivers) rest)) (sym (drop_place lines place line within at)) ∙ left

-- the faults found at the end, if there is a line
final_faults_lines : (declared : List (List ℕ)) (lines : List JoinedLine) → 0 < length lines → final_faults declared lines ≡ flat_map (undriven_faults (driven_nets (sights_of declared lines))) lines
unfolding final_faults
final_faults_lines declared lines h = grind arith

module _ (checked : Sights) (lines : List JoinedLine) (nets clocks drivers : List (List ℕ)) (sights : checked ≡ sights_of checked.declared lines)
    (same_nets : nets ≡ checked.nets) (same_clocks : clocks ≡ checked.clocks) (same_drivers : drivers ≡ checked.drivers) where
  pub final_faults_is : 0 < length lines → final_faults checked.declared lines ≡ flat_map (undriven_faults (clocks ++ drivers)) lines
  final_faults_is some =
      final_faults_lines checked.declared lines some
      ∙ ap (λ s. flat_map (undriven_faults (driven_nets s)) lines) (sym sights)
      ∙ (λ i. flat_map (undriven_faults (sym same_clocks i ++ sym same_drivers i)) lines)

  pub circuit_is : (parts : Parts) → parts ≡ parts_of nets lines → circuit_with nets clocks lines parts ≡ circuit_from checked.declared lines
  unfolding circuit_from parts_of
  circuit_is parts built =
      ap (circuit_with nets clocks lines) built
      ∙ (λ i. circuit_with (same_nets i) (same_clocks i) lines (parts_of (same_nets i) lines))
      ∙ ap (λ s. let t : Sights = s in circuit_with t.nets t.clocks lines (parts_of t.nets lines)) sights

  -- the result over these nets is that over the state after all lines
  pub built_is : 0 < length lines → (built : Result Circuit (TextError BlifFault)) → MatchResult built (λ circuit. (first_fault (flat_map (undriven_faults (clocks ++ drivers)) lines) ≡ None) × (circuit ≡ circuit_with nets clocks lines (parts_of nets lines))) (Fails (first_fault (flat_map (undriven_faults (clocks ++ drivers)) lines))) → MatchResult built (λ circuit. (first_fault (final_faults checked.declared lines) ≡ None) × (circuit ≡ circuit_from checked.declared lines)) (Fails (first_fault (final_faults checked.declared lines)))
  built_is some (Ok circuit) h = (ap first_fault (final_faults_is some) ∙ h.0, h.1 ∙ circuit_is (parts_of nets lines) refl)
  built_is some (Err error) h = subst (λ (faults : List (Found BlifFault)). Fails (first_fault faults) error) (sym (final_faults_is some)) h

-- an error for this fault is an error for the first fault, if they are equal
pub fails_as : (error : TextError BlifFault) (fault : BlifFault) (found : Option BlifFault) → Fails (Some fault) error → found ≡ Some fault → Fails found error
fails_as error fault found fails is = subst (λ (first_of : Option BlifFault). Fails first_of error) (sym is) fails

-- the lines before the end, by one more line
module _ (line : JoinedLine) (lines : List JoinedLine) where
  abbrev more : ℕ
  more = position_or_len (λ l. is_end (kind_of l)) lines

  goes_on : is_end (kind_of line) ≡ false → lines_to_end (line ∷ lines) ≡ line ∷ lines_to_end lines
  goes_on goes =
      let next : 1 + more ≡ suc more = omega arith in
      ap (λ b. take (cond (not b) (1 + more) 0) (line ∷ lines)) goes ∙ ap (λ n. take n (line ∷ lines)) next

  stops : is_end (kind_of line) ≡ true → lines_to_end (line ∷ lines) ≡ []
  stops ends = ap (λ b. take (cond (not b) (1 + more) 0) (line ∷ lines)) ends

-- the inputs that lines declare, by one more line
module _ (lines : List JoinedLine) (place : ℕ) (line : JoinedLine) (within : place < length lines) (at : slice_get lines place ≡ Some line) where
  pub declared_at : is_end (kind_of line) ≡ false → (old new all : List (List ℕ)) → new ≡ with_names old (inputs_of line) → with_names old (flat_map inputs_of (lines_to_end (drop place lines))) ≡ all → with_names new (flat_map inputs_of (lines_to_end (drop (place + 1) lines))) ≡ all
  declared_at goes old new all after left =
      let rest : List JoinedLine = lines_to_end (drop (place + 1) lines) in
      ap (λ names. with_names names (flat_map inputs_of rest)) after
      ∙ sym (with_names-append old (inputs_of line) (flat_map inputs_of rest))
      ∙ ap (λ ls. with_names old (flat_map inputs_of ls)) (sym (ap lines_to_end (drop_place lines place line within at) ∙ goes_on line (drop (place + 1) lines) goes))
      ∙ left

  pub declared_at_end : is_end (kind_of line) ≡ true → (old all : List (List ℕ)) → with_names old (flat_map inputs_of (lines_to_end (drop place lines))) ≡ all → old ≡ all
  declared_at_end ends old all left =
      ap (λ ls. with_names old (flat_map inputs_of ls)) (sym (ap lines_to_end (drop_place lines place line within at) ∙ stops line (drop (place + 1) lines) ends))
      ∙ left

pub declared_past : (lines : List JoinedLine) (place : ℕ) → length lines ≤ place → (old all : List (List ℕ)) → with_names old (flat_map inputs_of (lines_to_end (drop place lines))) ≡ all → old ≡ all
declared_past lines place past old all left = grind (arith, drop_all)
