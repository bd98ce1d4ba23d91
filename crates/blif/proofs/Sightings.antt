-- The contributions of one more line, and its faults.
use Rattle.blif.proofs.Prelude.{◌≡◌, ℕ, ◌+◌, ◌<◌, Bool, true, false, ◌||◌, List, [], ◌∷◌, ◌++◌, None, Some, length, take, drop, slice_get, refl, sym, ap, ◌∙◌, arith, flat_map, filter-append, list_any-append, fold-append, JoinedLine, is_filled, sights_after, numbers_of, BlifFaultKind, with_name, with_names, Sights, sights_of, kind_of, names_of, faults_in, first_fault, first_kind, line_faults}
use Rattle.blif.proofs.Numbered.{numbered-append}
use Rattle.blif.proofs.Places.{flat_map_push, first_found, first_none, take_place, drop_place}

pub with_names-append : (names xs ys : List (List ℕ)) → with_names names (xs ++ ys) ≡ with_names (with_names names xs) ys
with_names-append names [] ys = refl
with_names-append names (x ∷ xs) ys = with_names-append (with_name names x) xs ys

is_filled_push : (lines : List JoinedLine) (line : JoinedLine) → is_filled (lines ++ line ∷ []) ≡ true
is_filled_push [] line = refl
is_filled_push (first ∷ lines) line = refl

or_false : (b c : Bool) → (b || (c || false)) ≡ (b || c)
or_false b c = grind arith

-- the state after one more line
pub sights_push : (declared : List (List ℕ)) (lines : List JoinedLine) (line : JoinedLine) → sights_of declared (lines ++ line ∷ []) ≡ sights_after (kind_of line) line.words (sights_of declared lines)
unfolding sights_of
sights_push declared lines line = grind (arith, is_filled_push, list_any-append, flat_map_push, with_names-append, filter-append, fold-append)

-- a line that has a fault
pub line_faults_found : (lut_size : ℕ) (declared : List (List ℕ)) (above : List JoinedLine) (line : JoinedLine) (rest : List JoinedLine) (kind : BlifFaultKind) → Some kind ≡ first_kind (faults_in lut_size (sights_of declared above) (kind_of line) line.words) → first_fault (line_faults lut_size declared above (line ∷ rest)) ≡ Some (record { line = line.number; kind = kind })
unfolding line_faults
line_faults_found lut_size declared above line rest kind h =
    first_found false line.number (faults_in lut_size (sights_of declared above) (kind_of line) line.words) (line_faults lut_size declared (above ++ line ∷ []) rest) kind h

-- after a line without a fault, the faults are those of the lines that follow
pub line_faults_none : (lut_size : ℕ) (declared : List (List ℕ)) (above : List JoinedLine) (line : JoinedLine) (rest : List JoinedLine) → None ≡ first_kind (faults_in lut_size (sights_of declared above) (kind_of line) line.words) → first_fault (line_faults lut_size declared above (line ∷ rest)) ≡ first_fault (line_faults lut_size declared (above ++ line ∷ []) rest)
unfolding line_faults
line_faults_none lut_size declared above line rest h = grind (arith, first_none)

module _ (lut_size : ℕ) (declared : List (List ℕ)) (lines : List JoinedLine) (place : ℕ) (line : JoinedLine) (checked : Sights)
    (within : place < length lines) (at : slice_get lines place ≡ Some line) (sights : checked ≡ sights_of declared (take place lines)) where
  -- the line at this index is added to the state
  pub sights_at : (new : Sights) → new ≡ sights_after (kind_of line) line.words checked → new ≡ sights_of declared (take (place + 1) lines)
  sights_at new after =
      after ∙ ap (sights_after (kind_of line) line.words) sights
      ∙ sym (sights_push declared (take place lines) line) ∙ ap (sights_of declared) (sym (take_place lines place line within at))

  -- the numbers of the line's nets follow those of the lines above
  pub numbers_so_far : (old new : List ℕ) → old ≡ numbers_of [] (flat_map names_of (take place lines)) → new ≡ old ++ numbers_of checked.nets (names_of line) → new ≡ numbers_of [] (flat_map names_of (take (place + 1) lines))
  unfolding sights_of
  numbers_so_far old new so_far added =
      added ∙ ap (λ numbers. numbers ++ numbers_of checked.nets (names_of line)) so_far
      ∙ ap (λ s. let t : Sights = s in numbers_of [] (flat_map names_of (take place lines)) ++ numbers_of t.nets (names_of line)) sights
      ∙ sym (numbered-append [] (flat_map names_of (take place lines)) (names_of line))
      ∙ ap (numbers_of []) (sym (flat_map_push names_of (take place lines) line))
      ∙ ap (λ ls. numbers_of [] (flat_map names_of ls)) (sym (take_place lines place line within at))

  -- the line's fault is the first one
  pub fault_at : (kind : BlifFaultKind) → Some kind ≡ first_kind (faults_in lut_size checked (kind_of line) line.words) → first_fault (line_faults lut_size declared (take place lines) (drop place lines)) ≡ first_fault (line_faults lut_size declared [] lines) → first_fault (line_faults lut_size declared [] lines) ≡ Some (record { line = line.number; kind = kind })
  fault_at kind found left =
      sym left
      ∙ ap (λ rest. first_fault (line_faults lut_size declared (take place lines) rest)) (drop_place lines place line within at)
      ∙ line_faults_found lut_size declared (take place lines) line _ kind (found ∙ ap (λ s. first_kind (faults_in lut_size s (kind_of line) line.words)) sights)

  -- if the line has no fault, the first one is among those of the later lines
  pub no_fault_at : None ≡ first_kind (faults_in lut_size checked (kind_of line) line.words) → first_fault (line_faults lut_size declared (take place lines) (drop place lines)) ≡ first_fault (line_faults lut_size declared [] lines) → first_fault (line_faults lut_size declared (take (place + 1) lines) (drop (place + 1) lines)) ≡ first_fault (line_faults lut_size declared [] lines)
  no_fault_at none left =
      ap (λ above. first_fault (line_faults lut_size declared above (drop (place + 1) lines))) (take_place lines place line within at)
      ∙ sym (line_faults_none lut_size declared (take place lines) line _ (none ∙ ap (λ s. first_kind (faults_in lut_size s (kind_of line) line.words)) sights))
      ∙ ap (λ rest. first_fault (line_faults lut_size declared (take place lines) rest)) (sym (drop_place lines place line within at))
      ∙ left
