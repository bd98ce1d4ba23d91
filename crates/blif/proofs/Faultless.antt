-- Properties of lines that have no fault.
use Rattle.blif.proofs.Prelude.{◌≡◌, ℕ, Bool, true, false, not, ◌&&◌, cond, List, [], ◌∷◌, ◌++◌, map, if◌then◌else◌, refl, ◌∙◌, append_assoc, arith, append-nil, list_all-append, flat_map, list_all, JoinedLine, sights_after, BadLatch, Keyword, has_name, repeats, undriven_names, latch_output, output_of, reads_in, is_latch, Sights, sights_of, kind_of, driven_nets, driver_faults, faults_in, kind_faults, of_line, table_faults, final_faults, line_faults, undriven_faults}
use Rattle.blif.proofs.PlacedNames.{none_placed}
use Rattle.blif.proofs.Sightings.{sights_push}

pub nil_left : {X : Type 0} (xs ys : List X) → xs ++ ys ≡ [] → xs ≡ []
nil_left [] ys h = refl
nil_left (x ∷ xs) ys h = absurd cc

pub nil_right : {X : Type 0} (xs ys : List X) → xs ++ ys ≡ [] → ys ≡ []
nil_right [] ys h = h
nil_right (x ∷ xs) ys h = absurd cc

pub nil_from_map : {X Y : Type 0} (f : X → Y) (xs : List X) → map f xs ≡ [] → xs ≡ []
nil_from_map f [] h = refl
nil_from_map f (x ∷ xs) h = absurd cc

-- a line without a fault has none by itself or with the lines above it
kind_faultless : (lut_size : ℕ) (above : Sights) (keyword : Keyword) (words : List (List ℕ)) → faults_in lut_size above keyword words ≡ [] → kind_faults lut_size above keyword words ≡ []
kind_faultless lut_size above keyword words h = grind (arith, nil_left)

-- a property that each line without a fault preserves holds after lines without a fault
module _ (lut_size : ℕ) (declared : List (List ℕ)) (Kept : List JoinedLine → Type 0)
    (step : (above : List JoinedLine) (line : JoinedLine) → kind_faults lut_size (sights_of declared above) (kind_of line) line.words ≡ [] → Kept above → Kept (above ++ line ∷ [])) where
  pub kept_by_lines : (above lines : List JoinedLine) → Kept above → line_faults lut_size declared above lines ≡ [] → Kept (above ++ lines)
  unfolding line_faults
  kept_by_lines above [] start h = rw append-nil start
  kept_by_lines above (line ∷ lines) start h =
      let kinds = nil_from_map _ _ (nil_left _ _ h) in
      let further = kept_by_lines (above ++ line ∷ []) lines (step above line (kind_faultless lut_size (sights_of declared above) (kind_of line) line.words kinds) start) (nil_right _ _ h) in
      rw append_assoc at further

-- a property of the state that each line without a fault preserves holds after lines without a
-- fault
pub kept_by_sights : (lut_size : ℕ) (declared : List (List ℕ)) (Kept : Sights → Type 0) → ((above : Sights) (keyword : Keyword) (words : List (List ℕ)) → kind_faults lut_size above keyword words ≡ [] → Kept above → Kept (sights_after keyword words above)) → (lines : List JoinedLine) → Kept (sights_of declared []) → line_faults lut_size declared [] lines ≡ [] → Kept (sights_of declared lines)
kept_by_sights lut_size declared Kept step lines start h =
    kept_by_lines lut_size declared (λ above. Kept (sights_of declared above))
    (λ above line none kept. rw (sights_push declared above line) (step (sights_of declared above) (kind_of line) line.words none kept))
    [] lines start h

-- a table without a fault drives a net that was not driven
pub table_output_free : (lut_size : ℕ) (taken names : List (List ℕ)) → table_faults lut_size taken names ≡ [] → repeats taken (output_of names) ≡ []
table_output_free lut_size taken names h = grind arith

-- a latch without a fault drives a net that was not driven
pub latch_output_free : (taken args : List (List ℕ)) → (if is_latch args then driver_faults taken (latch_output args) else of_line BadLatch) ≡ [] → repeats taken (latch_output args) ≡ []
latch_output_free taken args h = grind arith

-- if no undriven net is read, all nets that are read are driven
all_driven : (drivers names : List (List ℕ)) → undriven_names drivers names ≡ [] → list_all (has_name drivers) names ≡ true
all_driven drivers [] h = refl
all_driven drivers (name ∷ names) h = by (has_name drivers name) h (λ rest. all_driven drivers names rest)
  where
    by : (b : Bool) → cond (not b) (name ∷ undriven_names drivers names) (undriven_names drivers names) ≡ [] → (undriven_names drivers names ≡ [] → list_all (has_name drivers) names ≡ true) → (b && list_all (has_name drivers) names) ≡ true
    by true none rest = rest none
    by false none rest = absurd cc

pub reads_driven : (drivers : List (List ℕ)) (lines : List JoinedLine) → flat_map (undriven_faults drivers) lines ≡ [] → list_all (has_name drivers) (flat_map (λ (l : JoinedLine). reads_in (kind_of l) l.words) lines) ≡ true
unfolding undriven_faults
reads_driven drivers [] h = refl
reads_driven drivers (line ∷ lines) h =
    let reads : List (List ℕ) = reads_in (kind_of line) line.words in
    let head : list_all (has_name drivers) reads ≡ true = all_driven drivers reads (none_placed _ reads (nil_from_map _ _ (nil_from_map _ _ (nil_left _ _ h)))) in
    let tail = reads_driven drivers lines (nil_right _ _ h) in
    list_all-append (has_name drivers) reads _ ∙ (λ i. head i && tail i)

-- if there is no fault at the end, no line reads an undriven net
pub end_faultless : (declared : List (List ℕ)) (lines : List JoinedLine) → final_faults declared lines ≡ [] → flat_map (undriven_faults (driven_nets (sights_of declared lines))) lines ≡ []
unfolding final_faults
end_faultless declared lines h = grind arith
