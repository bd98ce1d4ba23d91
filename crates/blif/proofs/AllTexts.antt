-- The circuit of each text is lawful, whoever reads it.
use Rattle.blif.proofs.Prelude.{◌≡◌, ◌≤◌, ℕ, Bool, true, false, nat_lt, if◌then◌else◌, List, [], ◌∷◌, ◌++◌, Option, None, Result, Ok, Err, length, refl, sym, subst, append_assoc, arith, append-nil, option_map_or, rises_given, RisesFrom, JoinedLine, lines_of, LineFault, MAX_TEXT, faults_in, IsLawfulFor, circuit_of, circuit_of_lines, line_faults, names_in, with_names, Sights, kind_of, sights_of, Circuit, MAX_NETS, BlifFault, OverLimit, Keyword}
use Rattle.blif.proofs.Answering.{circuit_of_read}
use Rattle.blif.proofs.FaultOrder.{least_is_first}
use Rattle.blif.proofs.Faultless.{nil_from_map, nil_left, nil_right}
use Rattle.blif.proofs.Lawful.{is_circuit, is_narrow}
use Rattle.blif.proofs.Sightings.{sights_push}

-- after a line without a fault the nets are within the limit
few_after_line : (lut_size : ℕ) (above : Sights) (keyword : Keyword) (words : List (List ℕ)) → faults_in lut_size above keyword words ≡ [] → length (with_names above.nets (names_in keyword words)) ≤ MAX_NETS
few_after_line lut_size above keyword words h = grind (arith, nil_right)

-- after lines without a fault the nets are within the limit
few_after_lines : (lut_size : ℕ) (declared : List (List ℕ)) (above lines : List JoinedLine) → length (sights_of declared above).nets ≤ MAX_NETS → line_faults lut_size declared above lines ≡ [] → length (sights_of declared (above ++ lines)).nets ≤ MAX_NETS
unfolding line_faults
few_after_lines lut_size declared above [] start h = rw append-nil start
few_after_lines lut_size declared above (line ∷ lines) start h =
    let none : faults_in lut_size (sights_of declared above) (kind_of line) line.words ≡ [] = nil_from_map _ _ (nil_left _ _ h) in
    let next : length (sights_of declared (above ++ line ∷ [])).nets ≤ MAX_NETS = subst (λ (s : Sights). length s.nets ≤ MAX_NETS) (sym (sights_push declared above line)) (few_after_line lut_size (sights_of declared above) (kind_of line) line.words none) in
    let further = few_after_lines lut_size declared (above ++ line ∷ []) lines next (nil_right _ _ h) in
    rw append_assoc at further

few_of_none : (declared : List (List ℕ)) → length (sights_of declared []).nets ≤ MAX_NETS
unfolding sights_of
few_of_none declared = omega arith

-- lines whose circuit they give have no fault
no_fault : (found : Option BlifFault) (built circuit : Circuit) → option_map_or Err found (Ok built) ≡ Ok circuit → (found ≡ None) × (built ≡ circuit)
no_fault found built circuit h = grind arith

-- the circuit that lines give is lawful
lines_lawful : (lut_size : ℕ) (lines : List JoinedLine) (circuit : Circuit) → RisesFrom 1 lines → circuit_of_lines lut_size lines ≡ Ok circuit → IsLawfulFor lut_size circuit
unfolding circuit_of_lines
lines_lawful lut_size lines circuit rises says = grind (arith, least_is_first, nil_left, few_after_lines, few_of_none, is_circuit, is_narrow)

-- the circuit that a text gives is lawful
pub text_lawful : (text : List ℕ) (lut_size : ℕ) (circuit : Circuit) → circuit_of text lut_size ≡ Ok circuit → IsLawfulFor lut_size circuit
unfolding circuit_of
text_lawful text lut_size circuit says = by (nat_lt MAX_TEXT (length text)) says
  where
    read_as : (read : Result (List JoinedLine) LineFault) → lines_of text ≡ read → circuit_of_read lut_size read ≡ Ok circuit → IsLawfulFor lut_size circuit
    read_as (Ok lines) is given = lines_lawful lut_size lines circuit (rises_given text (Ok lines) is) given
    read_as (Err fault) is given = absurd cc

    by : (b : Bool) → (if b then Err (record { line = 0; kind = OverLimit }) else circuit_of_read lut_size (lines_of text)) ≡ Ok circuit → IsLawfulFor lut_size circuit
    by true given = absurd cc
    by false given = read_as (lines_of text) refl given
