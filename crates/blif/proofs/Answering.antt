-- From the faults of the lines and of the end to the returned result.
use Rattle.blif.proofs.Prelude.{◌≡◌, ℕ, ◌<◌, ◌≤◌, List, [], None, Result, Err, MatchResult, IfOk, length, ap, arith, result_flatten, result_map_both, JoinedLine, lines_of, Fails, Gives, IsToldAs, TextError, LineFault, Circuit, OverLimit, BlifFault, fault_of_lines, RisesFrom, first_fault, Sights, sights_of, circuit_from, IsLawfulFor, circuit_of, circuit_of_lines, declared_in, final_faults, line_faults, MAX_NETS, MAX_TEXT}
use Rattle.blif.proofs.FaultOrder.{least_is_first}
use Rattle.blif.proofs.Lawful.{is_circuit, is_narrow}

-- the checker's declared inputs are those of the text
pub declared_is : (checked : Sights) (declared : List (List ℕ)) (lines : List JoinedLine) → checked ≡ sights_of declared lines → checked.declared ≡ declared
unfolding sights_of
declared_is checked declared lines sights = ap (λ s. let t : Sights = s in t.declared) sights

-- a line's fault is the least
pub gives_line_fault : (lut_size : ℕ) (lines : List JoinedLine) (declared : List (List ℕ)) (error : TextError BlifFault) → RisesFrom 1 lines → declared ≡ declared_in lines → Fails (first_fault (line_faults lut_size declared [] lines)) error → Gives (circuit_of_lines lut_size lines) (Err error)
unfolding circuit_of_lines
gives_line_fault lut_size lines declared error rises is fails = grind (arith, least_is_first)

-- if no line has a fault, the end decides
pub gives_built : (lut_size : ℕ) (lines : List JoinedLine) (declared : List (List ℕ)) (result : Result Circuit (TextError BlifFault)) → RisesFrom 1 lines → declared ≡ declared_in lines → first_fault (line_faults lut_size declared [] lines) ≡ None → MatchResult result (λ circuit. (first_fault (final_faults declared lines) ≡ None) × (circuit ≡ circuit_from declared lines)) (Fails (first_fault (final_faults declared lines))) → Gives (circuit_of_lines lut_size lines) result
unfolding circuit_of_lines
gives_built lut_size lines declared result rises is none built = grind (arith, least_is_first)

-- what is built is lawful
pub lawful_built : (lut_size : ℕ) (lines : List JoinedLine) (declared : List (List ℕ)) (result : Result Circuit (TextError BlifFault)) → RisesFrom 1 lines → length (sights_of declared lines).nets ≤ MAX_NETS → first_fault (line_faults lut_size declared [] lines) ≡ None → MatchResult result (λ circuit. (first_fault (final_faults declared lines) ≡ None) × (circuit ≡ circuit_from declared lines)) (Fails (first_fault (final_faults declared lines))) → IfOk result (IsLawfulFor lut_size)
lawful_built lut_size lines declared result rises few none built = grind (arith, is_circuit, is_narrow)

-- the meaning of a text that was split into these lines
abbrev pub circuit_of_read : ℕ → Result (List JoinedLine) LineFault → Result Circuit BlifFault
circuit_of_read lut_size read = result_flatten (result_map_both (circuit_of_lines lut_size) fault_of_lines read)

-- a text above the limit
pub circuit_of-long : (text : List ℕ) (lut_size : ℕ) → MAX_TEXT < length text → circuit_of text lut_size ≡ Err (record { line = 0; kind = OverLimit })
unfolding circuit_of
circuit_of-long text lut_size long = grind arith

pub circuit_of-short : (text : List ℕ) (lut_size : ℕ) (read : Result (List JoinedLine) LineFault) → length text ≤ MAX_TEXT → lines_of text ≡ read → circuit_of text lut_size ≡ circuit_of_read lut_size read
unfolding circuit_of
circuit_of-short text lut_size read short is = grind arith

-- a fault of splitting into lines is the least
pub gives_error_of_lines : (text : List ℕ) (lut_size : ℕ) (error : TextError LineFault) (told : TextError BlifFault) → length text ≤ MAX_TEXT → Gives (lines_of text) (Err error) → IsToldAs (λ lines fault. fault ≡ fault_of_lines lines) error told → Gives (circuit_of text lut_size) (Err told)
gives_error_of_lines text lut_size error told short is so = grind (arith, circuit_of-short)
