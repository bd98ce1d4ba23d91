-- The definition, computed on small netlists.
use Rattle.blif.proofs.Prelude.{◌≡◌, ℕ, List, [], ◌∷◌, Some, Ok, Err, codes, refl, digits, encode, JoinedLine, MixedCover, TooWide, TwoDrivers, Undriven, NoModel, printed_fault, drivers_of, sights_of, circuit_from, circuit_of_lines, declared_in, final_faults, line_faults, undriven_faults}

abbrev line : ℕ → List (List ℕ) → JoinedLine
line number words = record { number = number; words = words }

abbrev model : JoinedLine
model = line 1 (codes ".model" ∷ codes "t" ∷ [])

-- one table of two inputs
and_gate : circuit_of_lines 2 (model ∷ line 2 (codes ".inputs" ∷ codes "a" ∷ codes "b" ∷ []) ∷ line 3 (codes ".outputs" ∷ codes "f" ∷ []) ∷ line 4 (codes ".names" ∷ codes "a" ∷ codes "b" ∷ codes "f" ∷ []) ∷ line 5 (codes "11" ∷ codes "1" ∷ []) ∷ line 6 (codes ".end" ∷ []) ∷ [])
    ≡ Ok (record { model = codes "t"; nets = codes "a" ∷ codes "b" ∷ codes "f" ∷ []; inputs = 0 ∷ 1 ∷ []; outputs = 2 ∷ []; tables = record { line = 4; inputs = 0 ∷ 1 ∷ []; output = 2 } ∷ []; latches = [] })
unfolding circuit_of_lines line_faults final_faults undriven_faults declared_in sights_of circuit_from
and_gate = refl

-- a latch whose clock is not a declared input
clocked : circuit_of_lines 2 (model ∷ line 2 (codes ".clock" ∷ codes "c" ∷ []) ∷ line 3 (codes ".inputs" ∷ codes "d" ∷ []) ∷ line 4 (codes ".latch" ∷ codes "d" ∷ codes "q" ∷ codes "re" ∷ codes "c" ∷ []) ∷ [])
    ≡ Ok (record { model = codes "t"; nets = codes "c" ∷ codes "d" ∷ codes "q" ∷ []; inputs = 1 ∷ 0 ∷ []; outputs = []; tables = []; latches = record { line = 4; input = 1; output = 2; control = Some 0 } ∷ [] })
unfolding circuit_of_lines line_faults final_faults undriven_faults declared_in sights_of circuit_from
clocked = refl

-- a row whose output differs from the first row's
mixed : circuit_of_lines 2 (model ∷ line 2 (codes ".inputs" ∷ codes "a" ∷ []) ∷ line 3 (codes ".names" ∷ codes "a" ∷ codes "f" ∷ []) ∷ line 4 (codes "1" ∷ codes "1" ∷ []) ∷ line 5 (codes "0" ∷ codes "0" ∷ []) ∷ [])
    ≡ Err (record { line = 5; kind = MixedCover })
unfolding circuit_of_lines line_faults final_faults undriven_faults declared_in sights_of circuit_from
mixed = refl

-- of two faults of one line, the one with the lesser number
wide_before_driven : circuit_of_lines 1 (model ∷ line 2 (codes ".inputs" ∷ codes "a" ∷ codes "b" ∷ []) ∷ line 3 (codes ".names" ∷ codes "a" ∷ codes "b" ∷ codes "a" ∷ []) ∷ [])
    ≡ Err (record { line = 3; kind = TooWide })
unfolding circuit_of_lines line_faults final_faults undriven_faults declared_in sights_of circuit_from
wide_before_driven = refl

-- a second driver
driven_twice : circuit_of_lines 2 (model ∷ line 2 (codes ".inputs" ∷ codes "a" ∷ []) ∷ line 3 (codes ".names" ∷ codes "a" ∷ []) ∷ [])
    ≡ Err (record { line = 3; kind = TwoDrivers (codes "a") })
unfolding circuit_of_lines line_faults final_faults undriven_faults declared_in sights_of circuit_from
driven_twice = refl

-- a fault that only the end shows is reported at the first line that reads the net
read_first : circuit_of_lines 2 (model ∷ line 2 (codes ".outputs" ∷ codes "z" ∷ []) ∷ line 3 (codes ".names" ∷ codes "z" ∷ codes "f" ∷ []) ∷ [])
    ≡ Err (record { line = 2; kind = Undriven (codes "z") })
unfolding circuit_of_lines line_faults final_faults undriven_faults declared_in sights_of circuit_from
read_first = refl

-- no line at all
nothing : circuit_of_lines 2 [] ≡ Err (record { line = 0; kind = NoModel })
unfolding circuit_of_lines line_faults final_faults undriven_faults declared_in sights_of circuit_from
nothing = refl

-- the printed text of a fault that names a net
told : printed_fault (record { line = 3; kind = Undriven (codes "z") }) ≡ codes "6 Undriven 3 z"
unfolding digits encode
told = refl

-- the drivers of a circuit
drivers : drivers_of (record { model = codes "t"; nets = codes "c" ∷ codes "d" ∷ codes "q" ∷ codes "f" ∷ []; inputs = 1 ∷ 0 ∷ []; outputs = []; tables = record { line = 5; inputs = 2 ∷ []; output = 3 } ∷ []; latches = record { line = 4; input = 1; output = 2; control = Some 0 } ∷ [] }) ≡ 1 ∷ 0 ∷ 3 ∷ 2 ∷ []
drivers = refl
