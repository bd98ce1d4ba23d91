-- Names with their indices, and the names alone.
use Rattle.blif.proofs.Prelude.{◌≡◌, ◌∙◌, ℕ, ◌+◌, ◌≤◌, Bool, true, false, not, ◌&&◌, cond, List, [], ◌∷◌, ◌++◌, map, filter, refl, sym, ap, arith, enumerate_from, Each, InOrder, BlifFaultKind, TwoDrivers, RepeatedOutput, at_words, driver_faults, first_kind, first_of, has_name, names_with_index, repeats_from, repeats}

abbrev names_of : List (ℕ × List ℕ) → List (List ℕ)
names_of names_with_index = map (λ name. name.1) names_with_index

repeats_alone : (place : ℕ) (taken names : List (List ℕ)) → names_of (repeats_from place taken names) ≡ repeats taken names
repeats_alone place taken [] = refl
repeats_alone place taken (name ∷ names) = grind (arith, repeats_alone (place + 1) (taken ++ name ∷ []) names)

placed_alone : (test : List ℕ → Bool) (place : ℕ) (names : List (List ℕ)) → names_of (filter (λ name. test name.1) (enumerate_from place names)) ≡ filter test names
placed_alone test place [] = refl
placed_alone test place (name ∷ names) = grind (arith, placed_alone test (place + 1) names)

-- the first fault of names with indices is that of the names alone
first_alone : (kind : List ℕ → BlifFaultKind) (names_with_index : List (ℕ × List ℕ)) → first_of (map kind (names_of names_with_index)) ≡ first_kind (at_words kind names_with_index)
first_alone kind [] = refl
first_alone kind (name ∷ rest) = refl

pub first_repeat : (kind : List ℕ → BlifFaultKind) (taken names : List (List ℕ)) → first_of (map kind (repeats taken names)) ≡ first_kind (at_words kind (repeats_from 0 taken names))
first_repeat kind taken names =
    ap (λ ns. first_of (map kind ns)) (sym (repeats_alone 0 taken names)) ∙ first_alone kind (repeats_from 0 taken names)

pub first_placed : (kind : List ℕ → BlifFaultKind) (test : List ℕ → Bool) (names : List (List ℕ)) → first_of (map kind (filter test names)) ≡ first_kind (at_words kind (names_with_index test names))
first_placed kind test names = grind (arith, placed_alone, first_alone)

pub first_driver : (taken names : List (List ℕ)) → first_of (map TwoDrivers (repeats taken names)) ≡ first_kind (driver_faults taken names)
first_driver taken names = first_repeat TwoDrivers taken names

pub first_output : (taken names : List (List ℕ)) → first_of (map RepeatedOutput (repeats taken names)) ≡ first_kind (at_words RepeatedOutput (repeats_from 0 taken names))
first_output taken names = first_repeat RepeatedOutput taken names

pub first_clock : (declared drivers names : List (List ℕ)) → first_of (map TwoDrivers (filter (λ name. not (has_name declared name) && has_name drivers name) names)) ≡ first_kind (at_words TwoDrivers (names_with_index (λ name. not (has_name declared name) && has_name drivers name) names))
first_clock declared drivers names = first_placed TwoDrivers (λ name. not (has_name declared name) && has_name drivers name) names

-- if no name with its index repeats, no name repeats
pub no_repeats : (taken names : List (List ℕ)) → repeats_from 0 taken names ≡ [] → repeats taken names ≡ []
no_repeats taken names none = sym (repeats_alone 0 taken names) ∙ ap names_of none

pub none_placed : (test : List ℕ → Bool) (names : List (List ℕ)) → names_with_index test names ≡ [] → filter test names ≡ []
none_placed test names none = sym (placed_alone test 0 names) ∙ ap names_of none

-- the indices increase
abbrev pub Rise : ℕ × List ℕ → ℕ × List ℕ → Type 0
Rise first_of second = first_of.0 ≤ second.0

repeats_behind : (low place : ℕ) (taken names : List (List ℕ)) → low ≤ place → Each (λ name. low ≤ name.0) (repeats_from place taken names)
repeats_behind low place taken [] fits = tt
repeats_behind low place taken (name ∷ names) fits = grind (arith, repeats_behind low (place + 1) (taken ++ name ∷ []) names (omega arith))

pub repeats_rise : (place : ℕ) (taken names : List (List ℕ)) → InOrder Rise (repeats_from place taken names)
repeats_rise place taken [] = tt
repeats_rise place taken (name ∷ names) = by (has_name taken name) (repeats_rise (place + 1) (taken ++ name ∷ []) names)
  where
    by : (b : Bool) → InOrder Rise (repeats_from (place + 1) (taken ++ name ∷ []) names) → InOrder Rise (cond b ((place, name) ∷ []) [] ++ repeats_from (place + 1) (taken ++ name ∷ []) names)
    by true rest = (repeats_behind place (place + 1) (taken ++ name ∷ []) names (omega arith), rest)
    by false rest = rest

placed_behind : (test : List ℕ → Bool) (low place : ℕ) (names : List (List ℕ)) → low ≤ place → Each (λ name. low ≤ name.0) (filter (λ name. test name.1) (enumerate_from place names))
placed_behind test low place [] fits = tt
placed_behind test low place (name ∷ names) fits = grind (arith, placed_behind test low (place + 1) names (omega arith))

placed_rise : (test : List ℕ → Bool) (place : ℕ) (names : List (List ℕ)) → InOrder Rise (filter (λ name. test name.1) (enumerate_from place names))
placed_rise test place [] = tt
placed_rise test place (name ∷ names) = by (test name) (placed_rise test (place + 1) names)
  where
    by : (b : Bool) → InOrder Rise (filter (λ name. test name.1) (enumerate_from (place + 1) names)) → InOrder Rise (cond b ((place, name) ∷ filter (λ name. test name.1) (enumerate_from (place + 1) names)) (filter (λ name. test name.1) (enumerate_from (place + 1) names)))
    by true rest = (placed_behind test place (place + 1) names (omega arith), rest)
    by false rest = rest

pub all_placed_rise : (test : List ℕ → Bool) (names : List (List ℕ)) → InOrder Rise (names_with_index test names)
all_placed_rise test names = placed_rise test 0 names
