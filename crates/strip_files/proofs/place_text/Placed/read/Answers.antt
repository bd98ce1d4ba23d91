use Rattle.strip_files.proofs.Prelude.{ℕ, Bool, false, List, ◌≡◌, ◌<◌, ◌+◌, ◌-◌, ◌++◌, [], drop, filter, length, ap, sym, subst, arith, append-nil, nat_tests, nat_lt, if◌then◌else◌, Place, physical_lines, AddsNext, AreEachFrom, IsLineOfPlace, has_place, is_place_line, place_lines, places_of}
use Rattle.strip_files.proofs.Places.{no_place, place_step}
use Rattle.strip_files.proofs.Told.{nothing}
use Rattle.strip_files.proofs.place_text.Placed.read.Goals as goal

pub loop-rest-preserved : goal.loop-rest-preserved
loop-rest-preserved c =
    let rest : List ℕ = c.loop-rest.rest.now in
    let line : List ℕ = c.split_line.result.0.now in
    let later : List (List ℕ) = physical_lines c.split_line.result.1.now in
    let before : ℕ = c.loop-rest.number in
    let number : ℕ = c.saturating_add-number.result in
    let filled : 0 < length rest = grind (arith, nat_tests, c.loop-rest-test.ensures) in
    let old : List (List ℕ × Place) = places_of c.loop-rest.placed.blocks.items in
    let new : List (List ℕ × Place) = places_of c.line.new.self.blocks.items in
    let left : 2 - number ≡ 2 - (before + 1) = omega (arith, c.saturating_add-number.ensures) in
    let same : nat_lt (number - 1) 2 ≡ nat_lt before 2 = grind (arith, nat_tests, c.saturating_add-number.ensures) in
    let adds : AddsNext (has_place before line) (IsLineOfPlace (length old) line) old new = subst (λ (b : Bool). AddsNext b (IsLineOfPlace (length old) line) old new) (ap (λ (b : Bool). if b then false else is_place_line line) same) c.in_default.ensures.places in
    let placed : (more : List (List ℕ × Place)) → AreEachFrom IsLineOfPlace (length new) (filter is_place_line (drop (2 - number) later)) more → AreEachFrom IsLineOfPlace 0 (place_lines c.args.text.now) (new ++ more) = λ more told.
    (let step = place_step before line later old new more adds (subst (λ (k : ℕ). AreEachFrom IsLineOfPlace (length new) (filter is_place_line (drop k later)) more) left told) in
    let here : AreEachFrom IsLineOfPlace (length old) (filter is_place_line (drop (2 - before) (physical_lines rest))) step.0 = subst (λ (lines : List (List ℕ)). AreEachFrom IsLineOfPlace (length old) (filter is_place_line (drop (2 - before) lines)) step.0) (sym (c.split_line.ensures.lines filled)) step.1 in
    subst (λ (all : List (List ℕ × Place)). AreEachFrom IsLineOfPlace 0 (place_lines c.args.text.now) all) (sym step.2) (c.loop-rest.invariant.2 step.0 here)) in
    (c.in_default.ensures.listed, c.in_default.ensures.sized, placed)

pub returns-in-Some-clause-places : goal.returns-in-Some-clause-places
returns-in-Some-clause-places c =
    let short : length c.loop-rest.rest.now ≡ 0 = grind (arith, nat_tests, c.loop-rest-test.ensures) in
    let none : c.loop-rest.rest.now ≡ [] = nothing c.loop-rest.rest.now short in
    let places : List (List ℕ × Place) = places_of c.loop-rest.placed.blocks.items in
    subst (λ (all : List (List ℕ × Place)). AreEachFrom IsLineOfPlace 0 (place_lines c.args.text.now) all) (append-nil places)
    (c.loop-rest.invariant.2 [] (subst (λ (rest : List ℕ). AreEachFrom IsLineOfPlace (length places) (filter is_place_line (drop (2 - c.loop-rest.number) (physical_lines rest))) []) (sym none) (no_place (length places) (2 - c.loop-rest.number))))
