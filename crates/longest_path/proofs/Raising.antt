-- Passes over the tables.
use Rattle.longest_path.proofs.Prelude.{ℕ, ◌≡◌, ◌+◌, ◌<◌, ◌≤◌, ◌∙◌, ◌⊎◌, List, [], ◌∷◌, length, get_or, set, length-set, Some, sym, refl, ap, subst, arith, inl, inr, All, slice_get, IsTableWithin, LookupTable, Reach, HasLoop, IsIn, IsWay, AreRaised, IsPassed, IsFarther, AreFound, AreSmall, IsBegun, IsFarthest, IsFound, reach_of, none, steps_to, IsOnTheWay, IsSettled, cases_lt, get_or-set_other, get_or-set_same, get_or_past, get_or_from_slice_get, slice_get-get_or, slice_get_within}
use Rattle.longest_path.proofs.Ways.{long_loop}

-- if a pass raises nothing, a way that leads on from a net is not longer than what was found
pub settled_ways : (tables : List LookupTable) (reach : List Reach) → AreRaised tables (length tables) reach reach
    → (from : ℕ) (through : List LookupTable) (to : ℕ) → 0 < steps_to reach from → IsWay tables from through to → steps_to reach from + length through ≤ steps_to reach to
settled_ways tables reach raised from [] to reached way = subst (λ n. steps_to reach from + 0 ≤ steps_to reach n) way (omega arith)
settled_ways tables reach raised from (table ∷ others) to reached way =
    let net : ℕ = way.2.0 in
    let before : steps_to reach from + length others ≤ steps_to reach net = settled_ways tables reach raised from others net reached way.2.2 in
    let more : steps_to reach net + 1 ≤ steps_to reach table.output =
    raised way.0.0 table (slice_get_within tables way.0.0 table way.0.1) way.0.1 net way.2.1 (omega arith) in
    subst (λ n. steps_to reach from + length (table ∷ others) ≤ steps_to reach n) way.1 (omega arith)

-- a pass covers ways with one table more
pub covers : (tables : List LookupTable) (starts : List ℕ) (passes : ℕ) (old new : List Reach) → AreRaised tables (length tables) old new
    → ((net : ℕ) → steps_to old net ≤ steps_to new net)
    → ((from : ℕ) (through : List LookupTable) (to : ℕ) → IsIn starts from → IsWay tables from through to → length through ≤ passes → length through + 1 ≤ steps_to old to)
    → (from : ℕ) (through : List LookupTable) (to : ℕ) → IsIn starts from → IsWay tables from through to → length through ≤ passes + 1 → length through + 1 ≤ steps_to new to
covers tables starts passes old new raised rises covered from [] to start way few =
    let a : length {A = LookupTable} [] + 1 ≤ steps_to old to = covered from [] to start way (omega arith) in
    let b : steps_to old to ≤ steps_to new to = rises to in
    omega arith
covers tables starts passes old new raised rises covered from (table ∷ others) to start way few = grind (arith, slice_get_within)

-- after one more pass that raised a net
pub on_the_way : (passes nets : ℕ) (tables : List LookupTable) (starts : List ℕ) (old new : List Reach)
    → IsOnTheWay passes nets tables starts old → IsPassed tables starts (length tables) old new → IsFarther old new → IsOnTheWay (passes + 1) nets tables starts new
on_the_way passes nets tables starts old new was passed farther = grind (arith, cases_lt, covers tables starts passes old new passed.raised passed.rises was.covered)

-- after a pass that raised nothing
pub settled_by : (nets passes : ℕ) (tables : List LookupTable) (starts : List ℕ) (reach : List Reach)
    → IsOnTheWay passes nets tables starts reach → IsPassed tables starts (length tables) reach reach → IsSettled nets tables starts reach
settled_by nets passes tables starts reach was passed = grind (arith, settled_ways)

-- a table of these is within the nets
pub table_within : (tables : List LookupTable) (nets place : ℕ) (table : LookupTable) → All (IsTableWithin nets) tables → slice_get tables place ≡ Some table → IsTableWithin nets table
table_within tables nets place table all here = grind (arith, get_or_from_slice_get, slice_get_within)

-- the steps to a net of a list are at most those to the farthest of them
at_most : (reach : List Reach) (nets : List ℕ) (most net : ℕ) → ((k : ℕ) → k < length nets → steps_to reach (get_or nets k 0) ≤ most) → IsIn nets net → steps_to reach net ≤ most
at_most reach nets most net h here = subst (λ n. steps_to reach n ≤ most) here.2 (h here.0 here.1)

-- one more table was gone over, of whose inputs none was farther than that
raised_more : (tables : List LookupTable) (place most : ℕ) (table : LookupTable) (old now new : List Reach) → slice_get tables place ≡ Some table
    → ((net : ℕ) → steps_to old net ≤ steps_to now net) → ((net : ℕ) → steps_to now net ≤ steps_to new net)
    → ((net : ℕ) → IsIn table.inputs net → steps_to now net ≤ most) → (0 < most → most + 1 ≤ steps_to new table.output)
    → AreRaised tables place old now → AreRaised tables (place + 1) old new
raised_more tables place most table old now new here rises rise most_is up raised number other within there net among reached = grind arith

-- a table that raises nothing, since its inputs are not reached, or since its output is farther
pub kept : (tables : List LookupTable) (starts : List ℕ) (place most : ℕ) (table : LookupTable) (old now : List Reach) → slice_get tables place ≡ Some table
    → ((k : ℕ) → k < length table.inputs → steps_to now (get_or table.inputs k 0) ≤ most) → (0 < most → most + 1 ≤ steps_to now table.output)
    → IsPassed tables starts place old now → IsPassed tables starts (place + 1) old now
kept tables starts place most table old now here most_is up passed = grind arith

-- what was found for a net after the output of a table is raised
steps_at : (now : List Reach) (output : ℕ) (best : Reach) (net : ℕ) → output < length now
    → ((net ≡ output) × (reach_of (set now output (record { steps = best.steps + 1; start = best.start })) net ≡ record { steps = best.steps + 1; start = best.start }))
    ⊎ (reach_of (set now output (record { steps = best.steps + 1; start = best.start })) net ≡ reach_of now net)
steps_at now output best net within = grind (arith, get_or-set_same, get_or-set_other)

-- if a net is raised, none falls
pub raises : (now : List Reach) (output : ℕ) (best : Reach) (n : ℕ) → output < length now → steps_to now output ≤ best.steps → steps_to now n ≤ steps_to (set now output (record { steps = best.steps + 1; start = best.start })) n
raises now output best n within above = grind (arith, steps_at)

-- a table raises its output
pub more : (tables : List LookupTable) (starts : List ℕ) (place net : ℕ) (table : LookupTable) (best : Reach) (old now : List Reach) → slice_get tables place ≡ Some table
    → reach_of now net ≡ best → IsFarthest now table.inputs net → best.steps ≤ length now → steps_to now table.output ≤ best.steps → table.output < length now
    → IsPassed tables starts place old now
    → IsPassed tables starts (place + 1) old (set now table.output (record { steps = best.steps + 1; start = best.start }))
more tables starts place net table best old now here is farthest few above within passed =
    let new : List Reach = set now table.output (record { steps = best.steps + 1; start = best.start }) in
    let same_length : length new ≡ length now = length-set now table.output (record { steps = best.steps + 1; start = best.start }) in
    let rise : (n : ℕ) → steps_to now n ≤ steps_to new n = λ n. raises now table.output best n within above in
    let best_is : steps_to now net ≡ best.steps = ap (λ (r : Reach). r.steps) is in
    record {
      long = same_length ∙ passed.long;
      small = λ n. elim (steps_at now table.output best n within) [
        | inl at ↦ (let a : steps_to new n ≡ best.steps + 1 = ap (λ (r : Reach). r.steps) at.1 in omega arith)
        | inr off ↦ (let a : steps_to new n ≡ steps_to now n = ap (λ (r : Reach). r.steps) off in let b : steps_to now n ≤ length now + 1 = passed.small n in omega arith)
      ];
      found = λ n reached. elim (steps_at now table.output best n within) [
        | inl at ↦
            let was : IsFound tables starts net (reach_of now net) = passed.found net farthest.reached in
            let lead : IsFound tables starts net best = subst (IsFound tables starts net) is was in
            let through : List LookupTable = table ∷ lead.1.0 in
            let count : length lead.1.0 + 1 ≡ best.steps = lead.1.2 in
            let led : IsFound tables starts n (record { steps = best.steps + 1; start = best.start }) =
            (lead.0, (through, ((place, here), sym at.0, (net, farthest.among, lead.1.1)), omega arith)) in
            subst (IsFound tables starts n) (sym at.1) led
        | inr off ↦ subst (IsFound tables starts n) (sym off) (passed.found n (subst (λ (r : Reach). 0 < r.steps) off reached))
      ];
      rises = λ n. (let a : steps_to old n ≤ steps_to now n = passed.rises n in let b : steps_to now n ≤ steps_to new n = rise n in omega arith);
      raised = raised_more tables place best.steps table old now new here passed.rises rise
          (λ n among. (let a : steps_to now n ≤ steps_to now net = at_most now table.inputs (steps_to now net) n farthest.most among in omega arith))
          (λ _. (elim (steps_at now table.output best table.output within) [
            | inl at ↦ (let a : steps_to new table.output ≡ best.steps + 1 = ap (λ (r : Reach). r.steps) at.1 in omega arith)
            | inr off ↦ (let a : reach_of new table.output ≡ record { steps = best.steps + 1; start = best.start } = get_or-set_same now table.output (record { steps = best.steps + 1; start = best.start }) none within in
                let b : steps_to new table.output ≡ best.steps + 1 = ap (λ (r : Reach). r.steps) a in omega arith)
          ]))
          passed.raised;
    }

-- the output is farther than it was
pub farther : (output : ℕ) (best : Reach) (old now : List Reach) → output < length now → steps_to now output ≤ best.steps → ((net : ℕ) → steps_to old net ≤ steps_to now net)
    → IsFarther old (set now output (record { steps = best.steps + 1; start = best.start }))
farther output best old now within above rises = grind (arith, get_or-set_same)

-- an input that is farther than there are nets is behind a loop
pub looped : (tables : List LookupTable) (starts : List ℕ) (place net : ℕ) (table : LookupTable) (best : Reach) (old now : List Reach) → All (IsTableWithin (length old)) tables → slice_get tables place ≡ Some table
    → reach_of now net ≡ best → IsFarthest now table.inputs net → length old < best.steps → IsPassed tables starts place old now → HasLoop tables
looped tables starts place net table best old now all here is farthest many passed =
    let was : IsFound tables starts net (reach_of now net) = passed.found net farthest.reached in
    let lead : IsFound tables starts net best = subst (IsFound tables starts net) is was in
    let count : length lead.1.0 + 1 ≡ best.steps = lead.1.2 in
    long_loop tables (length old) (λ one among. (table_within tables (length old) among.0 one all among.1).output) best.start (table ∷ lead.1.0) table.output
    ((place, here), refl, (net, farthest.among, lead.1.1)) (omega arith)

covered_none : (tables : List LookupTable) (reach : List Reach) (from : ℕ) (through : List LookupTable) (to : ℕ) → steps_to reach from ≡ 1 → IsWay tables from through to → length through ≤ 0 → length through + 1 ≤ steps_to reach to
covered_none tables reach from [] to one way few = subst (λ n. 1 ≤ steps_to reach n) way (omega arith)
covered_none tables reach from (table ∷ others) to one way few = absurd (omega arith)

-- before the first pass
pub not_yet : (nets : ℕ) (tables : List LookupTable) (starts : List ℕ) (reach : List Reach) → IsBegun nets starts reach → IsOnTheWay 0 nets tables starts reach
not_yet nets tables starts reach begun = record {
  long = begun.long;
  small = λ net. elim (cases_lt 0 (steps_to reach net)) [
    | inl reached ↦ (let a : steps_to reach net ≡ 1 = (begun.only net reached).1 in omega arith)
    | inr off ↦ omega arith
  ];
  found = λ net reached. (let it = begun.only net reached in
      (subst (IsIn starts) (sym it.2) it.0, ([], it.2, sym it.1)));
  started = λ net start. (let a : steps_to reach net ≡ 1 = begun.started net start in omega arith);
  covered = λ from through to start way few. covered_none tables reach from through to (begun.started from start) way few;
  far = λ h. absurd (omega arith);
}

-- before the tables
pub first : (tables : List LookupTable) (starts : List ℕ) (reach : List Reach) → AreSmall reach → AreFound tables starts reach → IsPassed tables starts 0 reach reach
first tables starts reach small found = grind arith

-- what is read for a net that is reached, or that is there
pub far_of : (reach : List Reach) (net : ℕ) (best : Reach) → net < length reach → best ≡ get_or reach net best → reach_of reach net ≡ best
far_of reach net best within read = get_or_from_slice_get reach net (get_or reach net best) none (slice_get-get_or reach net best within) ∙ sym read

pub reached_within : (reach : List Reach) (net : ℕ) → 0 < steps_to reach net → net < length reach
reached_within reach net reached = grind (arith, get_or_past)
