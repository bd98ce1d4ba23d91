-- The longest path of a circuit.
use Rattle.longest_path.proofs.Prelude.{ℕ, Result, Ok, Err, ◌≡◌, ◌+◌, ◌<◌, ◌≤◌, List, [], ◌∷◌, length, map, get_or, subst, arith, All, IfOk, All-append, All-map, All-weaker, LookupTable, IsCircuit, IsLatchWithin, IsTableWithin, Circuit, Latch, Longest, Path, NoPath, Loop, Reach, IsEnd, HasLoop, IsIn, IsLongest, IsPath, IsWay, ends_of, starts_of, IsFound, reach_of, steps_to, IsSettled}
use Rattle.longest_path.proofs.Raising.{table_within}

-- the starts and the ends are nets
pub starts_within : (circuit : Circuit) → IsCircuit circuit → All (λ net. net < length circuit.nets) (starts_of circuit)
starts_within circuit lawful =
    All-append (λ net. net < length circuit.nets) circuit.inputs (map (λ (latch : Latch). latch.output) circuit.latches) lawful.inputs
    (All-map (λ net. net < length circuit.nets) (λ (latch : Latch). latch.output) circuit.latches
    (All-weaker (IsLatchWithin (length circuit.nets)) (λ (latch : Latch). latch.output < length circuit.nets) (λ latch within. within.output) circuit.latches lawful.latches))

pub ends_within : (circuit : Circuit) → IsCircuit circuit → All (λ net. net < length circuit.nets) (ends_of circuit)
ends_within circuit lawful =
    All-append (λ net. net < length circuit.nets) circuit.outputs (map (λ (latch : Latch). latch.input) circuit.latches) lawful.outputs
    (All-map (λ net. net < length circuit.nets) (λ (latch : Latch). latch.input) circuit.latches
    (All-weaker (IsLatchWithin (length circuit.nets)) (λ (latch : Latch). latch.input < length circuit.nets) (λ latch within. within.input) circuit.latches lawful.latches))

-- if all nets are starts and the ways are settled, there is no loop
pub no_loop : (nets : ℕ) (tables : List LookupTable) (starts : List ℕ) (reach : List Reach) → All (IsTableWithin nets) tables → length starts ≡ nets → ((k : ℕ) → k < nets → get_or starts k 0 ≡ k)
    → IsSettled nets tables starts reach → HasLoop tables → ⊥
no_loop nets tables starts reach all count each settled loop =
    let net : ℕ = loop.0 in
    let table : LookupTable = loop.1 in
    let way : IsWay tables net (table ∷ loop.2) net = loop.3 in
    let low : table.output < nets = (table_within tables nets way.0.0 table all way.0.1).output in
    let within : net < nets = subst (λ n. n < nets) way.1 low in
    let reached : 0 < steps_to reach net = settled.started net (net, omega arith, each net within) in
    let longer : steps_to reach net + length (table ∷ loop.2) ≤ steps_to reach net = settled.settled net (table ∷ loop.2) net reached way in
    omega arith

-- a path has at most as many tables as there are steps to its end, but one
path_steps : (circuit : Circuit) (nets : ℕ) (reach : List Reach) → IsSettled nets circuit.tables (starts_of circuit) reach
    → (from : ℕ) (tables : List LookupTable) (to : ℕ) → IsPath circuit from tables to → length tables + 1 ≤ steps_to reach to
path_steps circuit nets reach settled from tables to path = grind arith

-- a net at one step is a start
first_start : (tables : List LookupTable) (starts : List ℕ) (nets : ℕ) (reach : List Reach) (net : ℕ) → IsSettled nets tables starts reach → steps_to reach net ≡ 1 → IsIn starts net
first_start tables starts nets reach net settled one =
    let found : IsFound tables starts net (reach_of reach net) = settled.found net (omega arith) in
    by found.1.0 found.1.1 (let e : length found.1.0 + 1 ≡ steps_to reach net = found.1.2 in omega arith) found.0
  where
    by : (through : List LookupTable) → IsWay tables (reach_of reach net).start through net → length through ≡ 0 → IsIn starts (reach_of reach net).start → IsIn starts net
    by [] way none start = subst (IsIn starts) way start
    by (table ∷ others) way none start = absurd (omega (arith, none))

-- what was found to the farthest end is the longest path
pub longest : (circuit : Circuit) (nets : ℕ) (reach : List Reach) (found : Longest) → (HasLoop circuit.tables → ⊥) → IsSettled nets circuit.tables (starts_of circuit) reach
    → IsEnd circuit.tables reach (ends_of circuit) found → IsLongest circuit found
longest circuit nets reach (Path path) none settled end =
    let steps : length path.tables.items + 1 ≡ steps_to reach path.to = end.count in (
      none,
      λ from tables to other. (
          let a : length tables + 1 ≤ steps_to reach to = path_steps circuit nets reach settled from tables to other in
          let b : steps_to reach to ≤ steps_to reach path.to = subst (λ n. steps_to reach n ≤ steps_to reach path.to) other.end.2 (end.farthest.most other.end.0 other.end.1) in
          omega arith),
      (
        end.through.through,
        record {
          start = first_start circuit.tables (starts_of circuit) nets reach path.from settled end.first;
          end = end.farthest.among;
          way = end.through.way;
        },
        end.through.at,
      ),
    )
longest circuit nets reach NoPath none settled end = grind arith
longest circuit nets reach Loop none settled end = absurd end

-- if one was found
pub if_longest : {E : Type 0} (circuit : Circuit) (nets : ℕ) (reach : List Reach) (found : Result Longest E) → (HasLoop circuit.tables → ⊥) → IsSettled nets circuit.tables (starts_of circuit) reach
    → IfOk found (IsEnd circuit.tables reach (ends_of circuit)) → IfOk found (IsLongest circuit)
if_longest circuit nets reach (Ok found) none settled end = longest circuit nets reach found none settled end
if_longest circuit nets reach (Err error) none settled end = tt
