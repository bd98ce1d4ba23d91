-- A longest way, traced back from its end.
use Rattle.longest_path.proofs.Prelude.{ℕ, ◌≡◌, ◌+◌, ◌<◌, ◌≤◌, ◌∙◌, List, [], ◌∷◌, ◌++◌, length, get_or, Some, refl, arith, inl, inr, slice_get, cases_lt, map-append, LookupTable, Reach, AreAt, IsIn, IsTable, IsWay, IsFound, reach_of, steps_to, IsSettled, CanTrace, IsThrough, NoneLeads, slice_get_within}

-- a way with one table more at its beginning
pub extend : (tables : List LookupTable) (net from to : ℕ) (through : List LookupTable) (table : LookupTable) → IsWay tables net through to → IsTable tables table → table.output ≡ net
    → IsIn table.inputs from → IsWay tables from (through ++ table ∷ []) to
extend tables net from to [] table way is drives reads = (is, drives ∙ way, (from, reads, refl))
extend tables net from to (first ∷ others) table way is drives reads = grind (arith, extend tables net from way.2.0 others table way.2.2 is drives reads)

-- and its numbers
at_more : (tables : List LookupTable) (numbers : List ℕ) (through : List LookupTable) (number : ℕ) (table : LookupTable) → AreAt tables numbers through → slice_get tables number ≡ Some table
    → AreAt tables (numbers ++ number ∷ []) (through ++ table ∷ [])
at_more tables numbers through number table at is = grind (arith, map-append)

-- the way through one table more
pub longer : (tables : List LookupTable) (numbers : List ℕ) (net from to number : ℕ) (table : LookupTable) → IsThrough tables net numbers to → slice_get tables number ≡ Some table → table.output ≡ net
    → IsIn table.inputs from → IsThrough tables from (numbers ++ number ∷ []) to
longer tables numbers net from to number table before is drives reads = grind (arith, extend, at_more tables numbers before.through number table before.at is, extend tables net from to before.through table before.way (number, is) drives reads)

-- before the first step back
pub not_yet : (tables : List LookupTable) (net : ℕ) → IsThrough tables net [] net
not_yet tables net = record { through = []; at = refl; way = refl }

-- one table leads from a net to a net that is one step farther
leads_on : (tables : List LookupTable) (reach : List Reach) (starts : List ℕ) (nets net from : ℕ) (table : LookupTable) → IsSettled nets tables starts reach → IsTable tables table → table.output ≡ net
    → IsIn table.inputs from → 0 < steps_to reach from → steps_to reach from + 1 ≤ steps_to reach net
leads_on tables reach starts nets net from table settled is drives reads reached = settled.settled from (table ∷ []) net reached (is, drives, (from, reads, refl))

-- a net that is two steps or more from the starts is led to
leads : (tables : List LookupTable) (reach : List Reach) (starts : List ℕ) (nets net steps start : ℕ) → IsSettled nets tables starts reach → steps_to reach net ≡ steps + 1 → 0 < steps
    → NoneLeads tables reach (length tables) net steps → 0 < steps_to reach start → (through : List LookupTable) → IsWay tables start through net → length through ≡ steps → ⊥
leads tables reach starts nets net steps start settled far_is some none reached [] way long = absurd (omega (arith, long, some))
leads tables reach starts nets net steps start settled far_is some none reached (table ∷ others) way long =
    let before : ℕ = way.2.0 in
    let reads : IsIn table.inputs before = way.2.1 in
    let a : steps_to reach start + length others ≤ steps_to reach before = settled.settled start others before reached way.2.2 in
    let count : length others + 1 ≡ steps = omega (arith, long) in
    let some_before : 0 < steps_to reach before = omega arith in
    let b : steps_to reach before + 1 ≤ steps_to reach net = leads_on tables reach starts nets net before table settled way.0 way.1 reads some_before in
    let same : steps_to reach before ≡ steps = omega arith in
    none way.0.0 table (slice_get_within tables way.0.0 table way.0.1) way.0.1 (record {
      drives = way.1;
      before = before;
      farthest = record {
        among = reads;
        reached = some_before;
        most = λ k within. elim (cases_lt 0 (steps_to reach (get_or table.inputs k 0))) [
          | inl other ↦ (let c : steps_to reach (get_or table.inputs k 0) + 1 ≤ steps_to reach net = leads_on tables reach starts nets net (get_or table.inputs k 0) table settled way.0 way.1 (k, within, refl) other in omega arith)
          | inr off ↦ omega arith
        ];
      };
      far = same;
    })

pub some_leads : (tables : List LookupTable) (reach : List Reach) (net steps : ℕ) → CanTrace tables reach → steps_to reach net ≡ steps + 1 → 0 < steps → NoneLeads tables reach (length tables) net steps → ⊥
some_leads tables reach net steps can far_is some none =
    let settled = can.1 in
    let found : IsFound tables can.0 net (reach_of reach net) = settled.found net (omega arith) in
    leads tables reach can.0 (length reach) net steps (reach_of reach net).start settled far_is some none (settled.started (reach_of reach net).start found.0) found.1.0 found.1.1
    (let e : length found.1.0 + 1 ≡ steps_to reach net = found.1.2 in omega arith)

-- none of no tables leads to it
pub none_first : (tables : List LookupTable) (reach : List Reach) (net steps : ℕ) → NoneLeads tables reach 0 net steps
none_first tables reach net steps number table few = absurd (omega arith)
