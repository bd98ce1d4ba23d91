-- A BLE that holds a table or a latch is known by the net that it drives.
use Rattle.implements.proofs.Prelude.{◌≡◌, ◌≢◌, ℕ, ◌+◌, ◌≤◌, Bool, true, false, ◌&&◌, ◌||◌, ◌==◌, not, List, [], ◌∷◌, ◌++◌, cond, map, Option, Some, None, sym, ap, refl, ◌∙◌, inl, inr, ◌⊎◌, subst, arith, Contains, count_by, find, flat_map, list_any, option_to_list, eqb-true, nat_tests, Circuit, Latch, IsCircuit, LookupTable, LogicElement, bles_of, element_of_latch, element_of_table, is_read_once, latch_after, reads_of, stands_alone, pairs_back, pairs_front, holds_latch, holds_table, is_pair, is_table}
use Rattle.implements.proofs.BleMembers.{IsOneOf, alone, from_bles, latch_in_bles, of_table, table_in_bles}
use Rattle.implements.proofs.BleKinds.{behind_is, latch_held, pair_held}
use Rattle.implements.proofs.Members.{from_any, from_filter, in_cases, in_none, to_any, to_map}
use Rattle.implements.proofs.Unique.{AreApart, count-append, count-cons, never_both, same_by, same_counted, some_counted}

-- of those that pass, one is found
find_some : {X : Type 0} (test : X → Bool) (xs : List X) (x : X) → Contains xs x → test x ≡ true → (y : X) × (find test xs ≡ Some y)
find_some test [] x c passes = absurd (in_none x c)
find_some {X} test (first ∷ xs) x c passes = by (λ later. find_some test xs x later passes) (test first) refl (in_cases first x xs c)
  where
    by : (Contains xs x → (y : X) × (find test xs ≡ Some y)) → (b : Bool) → test first ≡ b → (first ≡ x) ⊎ Contains xs x → (y : X) × (cond b (Some first) (find test xs) ≡ Some y)
    by rest true is at = (first, refl)
    by rest false is (inl e) = let wrong : false ≡ true = sym is ∙ ap test e ∙ passes in absurd cc
    by rest false is (inr later) = rest later

-- latches that store a net, counted
count_stored : (net : ℕ) (latches : List Latch) → count_by (λ (read : ℕ). read == net) (map (λ (latch : Latch). latch.input) latches) ≡ count_by (λ (latch : Latch). latch.input == net) latches
count_stored net [] = refl
count_stored net (latch ∷ latches) = search (count-cons, count_stored net latches, arith)

module _ (circuit : Circuit) where
  -- ---- what is read once

  abbrev of_tables : List ℕ
  of_tables = flat_map (λ (table : LookupTable). table.inputs) circuit.tables

  abbrev of_latches : List ℕ
  of_latches = map (λ (latch : Latch). latch.input) circuit.latches

  abbrev of_controls : List ℕ
  of_controls = flat_map (λ (latch : Latch). option_to_list latch.control) circuit.latches

  -- reads of a net, by where it is read
  count_reads : (net : ℕ) → count_by (λ (read : ℕ). read == net) (reads_of circuit)
      ≡ ((count_by (λ (read : ℕ). read == net) of_tables + count_by (λ (read : ℕ). read == net) of_latches) + count_by (λ (read : ℕ). read == net) of_controls) + count_by (λ (read : ℕ). read == net) circuit.outputs
  count_reads net = grind (arith, count-append)

  read_count : (net : ℕ) → is_read_once circuit net ≡ true → count_by (λ (read : ℕ). read == net) (reads_of circuit) ≡ 1
  read_count net once = eqb-true (count_by (λ (read : ℕ). read == net) (reads_of circuit)) 1 once

  -- a net that is read once, by a latch, is read by nothing else
  pub record IsReadElsewhere (net : ℕ) : Type 0 where
    pub place : Contains of_tables net ⊎ (Contains of_controls net ⊎ Contains circuit.outputs net)

  pub read_by_latch : (net : ℕ) (latch : Latch) → is_read_once circuit net ≡ true → Contains circuit.latches latch → latch.input ≡ net → IsReadElsewhere net → ⊥
  read_by_latch net latch once c is elsewhere = by elsewhere.place
    where
      test : ℕ → Bool
      test read = read == net

      passes : (net == net) ≡ true
      passes = grind (arith, nat_tests)

      stored : 1 ≤ count_by (λ (read : ℕ). read == net) of_latches
      stored = some_counted (λ (read : ℕ). read == net) of_latches net (subst (λ n. Contains of_latches n) is (to_map (λ (latch : Latch). latch.input) circuit.latches latch c)) passes

      by : Contains of_tables net ⊎ (Contains of_controls net ⊎ Contains circuit.outputs net) → ⊥
      by (inl d) = let more = some_counted (λ (read : ℕ). read == net) of_tables net d passes in omega (arith, more, stored, count_reads net, read_count net once)
      by (inr (inl d)) = let more = some_counted (λ (read : ℕ). read == net) of_controls net d passes in omega (arith, more, stored, count_reads net, read_count net once)
      by (inr (inr d)) = let more = some_counted (λ (read : ℕ). read == net) circuit.outputs net d passes in omega (arith, more, stored, count_reads net, read_count net once)

  -- it is stored by one latch
  one_reader : (net : ℕ) (latch other : Latch) → is_read_once circuit net ≡ true → Contains circuit.latches latch → latch.input ≡ net → Contains circuit.latches other → other.input ≡ net → latch ≡ other
  one_reader net latch other once c is d also =
      let few : count_by (λ (latch : Latch). latch.input == net) circuit.latches ≤ 1 = omega (arith, count_stored net circuit.latches, count_reads net, read_count net once) in
      same_counted (λ (latch : Latch). latch.input == net) circuit.latches latch other few c d (grind (arith, nat_tests, is)) (grind (arith, nat_tests, also))

  -- which is found
  pub behind_there : (net : ℕ) (latch : Latch) → is_read_once circuit net ≡ true → Contains circuit.latches latch → latch.input ≡ net → latch_after circuit net ≡ Some latch
  behind_there net latch once c is =
      let q = find_some (λ (latch : Latch). latch.input == net) circuit.latches latch c (grind (arith, nat_tests, is)) in
      let found : latch_after circuit net ≡ Some q.0 = ap (λ (b : Bool). cond b (find (λ (latch : Latch). latch.input == net) circuit.latches) None) once ∙ q.1 in
      let it = behind_is circuit net q.0 found in
      found ∙ ap (λ (l : Latch). Some l) (one_reader net q.0 latch once it.1.0 (eqb-true q.0.input net it.1.1) c is)

  -- ---- a BLE alone has each net

  module _ (lawful : IsCircuit circuit) where
    abbrev driven_by_tables : List ℕ
    driven_by_tables = map (λ (table : LookupTable). table.output) circuit.tables

    abbrev driven_by_latches : List ℕ
    driven_by_latches = map (λ (latch : Latch). latch.output) circuit.latches

    apart : AreApart (driven_by_tables ++ driven_by_latches)
    apart = pairs_back (λ net other. net ≢ other) circuit.inputs (driven_by_tables ++ driven_by_latches) lawful.driven_once

    never_driven_twice : (table : LookupTable) (latch : Latch) → Contains circuit.tables table → Contains circuit.latches latch → latch.output ≡ table.output → ⊥
    never_driven_twice table latch c d same =
        never_both driven_by_tables driven_by_latches table.output apart (to_map (λ (table : LookupTable). table.output) circuit.tables table c)
        (subst (λ net. Contains driven_by_latches net) same (to_map (λ (latch : Latch). latch.output) circuit.latches latch d))

    pub same_table : (table other : LookupTable) → Contains circuit.tables table → Contains circuit.tables other → table.output ≡ other.output → table ≡ other
    same_table table other c d same = same_by (λ (table : LookupTable). table.output) circuit.tables table other (pairs_front (λ net other. net ≢ other) driven_by_tables driven_by_latches apart) c d same

    -- what drives the net of a table is its BLE
    same_output : (element : LogicElement) (table : LookupTable) → Contains (bles_of circuit) element → Contains circuit.tables table → element.output ≡ table.output → element.output ≡ (of_table circuit table).output
    same_output element table c d same = by (from_bles circuit element c)
      where
        of : (other : LookupTable) → Contains circuit.tables other → (o : Option Latch) → latch_after circuit other.output ≡ o → (element_of_table other o).output ≡ table.output → other ≡ table
        of other e None is out = same_table other table e d out
        of other e (Some latch) is out = absurd (never_driven_twice table latch d (behind_is circuit other.output latch is).1.0 out)

        by : IsOneOf circuit circuit.tables (alone circuit) element → element.output ≡ (of_table circuit table).output
        by (inl t) =
            let it = of t.0 t.1 (latch_after circuit t.0.output) refl (ap (λ (e : LogicElement). e.output) t.2 ∙ same) in
            sym (ap (λ (e : LogicElement). e.output) t.2) ∙ ap (λ (t : LookupTable). (of_table circuit t).output) it
        by (inr l) = absurd (never_driven_twice table l.0 d (from_filter (stands_alone circuit) circuit.latches l.0 l.1).0 (ap (λ (e : LogicElement). e.output) l.2 ∙ same))

    pub table_out : (element : LogicElement) (table : LookupTable) → Contains (bles_of circuit) element → Contains circuit.tables table → holds_table circuit element table ≡ true → element.output ≡ (of_table circuit table).output
    table_out element table c d holds = by (is_table element table) refl
      where
        pair : (latch : Latch) → Contains circuit.latches latch → is_pair circuit element table latch ≡ true → element.output ≡ (of_table circuit table).output
        pair latch e is =
            let stored : (latch.input == table.output) ≡ true = grind (arith, is) in
            let once : is_read_once circuit table.output ≡ true = grind (arith, is) in
            let out : (element.output == latch.output) ≡ true = grind (arith, is) in
            let behind = behind_there table.output latch once e (eqb-true latch.input table.output stored) in
            eqb-true element.output latch.output out ∙ sym (ap (λ (o : Option Latch). (element_of_table table o).output) behind)

        by : (b : Bool) → is_table element table ≡ b → element.output ≡ (of_table circuit table).output
        by true is =
            let out : (element.output == table.output) ≡ true = grind (arith, is) in
            same_output element table c d (eqb-true element.output table.output out)
        by false is =
            let some : list_any (is_pair circuit element table) circuit.latches ≡ true = sym (ap (λ (b : Bool). b || list_any (is_pair circuit element table) circuit.latches) is) ∙ holds in
            let q = from_any (is_pair circuit element table) circuit.latches some in
            pair q.0 q.1 q.2

  pub latch_out : (element : LogicElement) (latch : Latch) → holds_latch circuit element latch ≡ true → element.output ≡ latch.output
  latch_out element latch holds = search (from_any, arith)

  -- the BLE that holds a latch
  pub latch_holder : (latch : Latch) → Contains circuit.latches latch → (element : LogicElement) × Contains (bles_of circuit) element × (holds_latch circuit element latch ≡ true)
  latch_holder latch c = by (is_read_once circuit latch.input) refl (list_any (λ (table : LookupTable). table.output == latch.input) circuit.tables) refl
    where
      lone : stands_alone circuit latch ≡ true → (element : LogicElement) × Contains (bles_of circuit) element × (holds_latch circuit element latch ≡ true)
      lone is = (element_of_latch latch, latch_in_bles circuit latch c is, ap (λ (b : Bool). b || list_any (λ table. is_pair circuit (element_of_latch latch) table latch) circuit.tables) (latch_held circuit latch))

      by : (a : Bool) → is_read_once circuit latch.input ≡ a → (b : Bool) → list_any (λ (table : LookupTable). table.output == latch.input) circuit.tables ≡ b →
          (element : LogicElement) × Contains (bles_of circuit) element × (holds_latch circuit element latch ≡ true)
      by false is b eq = lone (ap (λ (a : Bool). not (a && list_any (λ (table : LookupTable). table.output == latch.input) circuit.tables)) is)
      by true is false eq = lone (ap (λ (a : Bool). not (a && list_any (λ (table : LookupTable). table.output == latch.input) circuit.tables)) is ∙ ap not eq)
      by true is true eq =
          let q = from_any (λ (table : LookupTable). table.output == latch.input) circuit.tables eq in
          let same : q.0.output ≡ latch.input = eqb-true q.0.output latch.input q.2 in
          let behind : latch_after circuit q.0.output ≡ Some latch = behind_there q.0.output latch (ap (is_read_once circuit) same ∙ is) c (sym same) in
          let pair = pair_held circuit q.0 latch behind in
          let element = element_of_table q.0 (Some latch) in
          let some = to_any (λ (table : LookupTable). is_pair circuit element table latch) circuit.tables q.0 q.1 pair in
          let holds : holds_latch circuit element latch ≡ true = grind (arith, some) in
          let in' : Contains (bles_of circuit) element = subst (λ (o : Option Latch). Contains (bles_of circuit) (element_of_table q.0 o)) behind (table_in_bles circuit q.0 q.1) in
          (element, in', holds)
