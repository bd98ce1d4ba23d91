-- No two BLEs drive the same net.
use Rattle.cluster.proofs.Prelude.{◌≡◌, ◌≢◌, ℕ, suc, zero, ◌<◌, ◌⊎◌, inl, inr, Bool, true, false, not, cond, ◌&&◌, ◌==◌, nat_eq, List, [], ◌∷◌, ◌++◌, Option, Some, None, All, filter, find, drop, length, get_or, map, refl, sym, ap, subst, ◌∙◌, arith, AllPairs, list_any, prefix_len, take_while, IsPermutation, cases_order, Decides-eqb, nat_tests, append_assoc, get_or_default, map-append, take-append-drop, All-cons, All-filter, All-head, All-map, All-nil, All-tail, filter_passes, AllPairs-filter, IsPermutation-append_comm, IsPermutation-append_left, IsPermutation-append_right, IsPermutation-cons, IsPermutation-middle, IsPermutation-refl, IsPermutation-sym, IsPermutation-trans, IsDistinct-IsPermutation, AllPairs-from_IsDistinct, IsDistinct-from_AllPairs, nat_eq_equiv, Circuit, Latch, LookupTable, IsCircuit, LogicElement, bles_of, element_of_latch, element_of_table, in_line_order, is_read_once, latch_after, stands_alone, is_above, outputs_of}
use Rattle.cluster.proofs.Pairs.{pairs_across, pairs_append, pairs_back, pairs_front, pairs_map, pairs_of_map, pairs_with}

-- the net that a table drives, itself or through the latch that stores its output
abbrev out : Circuit → LookupTable → ℕ
out circuit table = (element_of_table table (latch_after circuit table.output)).output

abbrev latch_out : Latch → ℕ
latch_out latch = latch.output

lone_outputs : (latches : List Latch) → outputs_of (map element_of_latch latches) ≡ map latch_out latches
lone_outputs [] = refl
lone_outputs (latch ∷ latches) = ap (λ rest. latch.output ∷ rest) (lone_outputs latches)

-- in another order: the nets that tables drive, and then those that latches drive
in_order : (circuit : Circuit) (tables : List LookupTable) (latches : List Latch) → IsPermutation (outputs_of (in_line_order circuit tables latches)) (map (out circuit) tables ++ map latch_out latches)
in_order circuit [] latches = rw (lone_outputs latches) (IsPermutation-refl (map latch_out latches))
in_order circuit (table ∷ tables) latches =
    let early = take_while (is_above table.line) latches in
    let late = drop (prefix_len (is_above table.line) latches) latches in
    let rest = in_line_order circuit tables late in
    let first = out circuit table in
    let behind = map (out circuit) tables in
    let both : early ++ late ≡ latches = take-append-drop (prefix_len (is_above table.line) latches) latches in
    let parts : outputs_of (map element_of_latch early ++ element_of_table table (latch_after circuit table.output) ∷ rest) ≡ map latch_out early ++ first ∷ outputs_of rest =
    map-append (λ (e : LogicElement). e.output) (map element_of_latch early) (element_of_table table (latch_after circuit table.output) ∷ rest) ∙ ap (λ front. front ++ first ∷ outputs_of rest) (lone_outputs early) in
    let front = IsPermutation-middle (map latch_out early) first (outputs_of rest) in
    let later = IsPermutation-append_right (map latch_out early) (outputs_of rest) (behind ++ map latch_out late) (in_order circuit tables late) in
    let swapped : IsPermutation ((map latch_out early ++ behind) ++ map latch_out late) ((behind ++ map latch_out early) ++ map latch_out late) = IsPermutation-append_left (map latch_out late) (map latch_out early ++ behind) (behind ++ map latch_out early) (IsPermutation-append_comm (map latch_out early) behind) in
    let left : map latch_out early ++ (behind ++ map latch_out late) ≡ (map latch_out early ++ behind) ++ map latch_out late = sym (append_assoc (map latch_out early) behind (map latch_out late)) in
    let right : (behind ++ map latch_out early) ++ map latch_out late ≡ behind ++ map latch_out latches = append_assoc behind (map latch_out early) (map latch_out late) ∙ ap (λ rest. behind ++ rest) (sym (map-append latch_out early late) ∙ ap (map latch_out) both) in
    let moved : IsPermutation (map latch_out early ++ outputs_of rest) (behind ++ map latch_out latches) =
    IsPermutation-trans _ _ _ later (subst (λ xs. IsPermutation xs (behind ++ map latch_out latches)) (sym left) (subst (λ ys. IsPermutation ((map latch_out early ++ behind) ++ map latch_out late) ys) right swapped)) in
    subst (λ xs. IsPermutation xs (first ∷ (behind ++ map latch_out latches))) (sym parts) (IsPermutation-trans _ _ _ front (IsPermutation-cons first _ _ moved))

-- an element that is found is in the list, and passes
find_in : {X : Type 0} (p : X → Bool) (xs : List X) (x : X) → find p xs ≡ Some x → ((k : ℕ) × (k < length xs) × (get_or xs k x ≡ x)) × (p x ≡ true)
find_in p [] x is = absurd cc
find_in p (first ∷ xs) x is = by (p first) refl (find_in p xs x)
  where
    by : (b : Bool) → p first ≡ b → (find p xs ≡ Some x → ((k : ℕ) × (k < length xs) × (get_or xs k x ≡ x)) × (p x ≡ true)) → ((k : ℕ) × (k < length (first ∷ xs)) × (get_or (first ∷ xs) k x ≡ x)) × (p x ≡ true)
    by true passes rest = (let same : first ≡ x = (let e : Some first ≡ Some x = sym (ap (λ (b : Bool). cond b (Some first) (find p xs)) passes) ∙ is in cc) in ((0, omega arith, same), ap p (sym same) ∙ passes))
    by false fails rest = (let r = rest (sym (ap (λ (b : Bool). cond b (Some first) (find p xs)) fails) ∙ is) in ((suc r.0.0, omega (arith, r.0.1), r.0.2), r.1))

abbrev IsIn : {X : Type 0} → List X → X → Type 0
IsIn {X} xs x = (k : ℕ) × (k < length xs) × ((d : X) → get_or xs k d ≡ x)

module _ (circuit : Circuit) (lawful : IsCircuit circuit) where
  driven : AllPairs (λ net other. net ≢ other) (map (λ (table : LookupTable). table.output) circuit.tables ++ map latch_out circuit.latches)
  driven = pairs_back (λ net other. net ≢ other) circuit.inputs _ lawful.driven_once

  tables_apart : AllPairs (λ (table other : LookupTable). table.output ≢ other.output) circuit.tables
  tables_apart = pairs_of_map (λ net other. net ≢ other) (λ (table : LookupTable). table.output) circuit.tables (pairs_front (λ net other. net ≢ other) (map (λ (table : LookupTable). table.output) circuit.tables) (map latch_out circuit.latches) driven)

  latches_apart : AllPairs (λ (latch other : Latch). latch.output ≢ other.output) circuit.latches
  latches_apart = pairs_of_map (λ net other. net ≢ other) latch_out circuit.latches (pairs_back (λ net other. net ≢ other) (map (λ (table : LookupTable). table.output) circuit.tables) (map latch_out circuit.latches) driven)

  -- an element of a list has a property that all have
  kept_in : {X : Type 0} (P : X → Type 0) (xs : List X) (x : X) → All P xs → IsIn xs x → P x
  kept_in P xs x all in' = subst P (in'.2 x) (all in'.0 x in'.1)

  all_of_map : {X : Type 0} (P : ℕ → Type 0) (f : X → ℕ) (xs : List X) → All P (map f xs) → All (λ x. P (f x)) xs
  all_of_map P f [] all = All-nil (λ x. P (f x))
  all_of_map P f (x ∷ xs) all = All-cons (λ x. P (f x)) x xs (All-head P (f x) (map f xs) all) (all_of_map P f xs (All-tail P (f x) (map f xs) all))

  across : (table : LookupTable) (latch : Latch) → IsIn circuit.tables table → IsIn circuit.latches latch → table.output ≢ latch.output
  across table latch in_tables in_latches =
      let all = pairs_across (λ net other. net ≢ other) (map (λ (table : LookupTable). table.output) circuit.tables) (map latch_out circuit.latches) driven in
      let of = kept_in (λ (t : LookupTable). All (λ net. t.output ≢ net) (map latch_out circuit.latches)) circuit.tables table (all_of_map (λ net. All (λ other. net ≢ other) (map latch_out circuit.latches)) (λ (t : LookupTable). t.output) circuit.tables all) in_tables in
      kept_in (λ (l : Latch). table.output ≢ l.output) circuit.latches latch (all_of_map (λ net. table.output ≢ net) latch_out circuit.latches of) in_latches

  one_latch : (latch other : Latch) → IsIn circuit.latches latch → IsIn circuit.latches other → latch.output ≡ other.output → latch ≡ other
  one_latch latch other in_one in_other same = by (cases_order in_one.0 in_other.0)
    where
      by : (in_one.0 ≡ in_other.0) ⊎ ((in_one.0 < in_other.0) ⊎ (in_other.0 < in_one.0)) → latch ≡ other
      by (inl e) = sym (in_one.2 latch) ∙ (ap (λ k. get_or circuit.latches k latch) e ∙ in_other.2 latch)
      by (inr (inl less)) = absurd (latches_apart in_one.0 in_other.0 latch less in_other.1 (ap latch_out (in_one.2 latch) ∙ (same ∙ sym (ap latch_out (in_other.2 latch)))))
      by (inr (inr more)) = absurd (latches_apart in_other.0 in_one.0 latch more in_one.1 (ap latch_out (in_other.2 latch) ∙ (sym same ∙ sym (ap latch_out (in_one.2 latch)))))

  -- the latch that stores a table's output
  pub record IsBehind (net : ℕ) (latch : Latch) : Type 0 where
    pub there : IsIn circuit.latches latch
    pub input : latch.input ≡ net
    pub once : is_read_once circuit net ≡ true

  behind : (net : ℕ) (latch : Latch) → latch_after circuit net ≡ Some latch → IsBehind net latch
  behind net latch is = grind (arith, find_in, get_or_default)

  -- two tables drive different nets
  tables_differ : (table other : LookupTable) → IsIn circuit.tables table → IsIn circuit.tables other → table.output ≢ other.output → out circuit table ≢ out circuit other
  tables_differ table other in_one in_other differs = by (latch_after circuit table.output) refl (latch_after circuit other.output) refl
    where
      by : (a : Option Latch) → latch_after circuit table.output ≡ a → (b : Option Latch) → latch_after circuit other.output ≡ b → out circuit table ≢ out circuit other
      by None is None also same = differs (sym (ap (λ (o : Option Latch). (element_of_table table o).output) is) ∙ (same ∙ ap (λ (o : Option Latch). (element_of_table other o).output) also))
      by None is (Some latch) also same =
          across table latch in_one (behind other.output latch also).there (sym (ap (λ (o : Option Latch). (element_of_table table o).output) is) ∙ (same ∙ ap (λ (o : Option Latch). (element_of_table other o).output) also))
      by (Some latch) is None also same =
          across other latch in_other (behind table.output latch is).there (sym (ap (λ (o : Option Latch). (element_of_table other o).output) also) ∙ (sym same ∙ ap (λ (o : Option Latch). (element_of_table table o).output) is))
      by (Some latch) is (Some second) also same =
          let one = behind table.output latch is in
          let two = behind other.output second also in
          let outputs : latch.output ≡ second.output = sym (ap (λ (o : Option Latch). (element_of_table table o).output) is) ∙ (same ∙ ap (λ (o : Option Latch). (element_of_table other o).output) also) in
          differs (sym one.input ∙ (ap (λ (l : Latch). l.input) (one_latch latch second one.there two.there outputs) ∙ two.input))

  -- a latch that isn't joined with a table drives a net that no table's BLE drives
  alone_differs : (table : LookupTable) (latch : Latch) → IsIn circuit.tables table → IsIn circuit.latches latch → stands_alone circuit latch ≡ true → out circuit table ≢ latch.output
  alone_differs table latch in_tables in_latches alone = by (latch_after circuit table.output) refl
    where
      any_of : (tables : List LookupTable) (k : ℕ) (net : ℕ) (d : LookupTable) → k < length tables → (get_or tables k d).output ≡ net → list_any (λ (t : LookupTable). t.output == net) tables ≡ true
      any_of [] k net d lt is = absurd (omega (arith, lt))
      any_of (first ∷ tables) zero net d lt is = grind (arith, nat_tests, is)
      any_of (first ∷ tables) (suc k) net d lt is = (let rest = any_of tables k net d (omega (arith, lt)) is in grind (arith, rest))

      by : (a : Option Latch) → latch_after circuit table.output ≡ a → out circuit table ≢ latch.output
      by None is same = across table latch in_tables in_latches (sym (ap (λ (o : Option Latch). (element_of_table table o).output) is) ∙ same)
      by (Some second) is same =
          let one = behind table.output second is in
          let outputs : second.output ≡ latch.output = sym (ap (λ (o : Option Latch). (element_of_table table o).output) is) ∙ same in
          let it : second ≡ latch = one_latch second latch one.there in_latches outputs in
          let input : latch.input ≡ table.output = sym (ap (λ (l : Latch). l.input) it) ∙ one.input in
          let once : is_read_once circuit latch.input ≡ true = ap (is_read_once circuit) input ∙ one.once in
          let any : list_any (λ (t : LookupTable). t.output == latch.input) circuit.tables ≡ true = any_of circuit.tables in_tables.0 latch.input table in_tables.1 (ap (λ (t : LookupTable). t.output) (in_tables.2 table) ∙ sym input) in
          let wrong : false ≡ true = sym (ap (λ (b : Bool). not (b && list_any (λ (t : LookupTable). t.output == latch.input) circuit.tables)) once ∙ ap not any) ∙ alone in
          absurd cc

  all_in : {X : Type 0} (xs : List X) → All (IsIn xs) xs
  all_in xs k e lt = (k, lt, λ d. get_or_default xs k d e lt)

  alone : List Latch
  alone = filter (stands_alone circuit) circuit.latches

  -- no two BLEs drive the same net
  pub outputs_apart : AllPairs (λ net other. net ≢ other) (outputs_of (bles_of circuit))
  unfolding bles_of alone
  outputs_apart =
      let R : ℕ → ℕ → Type 0 = λ net other. net ≢ other in
      let tables : AllPairs R (map (out circuit) circuit.tables) = pairs_map R (out circuit) circuit.tables (pairs_with (IsIn circuit.tables) (λ (table other : LookupTable). table.output ≢ other.output) (λ (table other : LookupTable). out circuit table ≢ out circuit other) circuit.tables (all_in circuit.tables) tables_apart tables_differ) in
      let lone : AllPairs R (map latch_out alone) = pairs_map R latch_out alone (AllPairs-filter (λ (latch other : Latch). latch.output ≢ other.output) (stands_alone circuit) circuit.latches latches_apart) in
      let inside : All (IsIn circuit.latches) alone = All-filter (stands_alone circuit) (IsIn circuit.latches) circuit.latches (all_in circuit.latches) in
      let apart : All (λ net. All (R net) (map latch_out alone)) (map (out circuit) circuit.tables) =
      All-map (λ net. All (R net) (map latch_out alone)) (out circuit) circuit.tables
      (λ k d lt. All-map (R (out circuit (get_or circuit.tables k d))) latch_out alone
      (λ j e small. alone_differs (get_or circuit.tables k d) (get_or alone j e) (all_in circuit.tables k d lt) (inside j e small) (filter_passes (stands_alone circuit) circuit.latches j e small))) in
      let all : AllPairs R (map (out circuit) circuit.tables ++ map latch_out alone) = pairs_append R (map (out circuit) circuit.tables) (map latch_out alone) tables lone apart in
      AllPairs-from_IsDistinct Decides-eqb _ (IsDistinct-IsPermutation nat_eq nat_eq_equiv.symm _ _ (IsPermutation-sym _ _ (in_order circuit circuit.tables alone)) (IsDistinct-from_AllPairs Decides-eqb _ all))
