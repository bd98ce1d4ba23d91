-- In a layout that implements a lawful circuit no two blocks drive one net.
use Rattle.layout_check.proofs.Prelude.{◌≡◌, ◌≢◌, ℕ, zero, suc, ◌≤◌, Bool, true, false, ◌||◌, List, [], ◌∷◌, ◌++◌, Some, map, eqb, slice_get, sym, ap, refl, ◌∙◌, eq-eqb, subst, arith, inl, inr, ◌⊎◌, All, Contains, count_by, flat_map, list_any, and_parts, eqb-true, false≢true, All-contains, All-head, All-tail, Arch, Circuit, Latch, IsCircuit, LookupTable, LogicElement, Block, InputPad, OutputPad, Cluster, pairs_back, pairs_front, pairs_head, pairs_tail, Strip, holds_latch, holds_table, is_latch, is_pair, is_table, Implements, drives, drives_as, input_at, leaves_as, LaidBlock, Layout, traced_ble, traced_bles, from_any, from_get, in_first, to_any, to_append_left, to_append_right, to_flat_map, to_map, AreApart, count-append, count-no, count-yes, never_both, same_by, some_counted}

pub or_cases : (a b : Bool) → (a || b) ≡ true → (a ≡ true) ⊎ (b ≡ true)
or_cases a b h = grind arith

pub or_left : (a b : Bool) → a ≡ true → (a || b) ≡ true
or_left a b h = ap (λ x. x || b) h

pub or_right : (a b : Bool) → b ≡ true → (a || b) ≡ true
or_right a b h = grind arith

-- ---- members of two parts of a list

part_counted : {X Y : Type 0} (f : X → List Y) (test : Y → Bool) (xs : List X) (j : ℕ) (y : X) → slice_get xs j ≡ Some y → 1 ≤ count_by test (f y) → 1 ≤ count_by test (flat_map f xs)
part_counted f test [] j y at one = absurd cc
part_counted f test (x ∷ xs) zero y at one = grind (arith, count-append)
part_counted f test (x ∷ xs) (suc j) y at one = grind (arith, count-append, part_counted f test xs j y)

pub two_counted : {X Y : Type 0} (f : X → List Y) (test : Y → Bool) (xs : List X) (i j : ℕ) (x y : X) → i ≢ j → slice_get xs i ≡ Some x → slice_get xs j ≡ Some y → 1 ≤ count_by test (f x) → 1 ≤ count_by test (f y) →
    2 ≤ count_by test (flat_map f xs)
two_counted f test [] i j x y differ a b one two = absurd cc
two_counted f test (z ∷ xs) zero zero x y differ a b one two = absurd (differ refl)
two_counted f test (z ∷ xs) zero (suc j) x y differ a b one two = grind (arith, part_counted, count-append)
two_counted f test (z ∷ xs) (suc i) zero x y differ a b one two = grind (arith, part_counted, count-append)
two_counted f test (z ∷ xs) (suc i) (suc j) x y differ a b one two =
    let rest = two_counted f test xs i j x y (λ e. differ (ap (λ n. suc n) e)) a b one two in
    let all = count-append test (f z) (flat_map f xs) in
    omega (arith, rest, all)

-- a net that occurs once
none_in : (first net : ℕ) → eqb first net ≡ true → (some : List ℕ) → All (λ n. first ≢ n) some → count_by (λ n. eqb n net) some ≡ 0
none_in first net is [] apart = refl
none_in first net is (n ∷ some) apart = grind (arith, All-head, none_in first net is some (All-tail (λ n. first ≢ n) n some apart))

pub once_counted : (nets : List ℕ) (net : ℕ) → AreApart nets → count_by (λ n. eqb n net) nets ≤ 1
once_counted [] net apart = omega arith
once_counted (first ∷ nets) net apart = by (once_counted nets net (pairs_tail (λ net other. net ≢ other) first nets apart)) (eqb first net) refl
  where
    by : count_by (λ n. eqb n net) nets ≤ 1 → (b : Bool) → eqb first net ≡ b → count_by (λ n. eqb n net) (first ∷ nets) ≤ 1
    by rest true is =
        let none = none_in first net is nets (pairs_head (λ net other. net ≢ other) first nets apart) in
        let all = count-yes (λ n. eqb n net) first nets is in
        omega (arith, none, all)
    by rest false is = let all = count-no (λ n. eqb n net) first nets is in omega (arith, rest, all)

-- ---- what a BLE holds

-- a BLE that drives the net is its table, or holds its latch
pub record IsTableOf (circuit : Circuit) (net : ℕ) (element : LogicElement) : Type 0 where
  pub table : LookupTable
  pub there : Contains circuit.tables table
  pub is : is_table element table ≡ true
  pub drives_it : table.output ≡ net

pub record IsLatchOf (circuit : Circuit) (net : ℕ) (element : LogicElement) : Type 0 where
  pub latch : Latch
  pub there : Contains circuit.latches latch
  pub holds : holds_latch circuit element latch ≡ true
  pub drives_it : latch.output ≡ net

table_output : (element : LogicElement) (table : LookupTable) → is_table element table ≡ true → element.output ≡ table.output
table_output element table is = eqb-true element.output table.output (and_parts (eqb element.output table.output) _ is).0

latch_output : (element : LogicElement) (latch : Latch) → is_latch element latch ≡ true → element.output ≡ latch.output
latch_output element latch is = eqb-true element.output latch.output (and_parts (eqb element.output latch.output) _ is).0

pair_output : (circuit : Circuit) (element : LogicElement) (table : LookupTable) (latch : Latch) → is_pair circuit element table latch ≡ true → element.output ≡ latch.output
pair_output circuit element table latch is = grind arith

by_table : (circuit : Circuit) (net : ℕ) (element : LogicElement) → element.output ≡ net → (table : LookupTable) → Contains circuit.tables table → holds_table circuit element table ≡ true → IsTableOf circuit net element ⊎ IsLatchOf circuit net element
by_table circuit net element out table c h = elim (or_cases (is_table element table) (list_any (is_pair circuit element table) circuit.latches) h) [
  | inl is ↦ inl (record { table = table; there = c; is = is; drives_it = sym (table_output element table is) ∙ out })
  | inr pairs ↦
      (let q = from_any (is_pair circuit element table) circuit.latches pairs in
      inr (record {
        latch = q.0;
        there = q.1;
        holds = or_right (is_latch element q.0) (list_any (λ table. is_pair circuit element table q.0) circuit.tables) (to_any (λ table. is_pair circuit element table q.0) circuit.tables table c q.2);
        drives_it = sym (pair_output circuit element table q.0 q.2) ∙ out;
      }))
]

by_latch : (circuit : Circuit) (net : ℕ) (element : LogicElement) → element.output ≡ net → (latch : Latch) → Contains circuit.latches latch → holds_latch circuit element latch ≡ true → IsLatchOf circuit net element
by_latch circuit net element out latch c h = grind (arith, or_cases, from_any, pair_output)

held_by : (circuit : Circuit) (net : ℕ) (element : LogicElement) → element.output ≡ net → (list_any (holds_table circuit element) circuit.tables || list_any (holds_latch circuit element) circuit.latches) ≡ true →
    IsTableOf circuit net element ⊎ IsLatchOf circuit net element
held_by circuit net element out h = elim (or_cases (list_any (holds_table circuit element) circuit.tables) (list_any (holds_latch circuit element) circuit.latches) h) [
  | inl tables ↦ (let q = from_any (holds_table circuit element) circuit.tables tables in by_table circuit net element out q.0 q.1 q.2)
  | inr latches ↦ (let q = from_any (holds_latch circuit element) circuit.latches latches in inr (by_latch circuit net element out q.0 q.1 q.2))
]

-- ---- what drives a net

-- a BLE of the block drives the net
pub record HasBle (arch : Arch) (net : ℕ) (laid : LaidBlock) : Type 0 where
  pub element : LogicElement
  pub inside : Contains (map (traced_ble arch laid) laid.bles) element
  pub out : element.output ≡ net

driver_kind : (arch : Arch) (net : ℕ) (laid : LaidBlock) → drives net laid ≡ true → (laid.block ≡ InputPad net) ⊎ HasBle arch net laid
driver_kind arch net laid h = by laid.block refl h
  where
    by : (b : Block) → laid.block ≡ b → drives_as net laid b ≡ true → (laid.block ≡ InputPad net) ⊎ HasBle arch net laid
    by (InputPad input) e d = inl (e ∙ ap InputPad (eqb-true input net d))
    by (OutputPad output) e d = absurd (false≢true d)
    by (Cluster number) e d =
        let q = from_any (leaves_as net) laid.bles d in
        inr (record {
          element = traced_ble arch laid q.0;
          inside = to_map (traced_ble arch laid) laid.bles q.0 q.1;
          out = eqb-true q.0.name net (and_parts (eqb q.0.name net) _ q.2).0;
        })

module _ (circuit : Circuit) (lawful : IsCircuit circuit) (arch : Arch) (strip : Strip) (layout : Layout) (is : Implements circuit arch strip layout) (net : ℕ) where
  abbrev by_tables : List ℕ
  by_tables = map (λ (table : LookupTable). table.output) circuit.tables

  abbrev by_latches : List ℕ
  by_latches = map (λ (latch : Latch). latch.output) circuit.latches

  apart : AreApart (by_tables ++ by_latches)
  apart = pairs_back (λ net other. net ≢ other) circuit.inputs (by_tables ++ by_latches) lawful.driven_once

  kind : (i : ℕ) (laid : LaidBlock) → slice_get layout.blocks i ≡ Some laid → (ble : HasBle arch net laid) → IsTableOf circuit net ble.element ⊎ IsLatchOf circuit net ble.element
  kind i laid at ble =
      held_by circuit net ble.element ble.out
      (All-contains (λ element. (list_any (holds_table circuit element) circuit.tables || list_any (holds_latch circuit element) circuit.latches) ≡ true) (traced_bles arch layout) ble.element is.held.each
      (to_flat_map (λ (block : LaidBlock). map (traced_ble arch block) block.bles) layout.blocks laid ble.element (from_get layout.blocks i laid at).1 ble.inside))

  in_nets : (laid : LaidBlock) (ble : HasBle arch net laid) → IsTableOf circuit net ble.element ⊎ IsLatchOf circuit net ble.element → Contains (by_tables ++ by_latches) net
  in_nets laid ble (inl t) = to_append_left by_tables by_latches net (subst (λ n. Contains by_tables n) t.drives_it (to_map (λ (table : LookupTable). table.output) circuit.tables t.table t.there))
  in_nets laid ble (inr l) = to_append_right by_tables by_latches net (subst (λ n. Contains by_latches n) l.drives_it (to_map (λ (latch : Latch). latch.output) circuit.latches l.latch l.there))

  two_bles : (i j : ℕ) (a b : LaidBlock) → i ≢ j → slice_get layout.blocks i ≡ Some a → slice_get layout.blocks j ≡ Some b → (one : HasBle arch net a) (two : HasBle arch net b) →
      IsTableOf circuit net one.element ⊎ IsLatchOf circuit net one.element → IsTableOf circuit net two.element ⊎ IsLatchOf circuit net two.element → ⊥
  two_bles i j a b differ at bt one two (inl t) (inl u) =
      let same : u.table ≡ t.table =
      same_by (λ (table : LookupTable). table.output) circuit.tables u.table t.table (pairs_front (λ net other. net ≢ other) by_tables by_latches apart) u.there t.there (u.drives_it ∙ sym t.drives_it) in
      let test : LogicElement → Bool = λ element. holds_table circuit element t.table in
      let first = some_counted test (map (traced_ble arch a) a.bles) one.element one.inside (or_left (is_table one.element t.table) (list_any (is_pair circuit one.element t.table) circuit.latches) t.is) in
      let second = some_counted test (map (traced_ble arch b) b.bles) two.element two.inside
      (or_left (is_table two.element t.table) (list_any (is_pair circuit two.element t.table) circuit.latches) (subst (λ (table : LookupTable). is_table two.element table ≡ true) same u.is)) in
      let many = two_counted (λ (block : LaidBlock). map (traced_ble arch block) block.bles) test layout.blocks i j a b differ at bt first second in
      let few = All-contains (λ (table : LookupTable). count_by (λ element. holds_table circuit element table) (traced_bles arch layout) ≡ 1) circuit.tables t.table is.held.tables t.there in
      omega (arith, many, few)
  two_bles i j a b differ at bt one two (inr t) (inr u) =
      let same : u.latch ≡ t.latch =
      same_by (λ (latch : Latch). latch.output) circuit.latches u.latch t.latch (pairs_back (λ net other. net ≢ other) by_tables by_latches apart) u.there t.there (u.drives_it ∙ sym t.drives_it) in
      let test : LogicElement → Bool = λ element. holds_latch circuit element t.latch in
      let first = some_counted test (map (traced_ble arch a) a.bles) one.element one.inside t.holds in
      let second = some_counted test (map (traced_ble arch b) b.bles) two.element two.inside (subst (λ (latch : Latch). holds_latch circuit two.element latch ≡ true) same u.holds) in
      let many = two_counted (λ (block : LaidBlock). map (traced_ble arch block) block.bles) test layout.blocks i j a b differ at bt first second in
      let few = All-contains (λ (latch : Latch). count_by (λ element. holds_latch circuit element latch) (traced_bles arch layout) ≡ 1) circuit.latches t.latch is.held.latches t.there in
      omega (arith, many, few)
  two_bles i j a b differ at bt one two (inl t) (inr u) =
      never_both by_tables by_latches net apart (subst (λ n. Contains by_tables n) t.drives_it (to_map (λ (table : LookupTable). table.output) circuit.tables t.table t.there))
      (subst (λ n. Contains by_latches n) u.drives_it (to_map (λ (latch : Latch). latch.output) circuit.latches u.latch u.there))
  two_bles i j a b differ at bt one two (inr t) (inl u) =
      never_both by_tables by_latches net apart (subst (λ n. Contains by_tables n) u.drives_it (to_map (λ (table : LookupTable). table.output) circuit.tables u.table u.there))
      (subst (λ n. Contains by_latches n) t.drives_it (to_map (λ (latch : Latch). latch.output) circuit.latches t.latch t.there))

  pad_in : (laid : LaidBlock) → laid.block ≡ InputPad net → Contains (input_at laid.block) net
  pad_in laid e = subst (λ (b : Block). Contains (input_at b) net) (sym e) (in_first net [])

  pad_net : (i : ℕ) (laid : LaidBlock) → slice_get layout.blocks i ≡ Some laid → laid.block ≡ InputPad net → Contains circuit.inputs net
  pad_net i laid at e = subst (λ ns. Contains ns net) is.inputs (to_flat_map (λ (block : LaidBlock). input_at block.block) layout.blocks laid net (from_get layout.blocks i laid at).1 (pad_in laid e))

  pad_and_ble : (i j : ℕ) (a b : LaidBlock) → slice_get layout.blocks i ≡ Some a → slice_get layout.blocks j ≡ Some b → a.block ≡ InputPad net → HasBle arch net b → ⊥
  pad_and_ble i j a b at bt pad ble = never_both circuit.inputs (by_tables ++ by_latches) net lawful.driven_once (pad_net i a at pad) (in_nets b ble (kind j b bt ble))

  two_pads : (i j : ℕ) (a b : LaidBlock) → i ≢ j → slice_get layout.blocks i ≡ Some a → slice_get layout.blocks j ≡ Some b → a.block ≡ InputPad net → b.block ≡ InputPad net → ⊥
  two_pads i j a b differ at bt one two =
      let test : ℕ → Bool = λ n. eqb n net in
      let passes : test net ≡ true = eq-eqb net net refl in
      let many = two_counted (λ (block : LaidBlock). input_at block.block) test layout.blocks i j a b differ at bt (some_counted test (input_at a.block) net (pad_in a one) passes) (some_counted test (input_at b.block) net (pad_in b two) passes) in
      let few = once_counted circuit.inputs net (pairs_front (λ net other. net ≢ other) circuit.inputs (by_tables ++ by_latches) lawful.driven_once) in
      let same : count_by test (flat_map (λ (block : LaidBlock). input_at block.block) layout.blocks) ≡ count_by test circuit.inputs = ap (count_by test) is.inputs in
      omega (arith, many, few, same)

  -- no two blocks drive the net
  pub one_driver : (i j : ℕ) (a b : LaidBlock) → i ≢ j → slice_get layout.blocks i ≡ Some a → slice_get layout.blocks j ≡ Some b → drives net a ≡ true → drives net b ≡ true → ⊥
  one_driver i j a b differ at bt one two = by (driver_kind arch net a one) (driver_kind arch net b two)
    where
      by : (a.block ≡ InputPad net) ⊎ HasBle arch net a → (b.block ≡ InputPad net) ⊎ HasBle arch net b → ⊥
      by (inl p) (inl q) = two_pads i j a b differ at bt p q
      by (inl p) (inr q) = pad_and_ble i j a b at bt p q
      by (inr p) (inl q) = pad_and_ble j i b a bt at q p
      by (inr p) (inr q) = two_bles i j a b differ at bt p q (kind i a at p) (kind j b bt q)
