-- Ways through tables, and loops.
use Rattle.longest_path.proofs.Prelude.{ℕ, ◌≡◌, ◌<◌, ◌≤◌, ◌∙◌, Bool, true, false, List, [], ◌∷◌, length, map, eqb, ◌||◌, ◌⊎◌, inl, inr, sym, refl, ap, subst, arith, suc, IsDistinct, AllByRecursion, list_any, eqb_tells, length-le_from_distinct_below, LookupTable, HasLoop, IsTable, IsWay}

-- the nets that tables drive
abbrev pub outputs : List LookupTable → List ℕ
outputs through = map (λ table. table.output) through

-- a way has an end: from the output of each of its tables a way leads on to its end
cut : (tables : List LookupTable) (n from : ℕ) (through : List LookupTable) (to : ℕ) → IsWay tables from through to → list_any (eqb n) (outputs through) ≡ true
    → (later : List LookupTable) × IsWay tables n later to
cut tables n from [] to way h = absurd (grind arith)
cut tables n from (table ∷ others) to way h =
    elim (eqb_tells n table.output) [
      | inl here ↦ ([], here.1 ∙ way.1)
      | inr off ↦
          let net : ℕ = way.2.0 in
          let rest : (later : List LookupTable) × IsWay tables n later net = cut tables n from others net way.2.2 (sym (ap (λ b. b || list_any (eqb n) (outputs others)) off.0) ∙ h) in
          (table ∷ rest.0, (way.0, way.1, (net, way.2.1, rest.1)))
    ]

-- none of a list is equal to a number that it does not have
apart : (n : ℕ) (xs : List ℕ) → list_any (eqb n) xs ≡ false → AllByRecursion (λ y. eqb n y ≡ false) xs
apart n [] h = tt
apart n (x ∷ xs) h =
    elim (eqb_tells n x) [
      | inl here ↦ absurd (let e : (true || list_any (eqb n) xs) ≡ false = sym (ap (λ b. b || list_any (eqb n) xs) here.0) ∙ h in grind arith)
      | inr off ↦ (off.0, apart n xs (sym (ap (λ b. b || list_any (eqb n) xs) off.0) ∙ h))
    ]

bool_cases : (b : Bool) → (b ≡ true) ⊎ (b ≡ false)
bool_cases b = grind arith

-- a way drives each net once, or there is a loop
loop_or_distinct : (tables : List LookupTable) (from : ℕ) (through : List LookupTable) (to : ℕ) → IsWay tables from through to → HasLoop tables ⊎ IsDistinct eqb (outputs through)
unfolding IsDistinct
loop_or_distinct tables from [] to way = inr tt
loop_or_distinct tables from (table ∷ others) to way =
    elim (loop_or_distinct tables from others way.2.0 way.2.2) [
      | inl loop ↦ inl loop
      | inr distinct ↦
          elim (bool_cases (list_any (eqb table.output) (outputs others))) [
            | inl again ↦
                let part : (later : List LookupTable) × IsWay tables table.output later way.2.0 = cut tables table.output from others way.2.0 way.2.2 again in
                inl (table.output, table, part.0, (way.0, refl, (way.2.0, way.2.1, part.1)))
            | inr off ↦ inr (apart table.output (outputs others) off, distinct)
          ]
    ]

-- the tables of a way drive nets below the count if all tables do
below : (tables : List LookupTable) (nets : ℕ) → ((table : LookupTable) → IsTable tables table → table.output < nets)
    → (from : ℕ) (through : List LookupTable) (to : ℕ) → IsWay tables from through to → (q : ℕ) → list_any (eqb q) (outputs through) ≡ true → q < nets
below tables nets within from [] to way q h = absurd (grind arith)
below tables nets within from (table ∷ others) to way q h =
    elim (eqb_tells q table.output) [
      | inl here ↦ subst (λ n. n < nets) (sym here.1) (within table way.0)
      | inr off ↦ below tables nets within from others way.2.0 way.2.2 q (sym (ap (λ b. b || list_any (eqb q) (outputs others)) off.0) ∙ h)
    ]

length_outputs : (through : List LookupTable) → length (outputs through) ≡ length through
length_outputs [] = refl
length_outputs (table ∷ others) = ap (λ n. suc n) (length_outputs others)

-- a way through more tables than there are nets has a loop
pub long_loop : (tables : List LookupTable) (nets : ℕ) → ((table : LookupTable) → IsTable tables table → table.output < nets)
    → (from : ℕ) (through : List LookupTable) (to : ℕ) → IsWay tables from through to → nets < length through → HasLoop tables
long_loop tables nets within from through to way long =
    elim (loop_or_distinct tables from through to way) [
      | inl loop ↦ loop
      | inr distinct ↦
          let few : length (outputs through) ≤ nets = length-le_from_distinct_below (outputs through) nets distinct (below tables nets within from through to way) in
          let same : length (outputs through) ≡ length through = length_outputs through in
          absurd (omega arith)
    ]
