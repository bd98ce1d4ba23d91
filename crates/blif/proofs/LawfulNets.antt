-- Each number in a circuit is that of a net, since the lines name all nets that they use.
use Rattle.blif.proofs.Prelude.{◌≡◌, ℕ, ◌-◌, ◌<◌, Bool, true, false, List, [], ◌∷◌, ◌++◌, Option, None, Some, All, length, map, if◌then◌else◌, sym, ◌∙◌, arith, AllPass, flat_map, list_all, ForSome, option_map, option_to_list, All-nil, All-cons, All-tail, All-append, All-map, list_all-append, AllPass-from_list_all, Keyword, Inputs, Outputs, Clock, Names, Latch, has_name, number_of, with_name, with_names, args_of, last_of, is_latch, control_of, clocks_in, front_of, inputs_in, names_in, outputs_in, latch_nets, latch_with, latches_in, table_with, tables_in, IsLatchWithin, IsTableWithin, number_of-within}
use Rattle.blif.proofs.Named.{and_left, and_right, list_all-take}

-- a property of everything that each line adds holds for everything that all lines add
pub each_line : {X A : Type 0} (p : List ℕ → Bool) (P : A → Type 0) (f : X → List (List ℕ)) (g : X → List A) → ((x : X) → list_all p (f x) ≡ true → All P (g x)) → (xs : List X) → list_all p (flat_map f xs) ≡ true → All P (flat_map g xs)
each_line p P f g each [] h = All-nil P
each_line p P f g each (x ∷ xs) h =
    let both = sym (list_all-append p (f x) (flat_map f xs)) ∙ h in
    All-append P (g x) (flat_map g xs) (each x (and_left _ _ both)) (each_line p P f g each xs (and_right _ _ both))

-- the last word passes if all words do
pub last_passes : (p : List ℕ → Bool) (name : List ℕ) (names : List (List ℕ)) → list_all p (name ∷ names) ≡ true → p (last_of (name ∷ names)) ≡ true
last_passes p name [] h = and_left _ _ h
last_passes p name (next ∷ names) h = last_passes p next names (and_right _ _ h)

-- if names pass, they still pass after others that pass are added
pub names_pass : (p : List ℕ → Bool) (names others : List (List ℕ)) → AllPass p names → AllPass p others → AllPass p (with_names names others)
names_pass p names [] old new = old
names_pass p names (name ∷ others) old new = names_pass p (with_name names name) others (by (has_name names name)) (All-tail (λ n. p n ≡ true) name others new)
  where
    by : (b : Bool) → AllPass p (if b then names else names ++ name ∷ [])
    by true = old
    by false = All-append (λ n. p n ≡ true) names (name ∷ []) old (All-cons (λ n. p n ≡ true) name [] (new 0 name (omega arith)) (All-nil _))

module _ (nets : List (List ℕ)) where
  -- the name is that of a net
  abbrev is_net : List ℕ → Bool
  is_net = has_name nets

  -- numbers of nets are below their count
  pub numbers_within : (names : List (List ℕ)) → AllPass is_net names → All (λ net. net < length nets) (map (number_of nets) names)
  numbers_within names h = All-map (λ net. net < length nets) (number_of nets) names (λ k d within. number_of-within nets _ (h k d within))

  pub inputs_named : (keyword : Keyword) (words : List (List ℕ)) → list_all is_net (names_in keyword words) ≡ true → AllPass is_net (inputs_in keyword words)
  inputs_named Inputs words h = AllPass-from_list_all is_net (args_of words) h
  inputs_named keyword words h = All-nil _

  pub outputs_named : (keyword : Keyword) (words : List (List ℕ)) → list_all is_net (names_in keyword words) ≡ true → AllPass is_net (outputs_in keyword words)
  outputs_named Outputs words h = AllPass-from_list_all is_net (args_of words) h
  outputs_named keyword words h = All-nil _

  pub clocks_named : (keyword : Keyword) (words : List (List ℕ)) → list_all is_net (names_in keyword words) ≡ true → AllPass is_net (clocks_in keyword words)
  clocks_named Clock words h = AllPass-from_list_all is_net (args_of words) h
  clocks_named keyword words h = All-nil _

  table_within : (number : ℕ) (names : List (List ℕ)) → list_all is_net names ≡ true → All (IsTableWithin (length nets)) (table_with nets number names)
  table_within number [] h = All-nil _
  table_within number (name ∷ names) h =
      All-cons (IsTableWithin (length nets)) _ []
      (record {
        inputs = numbers_within (front_of (name ∷ names)) (AllPass-from_list_all is_net (front_of (name ∷ names)) (list_all-take is_net (length (name ∷ names) - 1) (name ∷ names) h));
        output = number_of-within nets (last_of (name ∷ names)) (last_passes is_net name names h);
      })
      (All-nil _)

  pub tables_within : (number : ℕ) (keyword : Keyword) (words : List (List ℕ)) → list_all is_net (names_in keyword words) ≡ true → All (IsTableWithin (length nets)) (tables_in nets number keyword words)
  tables_within number Names words h = table_within number (args_of words) h
  tables_within number keyword words h = All-nil _

  control_within : (control : Option (List ℕ)) → list_all is_net (option_to_list control) ≡ true → ForSome (option_map (number_of nets) control) (λ net. net < length nets)
  control_within None h = λ net is. absurd cc
  control_within (Some name) h = λ net is. let same : net ≡ number_of nets name = cc in rw same (number_of-within nets name (and_left _ _ h))

  latch_within : (number : ℕ) (args : List (List ℕ)) → list_all is_net (latch_nets 2 args) ≡ true → All (IsLatchWithin (length nets)) (latch_with nets number args)
  latch_within number [] h = All-nil _
  latch_within number (input ∷ []) h = All-nil _
  latch_within number (input ∷ output ∷ rest) h = by (is_latch (input ∷ output ∷ rest)) (control_of (input ∷ output ∷ rest)) h
    where
      by : (b : Bool) (control : Option (List ℕ)) → list_all is_net (if b then input ∷ output ∷ option_to_list control else []) ≡ true → All (IsLatchWithin (length nets)) (if b then record { line = number; input = number_of nets input; output = number_of nets output; control = option_map (number_of nets) control } ∷ [] else [])
      by false control h = All-nil _
      by true control h =
          All-cons (IsLatchWithin (length nets)) _ []
          (record {
            input = number_of-within nets input (and_left _ _ h);
            output = number_of-within nets output (and_left _ _ (and_right _ _ h));
            control = control_within control (and_right _ _ (and_right _ _ h));
          })
          (All-nil _)

  pub latches_within : (number : ℕ) (keyword : Keyword) (words : List (List ℕ)) → list_all is_net (names_in keyword words) ≡ true → All (IsLatchWithin (length nets)) (latches_in nets number keyword words)
  latches_within number Latch words h = latch_within number (args_of words) h
  latches_within number keyword words h = All-nil _
