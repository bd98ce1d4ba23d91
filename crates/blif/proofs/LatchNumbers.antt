-- The numbers of a latch's nets, and the first net that it reads and that is not driven.
use Rattle.blif.proofs.Prelude.{◌≡◌, ℕ, ◌<◌, Bool, true, false, not, List, [], ◌∷◌, Option, Some, None, length, get_or, map, if◌then◌else◌, sym, ap, ◌∙◌, arith, Bor, list_all, option_to_list, first_of, texts, has_name, number_of, is_latch, control_of, latch_nets, undriven_names, number_of-within}
use Rattle.blif.proofs.Named.{and_left, and_right, name_at}

-- the number is that of a net with this name
pub record IsNumbered (nets : List (List ℕ)) (number : ℕ) (name : List ℕ) : Type 0 where
  pub within : number < length nets
  pub name_is : get_or nets number [] ≡ name

is_numbered : (nets : List (List ℕ)) (number : ℕ) (name : List ℕ) → number ≡ number_of nets name → has_name nets name ≡ true → IsNumbered nets number name
is_numbered nets number name is there = grind (arith, number_of-within, name_at)

-- the input's number, and the control's
pub record AreLatchNumbers (nets : List (List ℕ)) (input : List ℕ) (control : Option (List ℕ)) (numbers : List ℕ) : Type 0 where
  pub input_is : IsNumbered nets (get_or numbers 0 0) input
  pub control_is : (name : List ℕ) → control ≡ Some name → IsNumbered nets (get_or numbers 2 0) name

module _ (nets : List (List ℕ)) (numbers : List ℕ) where
  pub latch_numbers : (args : List (List ℕ)) → is_latch args ≡ true → list_all (has_name nets) (latch_nets 2 args) ≡ true → numbers ≡ map (number_of nets) (latch_nets 2 args) → AreLatchNumbers nets (get_or args 0 []) (control_of args) numbers
  latch_numbers [] form named are = absurd cc
  latch_numbers (input ∷ []) form named are = absurd cc
  latch_numbers (input ∷ output ∷ rest) form named are = by (is_latch (input ∷ output ∷ rest)) (control_of (input ∷ output ∷ rest)) form named are
    where
      by : (b : Bool) (control : Option (List ℕ)) → b ≡ true → list_all (has_name nets) (if b then input ∷ output ∷ option_to_list control else []) ≡ true → numbers ≡ map (number_of nets) (if b then input ∷ output ∷ option_to_list control else []) → AreLatchNumbers nets input control numbers
      by false control form named are = absurd cc
      by true None form named are = record {
        input_is = is_numbered nets (get_or numbers 0 0) input (ap (λ ns. get_or ns 0 0) are) (and_left _ _ named);
        control_is = λ name is. absurd cc;
      }
      by true (Some net) form named are = record {
        input_is = is_numbered nets (get_or numbers 0 0) input (ap (λ ns. get_or ns 0 0) are) (and_left _ _ named);
        control_is = λ name is. let same : net ≡ name = cc in
            is_numbered nets (get_or numbers 2 0) name (ap (λ ns. get_or ns 2 0) are ∙ ap (number_of nets) same) (sym (ap (has_name nets) same) ∙ and_left _ _ (and_right _ _ (and_right _ _ named)));
      }

-- the input of a latch, by the slices of its words
pub latch_input : (slices : List (Bor (List ℕ))) (d : Bor (List ℕ)) (args : List (List ℕ)) → texts slices ≡ args → is_latch args ≡ true → (get_or slices 0 d).now ≡ get_or args 0 []
latch_input [] d args are form = grind arith
latch_input (slice ∷ slices) d args are form = ap (λ words. get_or words 0 []) are

-- the first net that a latch reads and that is not driven
module _ (drivers : List (List ℕ)) where
  reads_are : (args : List (List ℕ)) → is_latch args ≡ true → latch_nets 1 args ≡ get_or args 0 [] ∷ option_to_list (control_of args)
  reads_are [] form = absurd cc
  reads_are (input ∷ []) form = absurd cc
  reads_are (input ∷ output ∷ rest) form = ap (λ b. if b then input ∷ option_to_list (control_of (input ∷ output ∷ rest)) else []) form

  pub input_undriven : (args : List (List ℕ)) → is_latch args ≡ true → has_name drivers (get_or args 0 []) ≡ false → Some (get_or args 0 []) ≡ first_of (undriven_names drivers (latch_nets 1 args))
  input_undriven args form h =
      let input = get_or args 0 [] in
      let control = option_to_list (control_of args) in
      sym (ap (λ b. first_of (if not b then input ∷ undriven_names drivers control else undriven_names drivers control)) h)
      ∙ ap (λ names. first_of (undriven_names drivers names)) (sym (reads_are args form))

  control_left : (args : List (List ℕ)) → is_latch args ≡ true → has_name drivers (get_or args 0 []) ≡ true → first_of (undriven_names drivers (option_to_list (control_of args))) ≡ first_of (undriven_names drivers (latch_nets 1 args))
  control_left args form h =
      let input = get_or args 0 [] in
      let control = option_to_list (control_of args) in
      sym (ap (λ b. first_of (if not b then input ∷ undriven_names drivers control else undriven_names drivers control)) h)
      ∙ ap (λ names. first_of (undriven_names drivers names)) (sym (reads_are args form))

  of_one : (name : List ℕ) (b : Bool) → has_name drivers name ≡ b → first_of (undriven_names drivers (name ∷ [])) ≡ (if b then None else Some name)
  of_one name true h = ap (λ b. first_of (if not b then name ∷ [] else [])) h
  of_one name false h = ap (λ b. first_of (if not b then name ∷ [] else [])) h

  pub control_undriven : (args : List (List ℕ)) (net : List ℕ) → is_latch args ≡ true → has_name drivers (get_or args 0 []) ≡ true → control_of args ≡ Some net → has_name drivers net ≡ false → Some net ≡ first_of (undriven_names drivers (latch_nets 1 args))
  control_undriven args net form input is h =
      sym (ap (λ c. first_of (undriven_names drivers (option_to_list c))) is ∙ of_one net false h) ∙ control_left args form input

  pub latch_driven : (args : List (List ℕ)) (net : List ℕ) → is_latch args ≡ true → has_name drivers (get_or args 0 []) ≡ true → control_of args ≡ Some net → has_name drivers net ≡ true → None ≡ first_of (undriven_names drivers (latch_nets 1 args))
  latch_driven args net form input is h =
      sym (ap (λ c. first_of (undriven_names drivers (option_to_list c))) is ∙ of_one net true h) ∙ control_left args form input

  pub free_latch_driven : (args : List (List ℕ)) → is_latch args ≡ true → has_name drivers (get_or args 0 []) ≡ true → control_of args ≡ None → None ≡ first_of (undriven_names drivers (latch_nets 1 args))
  free_latch_driven args form input is =
      sym (ap (λ c. first_of (undriven_names drivers (option_to_list c))) is) ∙ control_left args form input
