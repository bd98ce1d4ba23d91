-- The ranks of pins, counted by class.
use Rattle.cluster.proofs.Prelude.{◌≡◌, ℕ, ◌+◌, ◌<◌, ◌≤◌, true, false, List, [], ◌∷◌, ◌++◌, length, take, get_or, map, sym, ap, refl, ◌∙◌, arith, zero-add, enumerate_from, map_more, take_all, length-enumerate_from, get_or-enumerate_from, count_by_more_yes, count_by_more_no, Pin, PinClass, Input, Output, Clock, is_same_class, pin_ranks, rank_of}

-- the ranks of the first `count` pins, and the number of pins of each class among them
pub record AreRanked (pins : List Pin) (count : ℕ) (ranks : List ℕ) (inputs outputs clocks : ℕ) : Type 0 where
  pub ranks_are : ranks ≡ map (λ pin. rank_of pins pin.0 pin.1.class) (take count (enumerate_from 0 pins))
  pub inputs_are : inputs ≡ rank_of pins count Input
  pub outputs_are : outputs ≡ rank_of pins count Output
  pub clocks_are : clocks ≡ rank_of pins count Clock

-- no pin is ranked yet
pub ranked_none : (pins : List Pin) (ranks : List ℕ) → ranks ≡ [] → AreRanked pins 0 ranks 0 0 0
ranked_none pins ranks none = record { ranks_are = none; inputs_are = refl; outputs_are = refl; clocks_are = refl }

-- one more pin has the current count of its class as its rank
ranks_more : (pins : List Pin) (i rank : ℕ) (class : PinClass) (d : Pin) (old new : List ℕ) → i < length pins → (get_or pins i d).class ≡ class → old ≡ map (λ pin. rank_of pins pin.0 pin.1.class) (take i (enumerate_from 0 pins)) → rank ≡ rank_of pins i class → new ≡ old ++ rank ∷ [] → new ≡ map (λ pin. rank_of pins pin.0 pin.1.class) (take (i + 1) (enumerate_from 0 pins))
ranks_more pins i rank class d old new h is before rank_is more =
    let f : ℕ × Pin → ℕ = λ pin. rank_of pins pin.0 pin.1.class in
    let first : ℕ × Pin = (0, d) in
    let within : i < length (enumerate_from 0 pins) = omega (arith, length-enumerate_from 0 pins) in
    let at : get_or (enumerate_from 0 pins) i first ≡ (i, get_or pins i d) = get_or-enumerate_from 0 pins i first h ∙ ap (λ (n : ℕ). let pin : ℕ × Pin = (n, get_or pins i d) in pin) (zero-add i) in
    more ∙ ap (λ (front : List ℕ). front ++ rank ∷ []) before
    ∙ ap (λ (last : ℕ). map f (take i (enumerate_from 0 pins)) ++ last ∷ []) (rank_is ∙ ap (rank_of pins i) (sym is) ∙ sym (ap f at))
    ∙ sym (map_more f (enumerate_from 0 pins) i first within)

-- one more pin of its class
rank_yes : (pins : List Pin) (i : ℕ) (class : PinClass) (d : Pin) → i < length pins → is_same_class class (get_or pins i d).class ≡ true → rank_of pins (i + 1) class ≡ rank_of pins i class + 1
rank_yes pins i class d h is = count_by_more_yes (λ (pin : Pin). is_same_class class pin.class) pins i d h is

-- one more pin doesn't change the counts of other classes
rank_no : (pins : List Pin) (i : ℕ) (class : PinClass) (d : Pin) → i < length pins → is_same_class class (get_or pins i d).class ≡ false → rank_of pins (i + 1) class ≡ rank_of pins i class
rank_no pins i class d h is = count_by_more_no (λ (pin : Pin). is_same_class class pin.class) pins i d h is

-- one more input pin
pub ranked_input : (pins : List Pin) (i : ℕ) (d : Pin) (old new : List ℕ) (inputs outputs clocks more_inputs more_outputs more_clocks : ℕ) → i < length pins → (get_or pins i d).class ≡ Input → AreRanked pins i old inputs outputs clocks → new ≡ old ++ inputs ∷ [] → more_inputs ≡ inputs + 1 → more_outputs ≡ outputs → more_clocks ≡ clocks → AreRanked pins (i + 1) new more_inputs more_outputs more_clocks
ranked_input pins i d old new inputs outputs clocks more_inputs more_outputs more_clocks h is before pushed input output clock = grind (arith, ranks_more pins i inputs Input d old new h is before.ranks_are before.inputs_are pushed, rank_yes pins i Input d h (ap (is_same_class Input) is), rank_no pins i Output d h (ap (is_same_class Output) is), rank_no pins i Clock d h (ap (is_same_class Clock) is))

-- one more output pin
pub ranked_output : (pins : List Pin) (i : ℕ) (d : Pin) (old new : List ℕ) (inputs outputs clocks more_inputs more_outputs more_clocks : ℕ) → i < length pins → (get_or pins i d).class ≡ Output → AreRanked pins i old inputs outputs clocks → new ≡ old ++ outputs ∷ [] → more_inputs ≡ inputs → more_outputs ≡ outputs + 1 → more_clocks ≡ clocks → AreRanked pins (i + 1) new more_inputs more_outputs more_clocks
ranked_output pins i d old new inputs outputs clocks more_inputs more_outputs more_clocks h is before pushed input output clock = grind (arith, ranks_more pins i outputs Output d old new h is before.ranks_are before.outputs_are pushed, rank_no pins i Input d h (ap (is_same_class Input) is), rank_yes pins i Output d h (ap (is_same_class Output) is), rank_no pins i Clock d h (ap (is_same_class Clock) is))

-- one more clock pin
pub ranked_clock : (pins : List Pin) (i : ℕ) (d : Pin) (old new : List ℕ) (inputs outputs clocks more_inputs more_outputs more_clocks : ℕ) → i < length pins → (get_or pins i d).class ≡ Clock → AreRanked pins i old inputs outputs clocks → new ≡ old ++ clocks ∷ [] → more_inputs ≡ inputs → more_outputs ≡ outputs → more_clocks ≡ clocks + 1 → AreRanked pins (i + 1) new more_inputs more_outputs more_clocks
ranked_clock pins i d old new inputs outputs clocks more_inputs more_outputs more_clocks h is before pushed input output clock = grind (arith, ranks_more pins i clocks Clock d old new h is before.ranks_are before.clocks_are pushed, rank_no pins i Input d h (ap (is_same_class Input) is), rank_no pins i Output d h (ap (is_same_class Output) is), rank_yes pins i Clock d h (ap (is_same_class Clock) is))

-- all pins are ranked
pub ranked_all : (pins : List Pin) (count inputs outputs clocks : ℕ) (ranks : List ℕ) → length pins ≤ count → AreRanked pins count ranks inputs outputs clocks → ranks ≡ pin_ranks pins
ranked_all pins count inputs outputs clocks ranks h ranked = grind (arith, take_all, length-enumerate_from)
