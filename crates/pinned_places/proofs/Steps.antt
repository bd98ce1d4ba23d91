-- One place, one pad or one pin before others.
use Rattle.pinned_places.proofs.Prelude.{◌≡◌, ℕ, ◌+◌, ◌<◌, ◌≤◌, List, [], ◌∷◌, ◌++◌, Result, Ok, Err, drop, get_or, length, map, set, take, sym, ap, ◌∙◌, arith, drop_all, drop_more, drop-set-lt, get_or-drop, get_or-map, length-map, map_more, take_all, take_more_set, drop_more_same, PackedCircuit, Strip, Place, place_of, place_at, Pin, pin_read, pins_read, with_pad, with_pads, pad_of, pads_after, then_pads, PinFault, FixedPad}
use Rattle.pin_file.specs.declared.reader.PinLine as read

-- the first elements are replaced, and the others are as they were
pub record IsReplaced {X : Type 0} (f : X → X) (old : List X) (count : ℕ) (new : List X) : Type 0 where
  pub first : take count new ≡ map f (take count old)
  pub others : drop count new ≡ drop count old

pub replaced_more : {X : Type 0} (f : X → X) (old : List X) (count : ℕ) (new : List X) (d y : X) → length new ≡ length old → count < length old → IsReplaced f old count new → y ≡ f (get_or new count d) → IsReplaced f old (count + 1) (set new count y)
replaced_more f old count new d y long lt replaced is = grind (arith, take_more_set, map_more, drop-set-lt, drop_more_same, get_or-drop count new 0 d, get_or-drop count old 0 d, take_more_set new count y (omega (arith, long, lt)), map_more f old count d lt, drop-set-lt (count + 1) new count y (omega arith), drop_more_same new old count replaced.others)

pub replaced_all : {X : Type 0} (f : X → X) (old : List X) (count : ℕ) (new : List X) → length new ≡ length old → length old ≤ count → IsReplaced f old count new → new ≡ map f old
replaced_all f old count new long past replaced = sym (take_all count new (omega (arith, long, past))) ∙ replaced.first ∙ ap (map f) (take_all count old past)

-- a pad goes to its place
pub pad_gone : (pads : List FixedPad) (number : ℕ) (pad : FixedPad) (places : List Place) → number < length pads → get_or pads number pad ≡ pad → with_pads (drop number pads) places ≡ with_pads (drop (number + 1) pads) (with_pad pad places)
unfolding with_pads
pad_gone pads number pad places lt is = ap (λ ps. with_pads ps places) (drop_more pads number pad lt ∙ ap (λ (p : FixedPad). p ∷ drop (number + 1) pads) is)

pub no_pads : (pads : List FixedPad) (number : ℕ) (places : List Place) → length pads ≤ number → with_pads (drop number pads) places ≡ places
unfolding with_pads
no_pads pads number places past = ap (λ ps. with_pads ps places) (drop_all number pads past)

-- a pin is met, or not
module _ (packed : PackedCircuit) (strip : Strip) (before : List FixedPad) (pins : List read.PinLine) (number : ℕ) (d : read.PinLine) (lt : number < length pins) where
  left : drop number (pins_read pins) ≡ pin_read (get_or pins number d) ∷ drop (number + 1) (pins_read pins)
  left =
      drop_more (pins_read pins) number (pin_read d) (omega (arith, lt, length-map pins pin_read))
      ∙ ap (λ (p : Pin). p ∷ drop (number + 1) (pins_read pins)) (get_or-map pin_read pins number d (pin_read d) lt)

  module _ (slice : List FixedPad) (result : Result FixedPad PinFault) (same : slice ≡ before) (is : result ≡ pad_of packed strip slice (pin_read (get_or pins number d))) where
    told : pad_of packed strip before (pin_read (get_or pins number d)) ≡ result
    told = ap (λ (pads : List FixedPad). pad_of packed strip pads (pin_read (get_or pins number d))) (sym same) ∙ sym is

    pub pin_met : (pad : FixedPad) → result ≡ Ok pad → pads_after packed strip before (drop number (pins_read pins)) ≡ pads_after packed strip (before ++ pad ∷ []) (drop (number + 1) (pins_read pins))
    unfolding pads_after
    pin_met pad met = ap (pads_after packed strip before) left ∙ ap (then_pads (λ more. pads_after packed strip more (drop (number + 1) (pins_read pins))) before) (told ∙ met)

    pub pin_refused : (fault : PinFault) → result ≡ Err fault → pads_after packed strip before (drop number (pins_read pins)) ≡ Err fault
    unfolding pads_after
    pin_refused fault refused = ap (pads_after packed strip before) left ∙ ap (then_pads (λ more. pads_after packed strip more (drop (number + 1) (pins_read pins))) before) (told ∙ refused)

pub no_pins : (packed : PackedCircuit) (strip : Strip) (before : List FixedPad) (pins : List Pin) (number : ℕ) → length pins ≤ number → pads_after packed strip before (drop number pins) ≡ Ok before
unfolding pads_after
no_pins packed strip before pins number past = ap (pads_after packed strip before) (drop_all number pins past)
