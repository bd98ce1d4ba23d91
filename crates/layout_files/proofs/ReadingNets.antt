-- Printed packings as they are read, part by part.
use Rattle.layout_files.proofs.Prelude.{◌≡◌, ◌≢◌, ◌⊎◌, inl, inr, subst, suc, zero, ℕ, ◌+◌, ◌-◌, ◌<◌, ◌≤◌, ◌^◌, ◌==◌, nat_lt, not, Bool, true, false, cond, List, [], ◌∷◌, ◌++◌, length, map, take, get_or, Option, Some, None, All, codes, decimal, slice_get, refl, sym, ap, ◌∙◌, arith, append_assoc, append-nil, flat_map, list_all, ForSome, is_some, option_map, option_to_list, count_by, if◌then◌else◌, nat_le, bytes_eq, and_from, and_parts, true≢false, nat_tests, flat_map-append, take_all, take_more, flat_map-map, get_or_from_slice_get, slice_get-get_or, slice_get_past, slice_get_within, bytes_eq-Decides, Arch, Circuit, net_name, Block, InputPad, OutputPad, Cluster, Place, LaidBle, LaidBlock, Feed, Pin, Ble, count-append, ble_line, feed_or_open, feed_word, laid_lines, laid_lines_as, laid_name, laid_name_as, is_digit, or_open, line_of, text_of, word_after_space, Stops, IsPlain, is_word_end, left_after, HasFileNames, HasNumber, feed_number, global_lines, IsNetRead, IsNumberIn, ble_rest, cluster_text, inputs_text, digits_told}
use Rattle.layout_files.proofs.Halfway.{Halfway, texts_from, texts_plain}
use Rattle.layout_files.proofs.Lines.{ble_text, flat_map-flat_map}
use Rattle.layout_files.proofs.Reading.{net_plain}

-- ---- words

word_is : (word text : List ℕ) (b : Bool) → b ≡ bytes_eq word text → b ≡ true → word ≡ text
word_is word text b e is = (bytes_eq-Decides word text).0 (sym e ∙ is)

pub name_plain : (circuit : Circuit) (pin : Option ℕ) → HasFileNames circuit → IsPlain (or_open (net_name circuit) pin)
name_plain circuit pin names = grind (arith, net_plain)

pub no_net : (circuit : Circuit) (pin : Option ℕ) (word : List ℕ) (b : Bool) → HasFileNames circuit → ForSome pin (λ net. net < length circuit.nets) → word ≡ or_open (net_name circuit) pin → b ≡ bytes_eq word (codes "open") → b ≡ true → None ≡ pin
no_net circuit pin word b names within e f is = grind (arith, word_is)

pub some_net : (circuit : Circuit) (pin : Option ℕ) (names : List (List ℕ)) (word : List ℕ) (b : Bool) (old new : Option (List ℕ)) (found : ℕ) → names ≡ circuit.nets → HasFileNames circuit → ForSome pin (λ net. net < length circuit.nets)
    → word ≡ or_open (net_name circuit) pin → b ≡ bytes_eq word (codes "open") → b ≡ false → IsNetRead names word old found new → (Some found ≡ pin) × (new ≡ old)
some_net circuit pin names word b old new found same good within e f is read = grind arith

-- digits are no word with letters in front
no_letters : (n : ℕ) (letters rest : List ℕ) → n < 2 ^ 32 → list_all is_digit (letters ++ rest) ≡ false → decimal n ≢ letters ++ rest
no_letters n letters rest small letter same = true≢false (sym (digits_told n (omega arith)).0 ∙ ap (list_all is_digit) same ∙ letter)

digit_plain : (d : ℕ) → is_digit d ≡ true → not (is_word_end d) ≡ true
digit_plain d digit = let bounds = and_parts (nat_le 48 d) (nat_le d 57) digit in let low = bounds.0 in grind (arith, nat_tests, low)

digits_plain : (ds : List ℕ) → list_all is_digit ds ≡ true → IsPlain ds
digits_plain [] all = refl
digits_plain (d ∷ ds) all =
    let parts = and_parts (is_digit d) (list_all is_digit ds) all in
    and_from _ _ (digit_plain d parts.0) (digits_plain ds parts.1)

pub decimal_plain : (n : ℕ) → n < 2 ^ 32 → IsPlain (decimal n)
decimal_plain n small = digits_plain (decimal n) (digits_told n (omega arith)).0

pub pin_plain : (pin : Option ℕ) → ForSome pin (λ n. n < 2 ^ 32) → IsPlain (or_open decimal pin)
pin_plain pin small = grind (arith, decimal_plain)

pub no_pin : (pin : Option ℕ) (word : List ℕ) (b : Bool) → ForSome pin (λ n. n < 2 ^ 32) → word ≡ or_open decimal pin → b ≡ bytes_eq word (codes "open") → b ≡ true → None ≡ pin
no_pin None word b small e f is = refl
no_pin (Some n) word b small e f is = absurd (no_letters n (codes "open") [] (small n refl) refl (sym e ∙ word_is word (codes "open") b f is))

pub some_pin : (pin : Option ℕ) (word : List ℕ) (b : Bool) (old new : Option (List ℕ)) (found : ℕ) → ForSome pin (λ n. n < 2 ^ 32) → word ≡ or_open decimal pin → b ≡ bytes_eq word (codes "open") → b ≡ false → IsNumberIn word old found new → (Some found ≡ pin) × (new ≡ old)
some_pin pin word b old new found small e f is read = grind arith

-- ---- where inputs come from

pub feed_plain : (feed : Option Feed) → ForSome feed (λ f. feed_number f < 2 ^ 32) → IsPlain (feed_or_open feed)
feed_plain None small = refl
feed_plain (Some (Pin pin)) small = decimal_plain pin (small (Pin pin) refl)
feed_plain (Some (Ble place)) small = decimal_plain place (small (Ble place) refl)

pub feed_ble : (feed : Feed) (word place : List ℕ) (old new : Option (List ℕ)) (found : ℕ) → feed_number feed < 2 ^ 32 → word ≡ feed_word feed → word ≡ codes "ble_" ++ place → IsNumberIn place old found new → (Ble found ≡ feed) × (new ≡ old)
feed_ble (Pin pin) word place old new found small e f read = absurd (no_letters pin (codes "ble_") place small refl (sym e ∙ f))
feed_ble (Ble at) word place old new found small e f read = grind arith

pub feed_pin : (feed : Feed) (word : List ℕ) (old new : Option (List ℕ)) (found : ℕ) → feed_number feed < 2 ^ 32 → word ≡ feed_word feed → ((rest : List ℕ) → word ≢ codes "ble_" ++ rest) → IsNumberIn word old found new → (Pin found ≡ feed) × (new ≡ old)
feed_pin feed word old new found small e other read = grind arith

feed_letters : (feed : Feed) → feed_number feed < 2 ^ 32 → feed_word feed ≢ codes "open"
feed_letters (Pin pin) small e = no_letters pin (codes "open") [] small refl e
feed_letters (Ble place) small e = true≢false (ap (λ (t : List ℕ). get_or t 0 0 == 98) e)

pub no_input : (feed : Option Feed) (word : List ℕ) (b : Bool) → ForSome feed (λ f. feed_number f < 2 ^ 32) → word ≡ feed_or_open feed → b ≡ bytes_eq word (codes "open") → b ≡ true → option_to_list feed ≡ []
no_input None word b small e f is = refl
no_input (Some feed) word b small e f is = absurd (feed_letters feed (small feed refl) (sym e ∙ word_is word (codes "open") b f is))

pub an_input : (feed : Option Feed) (word : List ℕ) (b : Bool) (old new : Option (List ℕ)) (found : Feed) → ForSome feed (λ f. feed_number f < 2 ^ 32) → word ≡ feed_or_open feed → b ≡ bytes_eq word (codes "open") → b ≡ false
    → ((f : Feed) → feed_number f < 2 ^ 32 → word ≡ feed_word f → (found ≡ f) × (new ≡ old)) → (found ∷ [] ≡ option_to_list feed) × (new ≡ old)
an_input feed word b old new found small e f is read = grind arith

pub inputs_stop : (inputs : List Feed) (start count : ℕ) (after : List ℕ) → Stops is_word_end (inputs_text inputs start count ++ (32 ∷ after))
inputs_stop inputs start count after = grind arith

pub inputs_next : (inputs : List Feed) (place count : ℕ) (after : List ℕ) → place < count
    → inputs_text inputs place (count - place) ++ (32 ∷ after) ≡ word_after_space (feed_or_open (slice_get inputs place)) ++ (inputs_text inputs (place + 1) (count - (place + 1)) ++ (32 ∷ after))
inputs_next inputs place count after within = grind (arith, append_assoc)

pub inputs_ended : (inputs : List Feed) (place count : ℕ) (after : List ℕ) → count ≤ place → inputs_text inputs place (count - place) ++ (32 ∷ after) ≡ 32 ∷ after
inputs_ended inputs place count after past = let none : count - place ≡ 0 = omega (arith, past) in ap (λ n. inputs_text inputs place n ++ (32 ∷ after)) none

pub input_small : (inputs : List Feed) (place : ℕ) → All (λ feed. feed_number feed < 2 ^ 32) inputs → ForSome (slice_get inputs place) (λ f. feed_number f < 2 ^ 32)
input_small inputs place small = λ x at. subst (λ (f : Feed). feed_number f < 2 ^ 32) (get_or_from_slice_get inputs place x x at) (small place x (slice_get_within inputs place x at))

pub inputs_more : (inputs : List Feed) (place : ℕ) → take place inputs ++ option_to_list (slice_get inputs place) ≡ take (place + 1) inputs
inputs_more inputs place = by (grind arith)
  where
    by : (place < length inputs) ⊎ (length inputs ≤ place) → take place inputs ++ option_to_list (slice_get inputs place) ≡ take (place + 1) inputs
    by (inl within) =
        ap (λ (found : Option Feed). take place inputs ++ option_to_list found) (slice_get-get_or inputs place (Pin 0) within) ∙ sym (take_more inputs place (Pin 0) within)
    by (inr past) =
        ap (λ (found : Option Feed). take place inputs ++ option_to_list found) (slice_get_past inputs place past) ∙ append-nil (take place inputs) ∙ take_all place inputs past ∙ sym (take_all (place + 1) inputs (omega (arith, past)))

ble_joined : (head name inputs output clock end after : List ℕ)
    → (((((head ++ (name ++ [])) ++ inputs) ++ output) ++ clock) ++ end) ++ after ≡ head ++ (name ++ (inputs ++ (output ++ (clock ++ (end ++ after)))))
ble_joined head name inputs output clock end after = simp (append_assoc, append-nil)

pub ble_read : (circuit : Circuit) (arch : Arch) (ble : LaidBle) (after : List ℕ) → line_of (ble_line circuit arch ble) ++ after ≡ codes "subblock: " ++ ble_rest circuit arch ble after
ble_read circuit arch ble after = grind (arith, ble_text circuit arch ble (net_name circuit ble.name) ble.inputs ble.output ble.clock refl refl refl refl, ble_joined (codes "subblock: ") (net_name circuit ble.name) (inputs_text ble.inputs 0 arch.lut_size) (word_after_space (or_open decimal ble.output)) (word_after_space (or_open decimal ble.clock)) (10 ∷ []) after)

pub same_ble : (ble : LaidBle) (name : ℕ) (inputs : List Feed) (output clock : Option ℕ) → name ≡ ble.name → inputs ≡ ble.inputs → output ≡ ble.output → clock ≡ ble.clock → record { name = name; inputs = inputs; output = output; clock = clock } ≡ ble
same_ble ble name inputs output clock e f g h = rw (e, f, g, h) refl

-- ---- pins and BLEs

pub pins_stop : (circuit : Circuit) (pins done : List (Option ℕ)) (after rest : List ℕ) → Halfway (λ k pin. word_after_space (or_open (net_name circuit) pin)) (λ (pin : Option ℕ). pin) pins (10 ∷ after) done (Some rest) → Stops is_word_end rest
pins_stop circuit pins done after rest h = by h.todo (let same : rest ≡ texts_from (λ k pin. word_after_space (or_open (net_name circuit) pin)) (length h.first) h.todo ++ (10 ∷ after) = (let is = h.here in cc) in same)
  where
    by : (todo : List (Option ℕ)) → rest ≡ texts_from (λ k pin. word_after_space (or_open (net_name circuit) pin)) (length h.first) todo ++ (10 ∷ after) → Stops is_word_end rest
    by [] e = subst (Stops is_word_end) (sym e) refl
    by (pin ∷ todo) e = subst (Stops is_word_end) (sym e) refl

pub bles_texts : (circuit : Circuit) (arch : Arch) (bles : List LaidBle) (after : List ℕ) → text_of (map (ble_line circuit arch) bles) ++ after ≡ texts_from (λ k ble. line_of (ble_line circuit arch ble)) 0 bles ++ after
bles_texts circuit arch bles after = ap (λ t. t ++ after) (flat_map-map line_of (ble_line circuit arch) bles ∙ texts_plain (λ ble. line_of (ble_line circuit arch ble)) 0 bles)

-- ---- global nets

pub global_read : (circuit : Circuit) (net : ℕ) (rest : List ℕ) → line_of (codes ".global" ∷ net_name circuit net ∷ []) ++ rest ≡ codes ".global " ++ (net_name circuit net ++ (10 ∷ rest))
global_read circuit net rest = grind (arith, append_assoc)

-- what follows the lines of the global nets
abbrev pub globals_end : List ℕ → List ℕ → List ℕ
globals_end [] after = after
globals_end (net ∷ globals) after = 10 ∷ after

pub globals_texts : (circuit : Circuit) (globals after : List ℕ) → text_of (global_lines circuit globals) ++ after ≡ texts_from (λ k net. line_of (codes ".global" ∷ net_name circuit net ∷ [])) 0 globals ++ globals_end globals after
globals_texts circuit [] after = refl
globals_texts circuit (net ∷ globals) after =
    let line = λ (n : ℕ). codes ".global" ∷ net_name circuit n ∷ [] in
    let some : nat_lt 0 (length (net ∷ globals)) ≡ true = grind (arith, nat_tests) in
    ap (λ b. text_of (map line (net ∷ globals) ++ cond b ([] ∷ []) []) ++ after) some
    ∙ ap (λ t. t ++ after) (flat_map-append line_of (map line (net ∷ globals)) ([] ∷ []))
    ∙ append_assoc (text_of (map line (net ∷ globals))) (10 ∷ []) after
    ∙ ap (λ t. t ++ (10 ∷ after)) (flat_map-map line_of line (net ∷ globals) ∙ texts_plain (λ n. line_of (line n)) 0 (net ∷ globals))

pub globals_stop : (globals after : List ℕ) → left_after (Some after) (codes ".global ") ≡ None → left_after (Some (globals_end globals after)) (codes ".global ") ≡ None
globals_stop globals after none = grind arith

pub globals_done : (found globals after : List ℕ) (left : Option (List ℕ)) → found ≡ globals → length found ≡ 0 → left ≡ Some (globals_end globals after) → left ≡ Some after
globals_done found globals after left e none is = grind arith

pub globals_more : (found globals after : List ℕ) (left : Option (List ℕ)) → found ≡ globals → (length found ≡ 0 → ⊥) → left ≡ Some (globals_end globals after) → left ≡ Some (10 ∷ after)
globals_more found globals after left e some is = grind arith

-- ---- blocks

cluster_joined : (head name word pins bles end after : List ℕ)
    → ((head ++ ((name ++ []) ++ end)) ++ ((word ++ (pins ++ end)) ++ (bles ++ end))) ++ after
    ≡ head ++ (name ++ (end ++ (word ++ (pins ++ (end ++ (bles ++ (end ++ after)))))))
cluster_joined head name word pins bles end after = simp (append_assoc, append-nil)

cluster_read : (circuit : Circuit) (arch : Arch) (laid : LaidBlock) (number : ℕ) (after : List ℕ)
    → text_of (laid_lines_as circuit arch laid (Cluster number)) ++ after ≡ codes ".clb " ++ cluster_text circuit arch (laid_name circuit laid) laid.pins laid.bles after
cluster_read circuit arch laid number after =
    let head = codes ".clb " in
    let name = laid_name circuit laid in
    let word = codes "pinlist:" in
    let words = flat_map (λ pin. word_after_space (or_open (net_name circuit) pin)) laid.pins in
    let lines = map (ble_line circuit arch) laid.bles in
    ap (λ t. ((head ++ ((name ++ []) ++ 10 ∷ [])) ++ ((word ++ (t ++ 10 ∷ [])) ++ text_of (lines ++ [] ∷ []))) ++ after) (flat_map-map word_after_space (or_open (net_name circuit)) laid.pins)
    ∙ ap (λ t. ((head ++ ((name ++ []) ++ 10 ∷ [])) ++ ((word ++ (words ++ 10 ∷ [])) ++ t)) ++ after) (flat_map-append line_of lines ([] ∷ []))
    ∙ cluster_joined head name word words (text_of lines) (10 ∷ []) after

-- a block that is no pad is a cluster
pub block_is_cluster : (circuit : Circuit) (arch : Arch) (laid : LaidBlock) (after : List ℕ) (number : ℕ) (old : Option (List ℕ)) (input output : Bool) → HasNumber number laid.block
    → old ≡ Some (text_of (laid_lines circuit arch laid) ++ after) → input ≡ is_some (left_after old (codes ".input ")) → input ≡ false → output ≡ is_some (left_after old (codes ".output out:")) → output ≡ false
    → (laid.block ≡ Cluster number) × (old ≡ Some (codes ".clb " ++ cluster_text circuit arch (laid_name circuit laid) laid.pins laid.bles after))
block_is_cluster circuit arch laid after number old input output numbered e f no_input g no_output = by laid.block refl
  where
    at : (block : Block) → laid.block ≡ block → old ≡ Some (text_of (laid_lines_as circuit arch laid block) ++ after)
    at block is = e ∙ ap (λ (b : Block). Some (text_of (laid_lines_as circuit arch laid b) ++ after)) is

    by : (block : Block) → laid.block ≡ block → (laid.block ≡ Cluster number) × (old ≡ Some (codes ".clb " ++ cluster_text circuit arch (laid_name circuit laid) laid.pins laid.bles after))
    by (InputPad net) is = absurd (true≢false (sym (ap (λ v. is_some (left_after v (codes ".input "))) (at (InputPad net) is)) ∙ sym f ∙ no_input))
    by (OutputPad net) is =
        let named = ap (λ (name : List ℕ). Some (text_of ((codes ".output" ∷ name ∷ []) ∷ (codes "pinlist:" ∷ net_name circuit net ∷ []) ∷ [] ∷ []) ++ after)) (ap (laid_name_as circuit laid) is) in
        absurd (true≢false (sym (ap (λ v. is_some (left_after v (codes ".output out:"))) (at (OutputPad net) is ∙ named)) ∙ sym g ∙ no_output))
    by (Cluster k) is =
        let same : k ≡ number = subst (HasNumber number) is numbered in
        (is ∙ ap Cluster same, at (Cluster k) is ∙ ap Some (cluster_read circuit arch laid k after))

pub same_block : (laid : LaidBlock) (block : Block) (pins : List (Option ℕ)) (bles : List LaidBle) (place : Place) → block ≡ laid.block → pins ≡ laid.pins → bles ≡ laid.bles → place ≡ laid.place → record { block = block; pins = pins; bles = bles; place = place } ≡ laid
same_block laid block pins bles place e f g h = rw (e, f, g, h) refl

pub blocks_texts : (circuit : Circuit) (arch : Arch) (blocks : List LaidBlock) → text_of (flat_map (laid_lines circuit arch) blocks) ≡ texts_from (λ k laid. text_of (laid_lines circuit arch laid)) 0 blocks ++ []
blocks_texts circuit arch blocks = search (flat_map-flat_map, texts_plain, append-nil, arith)

pub block_some : (circuit : Circuit) (arch : Arch) (laid : LaidBlock) → 0 < length (text_of (laid_lines circuit arch laid))
block_some circuit arch laid = grind arith

pub blocks_stop : (circuit : Circuit) (arch : Arch) (blocks : List LaidBlock) → left_after (Some (text_of (flat_map (laid_lines circuit arch) blocks))) (codes ".global ") ≡ None
blocks_stop circuit arch [] = refl
blocks_stop circuit arch (laid ∷ blocks) = grind arith

-- ---- the numbers of clusters

pub count_more : {X : Type 0} (p : X → Bool) (xs more : List X) (x : X) → more ≡ xs ++ x ∷ [] → count_by p more ≡ (if p x then count_by p xs + 1 else count_by p xs)
count_more p xs more x e = grind (arith, count-append)

pub place_found : (blocks : List LaidBlock) (places : List Place) (k : ℕ) (laid : LaidBlock) → places ≡ map (λ laid. laid.place) blocks → slice_get blocks k ≡ Some laid → slice_get places k ≡ Some laid.place
place_found blocks places k laid same at = ap (λ (all : List Place). slice_get all k) same ∙ by blocks k at
  where
    by : (blocks : List LaidBlock) (k : ℕ) → slice_get blocks k ≡ Some laid → slice_get (map (λ (laid : LaidBlock). laid.place) blocks) k ≡ Some laid.place
    by [] k at = absurd cc
    by (first ∷ others) zero at = ap (option_map (λ (laid : LaidBlock). laid.place)) at
    by (first ∷ others) (suc k) at = by others k at

pub same_found : {X : Type 0} (x y : X) → Some x ≡ Some y → x ≡ y
same_found x y e = cc
