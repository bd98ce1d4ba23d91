-- Private: where a text is the print of a part of a packing, this part is read.
use Rattle.std.specs.Prelude.{ℕ, ◌≡◌, ◌<◌, ◌≤◌, ◌^◌, List, [], ◌∷◌, ◌++◌, All, Option, Some, None, map, length, codes, decimal, slice_get}
use Rattle.std.specs.List.{flat_map, range_with_len}
use Rattle.std.specs.Option.{ForSome, option_to_list}
use Rattle.layout_files.specs.Prelude.{Arch, Circuit, net_name, Place, LaidBle, LaidBlock, Feed, ble_line, feed_or_open, feed_word, laid_lines, or_open, text_of, word_after_space, Stops}
use Rattle.layout_files.specs.Cursors.{is_word_end, left_after}
use Rattle.layout_files.specs.Fitting.{AreNumbered, FitsBle, FitsBlock, HasFileNames, HasNumber, feed_number}
use Rattle.layout_files.specs.LayoutFiles.{IsBare}
use Rattle.layout_files.specs.Printing.{global_lines}

-- ---- the global nets

-- a net's name and the end of its line
abbrev pub IsGlobalRead : List (List ℕ) → Option (List ℕ) → ℕ → Option (List ℕ) → Type 0
IsGlobalRead names old found new = (circuit : Circuit) (net : ℕ) (after : List ℕ) → names ≡ circuit.nets → HasFileNames circuit → net < length circuit.nets
    → old ≡ Some (net_name circuit net ++ (10 ∷ after)) → (found ≡ net) × (new ≡ Some after)

-- the lines of global nets, and an empty line
abbrev pub AreGlobalsRead : List (List ℕ) → Option (List ℕ) → List ℕ → Option (List ℕ) → Type 0
AreGlobalsRead names old found new = (circuit : Circuit) (globals after : List ℕ) → names ≡ circuit.nets → HasFileNames circuit → All (λ net. net < length circuit.nets) globals
    → left_after (Some after) (codes ".global ") ≡ None → old ≡ Some (text_of (global_lines circuit globals) ++ after) → (found ≡ globals) × (new ≡ Some after)

-- ---- a BLE

-- a word spells a number
abbrev pub IsNumberIn : List ℕ → Option (List ℕ) → ℕ → Option (List ℕ) → Type 0
IsNumberIn word old found new = (n : ℕ) → n < 2 ^ 32 → word ≡ decimal n → (found ≡ n) × (new ≡ old)

-- the pin of an output or of a clock, or `open`
abbrev pub IsPinRead : Option (List ℕ) → Option ℕ → Option (List ℕ) → Type 0
IsPinRead old found new = (pin : Option ℕ) (after : List ℕ) → ForSome pin (λ n. n < 2 ^ 32) → Stops is_word_end after → old ≡ Some (word_after_space (or_open decimal pin) ++ after) → (found ≡ pin) × (new ≡ Some after)

-- a word for where an input comes from
abbrev pub IsFeedIn : List ℕ → Option (List ℕ) → Feed → Option (List ℕ) → Type 0
IsFeedIn word old found new = (feed : Feed) → feed_number feed < 2 ^ 32 → word ≡ feed_word feed → (found ≡ feed) × (new ≡ old)

abbrev pub inputs_text : List Feed → ℕ → ℕ → List ℕ
inputs_text inputs start count = flat_map (λ place. word_after_space (feed_or_open (slice_get inputs place))) (range_with_len start count)

-- where an input comes from, or `open`; it is added to the others
abbrev pub IsInputRead : List Feed → Option (List ℕ) → List Feed → Option (List ℕ) → Type 0
IsInputRead others old found new = (feed : Option Feed) (after : List ℕ) → ForSome feed (λ f. feed_number f < 2 ^ 32) → Stops is_word_end after → old ≡ Some (word_after_space (feed_or_open feed) ++ after) → (found ≡ others ++ option_to_list feed) × (new ≡ Some after)

-- where the inputs of a table come from, with `open` for those that are not there
abbrev pub AreInputsRead : ℕ → Option (List ℕ) → List Feed → Option (List ℕ) → Type 0
AreInputsRead lut_size old found new = (inputs : List Feed) (after : List ℕ) → All (λ feed. feed_number feed < 2 ^ 32) inputs → length inputs ≤ lut_size
    → old ≡ Some (inputs_text inputs 0 lut_size ++ (32 ∷ after)) → (found ≡ inputs) × (new ≡ Some (32 ∷ after))

-- the line of a BLE, after its first word
abbrev pub ble_rest : Circuit → Arch → LaidBle → List ℕ → List ℕ
ble_rest circuit arch ble after = net_name circuit ble.name ++ (inputs_text ble.inputs 0 arch.lut_size ++ (word_after_space (or_open decimal ble.output) ++ (word_after_space (or_open decimal ble.clock) ++ (10 ∷ after))))

-- the rest of the line of a BLE
abbrev pub IsBleRead : List (List ℕ) → ℕ → Option (List ℕ) → LaidBle → Option (List ℕ) → Type 0
IsBleRead names lut_size old found new = (circuit : Circuit) (arch : Arch) (ble : LaidBle) (after : List ℕ) → names ≡ circuit.nets → lut_size ≡ arch.lut_size → HasFileNames circuit → FitsBle (length circuit.nets) arch.lut_size ble
    → old ≡ Some (ble_rest circuit arch ble after) → (found ≡ ble) × (new ≡ Some after)

-- ---- a block

-- the nets on the pins, and the end of their line
abbrev pub ArePinsRead : List (List ℕ) → Option (List ℕ) → List (Option ℕ) → Option (List ℕ) → Type 0
ArePinsRead names old found new = (circuit : Circuit) (pins : List (Option ℕ)) (after : List ℕ) → names ≡ circuit.nets → HasFileNames circuit → All (λ pin. ForSome pin (λ net. net < length circuit.nets)) pins
    → old ≡ Some (flat_map (λ pin. word_after_space (or_open (net_name circuit) pin)) pins ++ (10 ∷ after)) → (found ≡ pins) × (new ≡ Some (10 ∷ after))

abbrev pub IsNetOnRead : List (List ℕ) → Option (List ℕ) → Option ℕ → Option (List ℕ) → Type 0
IsNetOnRead names old found new = (circuit : Circuit) (pin : Option ℕ) (after : List ℕ) → names ≡ circuit.nets → HasFileNames circuit → ForSome pin (λ net. net < length circuit.nets) → Stops is_word_end after
    → old ≡ Some (or_open (net_name circuit) pin ++ after) → (found ≡ pin) × (new ≡ Some after)

abbrev pub AreBlesRead : List (List ℕ) → ℕ → Option (List ℕ) → List LaidBle → Option (List ℕ) → Type 0
AreBlesRead names lut_size old found new = (circuit : Circuit) (arch : Arch) (bles : List LaidBle) (after : List ℕ) → names ≡ circuit.nets → lut_size ≡ arch.lut_size → HasFileNames circuit → All (FitsBle (length circuit.nets) arch.lut_size) bles
    → old ≡ Some (text_of (map (ble_line circuit arch) bles) ++ (10 ∷ after)) → (found ≡ bles) × (new ≡ Some (10 ∷ after))

-- the name of a pad's net, twice
abbrev pub IsPadRead : List (List ℕ) → Option (List ℕ) → ℕ → Option (List ℕ) → Type 0
IsPadRead names old found new = (circuit : Circuit) (net : ℕ) (after : List ℕ) → names ≡ circuit.nets → HasFileNames circuit → net < length circuit.nets
    → old ≡ Some (net_name circuit net ++ (codes "\npinlist: " ++ (net_name circuit net ++ (codes "\n\n" ++ after)))) → (found ≡ net) × (new ≡ Some after)

-- the rest of the lines of a cluster: its name, the nets on its pins, and its BLEs
abbrev pub cluster_text : Circuit → Arch → List ℕ → List (Option ℕ) → List LaidBle → List ℕ → List ℕ
cluster_text circuit arch name pins bles after = name ++ (codes "\npinlist:" ++ (flat_map (λ pin. word_after_space (or_open (net_name circuit) pin)) pins ++ (10 ∷ (text_of (map (ble_line circuit arch) bles) ++ (10 ∷ after)))))

-- the lines of a block at this place, whose number is this one if it is a cluster
abbrev pub IsBlockRead : List (List ℕ) → ℕ → Place → ℕ → Option (List ℕ) → LaidBlock → Option (List ℕ) → Type 0
IsBlockRead names lut_size place number old found new = (circuit : Circuit) (arch : Arch) (laid : LaidBlock) (after : List ℕ) → names ≡ circuit.nets → lut_size ≡ arch.lut_size → HasFileNames circuit → FitsBlock (length circuit.nets) arch.lut_size laid
    → IsBare laid → laid.place ≡ place → HasNumber number laid.block → old ≡ Some (text_of (laid_lines circuit arch laid) ++ after) → (found ≡ laid) × (new ≡ Some after)

abbrev pub AreBlocksRead : List (List ℕ) → ℕ → List Place → Option (List ℕ) → List LaidBlock → Option (List ℕ) → Type 0
AreBlocksRead names lut_size places old found new = (circuit : Circuit) (arch : Arch) (blocks : List LaidBlock) → names ≡ circuit.nets → lut_size ≡ arch.lut_size → HasFileNames circuit → All (FitsBlock (length circuit.nets) arch.lut_size) blocks
    → All IsBare blocks → AreNumbered blocks → length blocks < 2 ^ 32 → places ≡ map (λ laid. laid.place) blocks → old ≡ Some (text_of (flat_map (laid_lines circuit arch) blocks)) → (found ≡ blocks) × (new ≡ Some [])
