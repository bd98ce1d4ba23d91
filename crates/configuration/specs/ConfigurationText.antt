-- The text of a configuration.
use Rattle.std.specs.Prelude.{ℕ, Bool, List, [], ◌∷◌, ◌++◌, Option, codes, decimal, map, if◌then◌else◌}
use Rattle.std.specs.Option.{option_map_or}
use Rattle.configuration.specs.Prelude.{JoinedLine, Arch, Circuit, Strip, Place, Layout, Node, kind_word, text_of}
use Rattle.configuration.specs.Lines.{BlePlace, ConfigurationLine, Device, Driver, Feeds, FromBle, FromGlobal, FromPin, PadAt, BleAt, PadIn, PadOut, Signal, Stores, Switch, Takes, Used, Values}
use Rattle.configuration.specs.Configuration.{configuration_of}

abbrev pub pad_words : Place → List (List ℕ)
pad_words place = codes "pad" ∷ decimal place.x ∷ decimal place.y ∷ decimal place.subblock ∷ []

abbrev pub place_words : BlePlace → List (List ℕ)
place_words place = decimal place.x ∷ decimal place.y ∷ decimal place.n ∷ []

abbrev pub global_words : Option ℕ → List (List ℕ)
global_words number = option_map_or (λ number. codes "global" ∷ decimal number ∷ []) number []

abbrev pub signal_words : Signal → List (List ℕ)
signal_words (FromPin pin) = codes "pin" ∷ decimal pin ∷ []
signal_words (FromBle number) = codes "ble" ∷ decimal number ∷ []
signal_words (FromGlobal number) = codes "global" ∷ decimal number ∷ []

abbrev pub driver_words : Driver → List (List ℕ)
driver_words (PadAt place) = pad_words place
driver_words (BleAt place) = codes "ble" ∷ place_words place

abbrev pub node_words : Node → List (List ℕ)
node_words node = kind_word node.kind ∷ decimal node.x ∷ decimal node.y ∷ decimal node.n ∷ []

abbrev pub bit_digit : Bool → ℕ
bit_digit value = if value then 49 else 48

abbrev pub line_words : ConfigurationLine → List (List ℕ)
line_words (Device columns rows tracks inputs) = codes "device" ∷ decimal columns ∷ decimal rows ∷ decimal tracks ∷ decimal inputs ∷ []
line_words (PadIn place) = pad_words place ++ codes "in" ∷ []
line_words (PadOut place shown) = pad_words place ++ codes "out" ∷ global_words shown
line_words (Used place) = codes "ble" ∷ place_words place
line_words (Takes place j signal) = codes "input" ∷ place_words place ++ decimal j ∷ signal_words signal
line_words (Values place bits) = codes "table" ∷ place_words place ++ map bit_digit bits ∷ []
line_words (Stores place type init control) = codes "latch" ∷ place_words place ++ type ∷ init ∷ global_words control
line_words (Feeds number driver) = codes "global" ∷ decimal number ∷ driver_words driver
line_words (Switch a b) = codes "switch" ∷ node_words a ++ node_words b

abbrev pub lines_text : List ConfigurationLine → List ℕ
lines_text lines = text_of (map line_words lines)

-- the text of a layout's configuration
abbrev pub configuration_text : List JoinedLine → Circuit → Arch → Strip → Layout → List ℕ
configuration_text lines circuit arch strip layout = lines_text (configuration_of lines circuit arch strip layout)
