-- The configurations of small layouts, and the text of lines.
use Rattle.configuration.proofs.Prelude.{◌≡◌, ℕ, true, false, List, [], ◌∷◌, Some, None, refl, JoinedLine, Arch, PinClass, Input, Output, Clock, Circuit, InputPad, OutputPad, Cluster, place_at, Strip, Pin, Ble, Layout, make_node, Source, Sink, Opin, Ipin, ChanX, ChanY, configuration_of, BlePlace, Device, Feeds, FromBle, FromPin, PadAt, PadIn, PadOut, Stores, Switch, Takes, Used, Values}
use Rattle.std.proofs.Common.{codes}
use Rattle.arch_file.specs.declared.arch.Pin.{Pin as ArchPin}

abbrev pin : PinClass → ArchPin
pin class = record { class = class; sides = record { top = true; bottom = true; left = true; right = true } }

abbrev ble : ℕ → ℕ → ℕ → BlePlace
ble x y n = record { x = x; y = y; n = n }

abbrev one_block : Strip
one_block = record { width = 1; rows = 1; io_rat = 2 }

-- ---- a table of two inputs: its output pin is pin 2

abbrev small : Arch
small = record { io_rat = 2; pins = pin Input ∷ pin Input ∷ pin Output ∷ pin Clock ∷ []; cluster_size = 1; lut_size = 2; tracks = 2; fc_output = 2; fc_input = 2; fc_pad = 2 }

abbrev and_lines : List JoinedLine
and_lines = record { number = 4; words = codes ".names" ∷ codes "a" ∷ codes "b" ∷ codes "f" ∷ [] } ∷ record { number = 5; words = codes "11" ∷ codes "1" ∷ [] } ∷ []

abbrev and_circuit : Circuit
and_circuit = record {
  model = codes "t";
  nets = codes "a" ∷ codes "b" ∷ codes "f" ∷ [];
  inputs = 0 ∷ 1 ∷ [];
  outputs = 2 ∷ [];
  tables = record { line = 4; inputs = 0 ∷ 1 ∷ []; output = 2 } ∷ [];
  latches = [];
}

-- net 0 comes to pin 1, though the list of pins has it on pin 0
abbrev and_layout : Layout
and_layout = record {
  globals = [];
  blocks = record { block = InputPad 0; pins = []; bles = []; place = place_at 1 0 0 }
      ∷ record { block = InputPad 1; pins = []; bles = []; place = place_at 1 0 1 }
      ∷ record { block = OutputPad 2; pins = []; bles = []; place = place_at 1 2 0 }
      ∷ record { block = Cluster 0; pins = Some 0 ∷ Some 1 ∷ Some 2 ∷ None ∷ []; bles = record { name = 2; inputs = Pin 0 ∷ Pin 1 ∷ []; output = Some 2; clock = None } ∷ []; place = place_at 1 1 0 }
      ∷ [];
  nets = record { net = 0; listed = []; paths = (make_node 1 Source 0 0 ∷ make_node 1 Opin 0 0 ∷ make_node 1 ChanX 0 1 ∷ make_node 0 ChanY 1 1 ∷ make_node 1 Ipin 1 1 ∷ make_node 1 Sink 1 0 ∷ []) ∷ [] }
      ∷ record { net = 1; listed = []; paths = (make_node 1 Source 0 1 ∷ make_node 1 Opin 0 1 ∷ make_node 1 ChanX 0 0 ∷ make_node 1 Ipin 1 0 ∷ make_node 1 Sink 1 0 ∷ []) ∷ [] }
      ∷ record { net = 2; listed = []; paths = (make_node 1 Source 1 1 ∷ make_node 1 Opin 1 2 ∷ make_node 1 ChanX 1 0 ∷ make_node 1 Ipin 2 0 ∷ make_node 1 Sink 2 0 ∷ []) ∷ [] }
      ∷ [];
}

and_configured : configuration_of and_lines and_circuit small one_block and_layout
    ≡ Device 1 1 2 2
    ∷ PadIn (place_at 1 0 0)
    ∷ PadIn (place_at 1 0 1)
    ∷ PadOut (place_at 1 2 0) None
    ∷ Used (ble 1 1 0)
    ∷ Takes (ble 1 1 0) 0 (FromPin 1)
    ∷ Takes (ble 1 1 0) 1 (FromPin 0)
    ∷ Values (ble 1 1 0) (false ∷ false ∷ false ∷ true ∷ [])
    ∷ Switch (make_node 1 Opin 0 0) (make_node 1 ChanX 0 1)
    ∷ Switch (make_node 1 ChanX 0 1) (make_node 0 ChanY 1 1)
    ∷ Switch (make_node 0 ChanY 1 1) (make_node 1 Ipin 1 1)
    ∷ Switch (make_node 1 Opin 0 1) (make_node 1 ChanX 0 0)
    ∷ Switch (make_node 1 ChanX 0 0) (make_node 1 Ipin 1 0)
    ∷ Switch (make_node 1 Opin 1 2) (make_node 1 ChanX 1 0)
    ∷ Switch (make_node 1 ChanX 1 0) (make_node 1 Ipin 2 0)
    ∷ []
unfolding configuration_of
and_configured = refl

-- ---- two BLEs: a table with its latch, on a global clock, and a table that reads the latch. The
-- second one's net leaves by the first output pin, so the second one is at place 0

abbrev pair : Arch
pair = record { io_rat = 2; pins = pin Output ∷ pin Input ∷ pin Output ∷ pin Clock ∷ []; cluster_size = 2; lut_size = 1; tracks = 2; fc_output = 2; fc_input = 2; fc_pad = 2 }

abbrev latch_lines : List JoinedLine
latch_lines = record { number = 3; words = codes ".names" ∷ codes "a" ∷ codes "d" ∷ [] } ∷ record { number = 4; words = codes "0" ∷ codes "1" ∷ [] }
    ∷ record { number = 5; words = codes ".latch" ∷ codes "d" ∷ codes "q" ∷ codes "re" ∷ codes "c" ∷ codes "0" ∷ [] }
    ∷ record { number = 6; words = codes ".names" ∷ codes "q" ∷ codes "f" ∷ [] } ∷ record { number = 7; words = codes "1" ∷ codes "1" ∷ [] } ∷ []

-- nets: a 0, c 1, d 2, q 3, f 4
abbrev latch_circuit : Circuit
latch_circuit = record {
  model = codes "t";
  nets = codes "a" ∷ codes "c" ∷ codes "d" ∷ codes "q" ∷ codes "f" ∷ [];
  inputs = 0 ∷ 1 ∷ [];
  outputs = 4 ∷ [];
  tables = record { line = 3; inputs = 0 ∷ []; output = 2 } ∷ record { line = 6; inputs = 3 ∷ []; output = 4 } ∷ [];
  latches = record { line = 5; input = 2; output = 3; control = Some 1 } ∷ [];
}

abbrev latch_layout : Layout
latch_layout = record {
  globals = 1 ∷ [];
  blocks = record { block = InputPad 0; pins = []; bles = []; place = place_at 1 0 0 }
      ∷ record { block = InputPad 1; pins = []; bles = []; place = place_at 1 0 1 }
      ∷ record { block = OutputPad 4; pins = []; bles = []; place = place_at 1 2 0 }
      ∷ record {
        block = Cluster 0;
        pins = None ∷ Some 0 ∷ Some 4 ∷ Some 1 ∷ [];
        bles = record { name = 3; inputs = Pin 1 ∷ []; output = None; clock = Some 3 } ∷ record { name = 4; inputs = Ble 0 ∷ []; output = Some 2; clock = None } ∷ [];
        place = place_at 1 1 0;
      }
      ∷ [];
  nets = record { net = 0; listed = []; paths = (make_node 1 Source 0 0 ∷ make_node 1 Opin 0 0 ∷ make_node 1 ChanX 0 0 ∷ make_node 1 Ipin 1 1 ∷ make_node 1 Sink 1 0 ∷ []) ∷ [] }
      ∷ record { net = 1; listed = 1 ∷ 3 ∷ []; paths = [] }
      ∷ record { net = 4; listed = []; paths = (make_node 1 Source 1 1 ∷ make_node 1 Opin 1 0 ∷ make_node 1 ChanX 1 1 ∷ make_node 1 Ipin 2 0 ∷ make_node 1 Sink 2 0 ∷ []) ∷ [] }
      ∷ [];
}

latch_configured : configuration_of latch_lines latch_circuit pair one_block latch_layout
    ≡ Device 1 1 2 1
    ∷ PadIn (place_at 1 0 0)
    ∷ PadIn (place_at 1 0 1)
    ∷ PadOut (place_at 1 2 0) None
    ∷ Used (ble 1 1 1)
    ∷ Takes (ble 1 1 1) 0 (FromPin 1)
    ∷ Values (ble 1 1 1) (true ∷ false ∷ [])
    ∷ Stores (ble 1 1 1) (codes "re") (codes "0") (Some 0)
    ∷ Used (ble 1 1 0)
    ∷ Takes (ble 1 1 0) 0 (FromBle 1)
    ∷ Values (ble 1 1 0) (false ∷ true ∷ [])
    ∷ Feeds 0 (PadAt (place_at 1 0 1))
    ∷ Switch (make_node 1 Opin 0 0) (make_node 1 ChanX 0 0)
    ∷ Switch (make_node 1 ChanX 0 0) (make_node 1 Ipin 1 1)
    ∷ Switch (make_node 1 Opin 1 0) (make_node 1 ChanX 1 1)
    ∷ Switch (make_node 1 ChanX 1 1) (make_node 1 Ipin 2 0)
    ∷ []
unfolding configuration_of
latch_configured = refl
