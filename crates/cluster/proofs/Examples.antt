-- The definitions, computed on small circuits.
use Rattle.cluster.proofs.Prelude.{◌≡◌, ℕ, List, [], ◌∷◌, Option, Some, None, true, false, codes, refl, Arch, Input, Output, Clock, Circuit, bles_of, clusters_after, cluster_of, unfit_of, packed_of, packing_steps}

-- clusters of one table with two inputs
abbrev small : Arch
small = record {
  io_rat = 2;
  pins = record { class = Input; sides = record { top = false; bottom = true; left = false; right = false } }
      ∷ record { class = Input; sides = record { top = false; bottom = false; left = true; right = false } }
      ∷ record { class = Output; sides = record { top = true; bottom = false; left = false; right = false } }
      ∷ record { class = Clock; sides = record { top = true; bottom = false; left = false; right = false } } ∷ [];
  cluster_size = 1;
  lut_size = 2;
  tracks = 2;
  fc_output = 2;
  fc_input = 2;
  fc_pad = 2;
}

-- clusters of two tables with two inputs
abbrev wide : Arch
wide = record small { cluster_size = 2 }

-- a table that reads net a and a latch that stores its output, with this control and these outputs
abbrev stored : Option ℕ → List ℕ → Circuit
stored control outputs = record {
  model = codes "r";
  nets = codes "a" ∷ codes "c" ∷ codes "q" ∷ codes "f" ∷ [];
  inputs = 0 ∷ 1 ∷ [];
  outputs = outputs;
  tables = record { line = 4; inputs = 0 ∷ []; output = 3 } ∷ [];
  latches = record { line = 6; input = 3; output = 2; control = control } ∷ [];
}

-- if only the latch reads the table's output, they are one BLE
one_element : bles_of (stored (Some 1) (2 ∷ [])) ≡ record { inputs = 0 ∷ []; output = 2; clock = Some 1 } ∷ []
unfolding bles_of
one_element = refl

-- if the latch and an output read it, they are two BLEs
two_elements : bles_of (stored (Some 1) (2 ∷ 3 ∷ [])) ≡ record { inputs = 0 ∷ []; output = 3; clock = None } ∷ record { inputs = 3 ∷ []; output = 2; clock = Some 1 } ∷ []
unfolding bles_of
two_elements = refl

-- the latch is controlled by the net that it stores
controlled_by_table : bles_of (stored (Some 3) (2 ∷ [])) ≡ record { inputs = 0 ∷ []; output = 3; clock = None } ∷ record { inputs = 3 ∷ []; output = 2; clock = Some 3 } ∷ []
unfolding bles_of
controlled_by_table = refl

-- a table that reads its own output, and another net twice
own_output : bles_of (record {
  model = codes "r";
  nets = codes "a" ∷ codes "q" ∷ codes "f" ∷ [];
  inputs = 0 ∷ [];
  outputs = 1 ∷ [];
  tables = record { line = 4; inputs = 0 ∷ 2 ∷ 0 ∷ []; output = 2 } ∷ [];
  latches = record { line = 6; input = 2; output = 1; control = None } ∷ [];
})
    ≡ record { inputs = 0 ∷ 2 ∷ []; output = 2; clock = None } ∷ record { inputs = 2 ∷ []; output = 1; clock = None } ∷ []
unfolding bles_of
own_output = refl

-- each BLE has a cluster of its own
apart : (packed_of (stored (Some 1) (2 ∷ 3 ∷ [])) small).clusters ≡ (0 ∷ []) ∷ (1 ∷ []) ∷ []
unfolding packed_of bles_of clusters_after cluster_of
apart = refl

-- two tables, one of which reads the other
abbrev chain : Circuit
chain = record {
  model = codes "n";
  nets = codes "a" ∷ codes "b" ∷ codes "g" ∷ codes "f" ∷ [];
  inputs = 0 ∷ 1 ∷ [];
  outputs = 2 ∷ [];
  tables = record { line = 4; inputs = 0 ∷ 1 ∷ []; output = 3 } ∷ record { line = 6; inputs = 3 ∷ []; output = 2 } ∷ [];
  latches = [];
}

two_in_one : (packed_of chain wide).clusters ≡ (0 ∷ 1 ∷ []) ∷ []
unfolding packed_of bles_of clusters_after cluster_of
two_in_one = refl

one_step : packing_steps chain wide ≡ 1
unfolding packed_of bles_of clusters_after cluster_of
one_step = refl

-- a table has three inputs, and the cluster two input pins
too_wide : unfit_of (record {
  model = codes "m";
  nets = codes "a" ∷ codes "b" ∷ codes "c" ∷ codes "f" ∷ [];
  inputs = 0 ∷ 1 ∷ 2 ∷ [];
  outputs = 3 ∷ [];
  tables = record { line = 4; inputs = 0 ∷ 1 ∷ 2 ∷ []; output = 3 } ∷ [];
  latches = [];
}) small ≡ Some 0
unfolding unfit_of bles_of
too_wide = refl
