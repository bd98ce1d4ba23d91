-- The `.net` files of small circuits.
use Rattle.vpr_files.proofs.Prelude.{◌≡◌, ℕ, List, [], ◌∷◌, Some, None, true, false, refl, codes, decimal, lit<, decimal_digit, Arch, Pin, PinClass, Input, Output, Clock, Circuit, Latch, LookupTable, bles_of, cluster_of, clusters_after, packed_of, net_text_of}

abbrev pin_of : PinClass → Pin
pin_of class = record { class = class; sides = record { top = true; bottom = false; left = false; right = false } }

-- tables of two inputs, in clusters with one BLE
abbrev pub single : Arch
single = record {
  io_rat = 2;
  pins = pin_of Input ∷ pin_of Input ∷ pin_of Output ∷ pin_of Clock ∷ [];
  cluster_size = 1;
  lut_size = 2;
  tracks = 2;
  fc_output = 2;
  fc_input = 2;
  fc_pad = 2;
}

-- tables of two inputs, in clusters with two BLEs
abbrev paired : Arch
paired = record single {
  pins = pin_of Input ∷ pin_of Input ∷ pin_of Output ∷ pin_of Output ∷ pin_of Clock ∷ [];
  cluster_size = 2;
}

abbrev pub circuit : List (List ℕ) → List ℕ → List ℕ → List LookupTable → List Latch → Circuit
circuit nets inputs outputs tables latches = record { model = codes "m"; nets = nets; inputs = inputs; outputs = outputs; tables = tables; latches = latches }

empty_circuit : net_text_of (packed_of (circuit [] [] [] [] []) single) ≡ []
unfolding net_text_of packed_of clusters_after cluster_of bles_of
empty_circuit = refl

-- digits in decimal
pub digit_0 : decimal 0 ≡ codes "0"
digit_0 = decimal_digit 0 (lit< tt)

pub digit_1 : decimal 1 ≡ codes "1"
digit_1 = decimal_digit 1 (lit< tt)

pub digit_2 : decimal 2 ≡ codes "2"
digit_2 = decimal_digit 2 (lit< tt)

pub digit_3 : decimal 3 ≡ codes "3"
digit_3 = decimal_digit 3 (lit< tt)

-- one table of two inputs
whole_chain : net_text_of (packed_of (circuit (codes "a" ∷ codes "b" ∷ codes "f" ∷ []) (0 ∷ 1 ∷ []) (2 ∷ []) (record { line = 4; inputs = 0 ∷ 1 ∷ []; output = 2 } ∷ []) []) single)
    ≡ codes ".input a\npinlist: a\n\n.input b\npinlist: b\n\n.output out:f\npinlist: f\n\n.clb f\npinlist: a b f open\nsubblock: f 0 1 2 open\n\n"
unfolding net_text_of packed_of clusters_after cluster_of bles_of
whole_chain = rw (digit_0, digit_1, digit_2) refl

-- a table that a latch and an output read: two BLEs
table_read_by_latch_and_output : net_text_of (packed_of (circuit (codes "a" ∷ codes "c" ∷ codes "q" ∷ codes "f" ∷ []) (0 ∷ 1 ∷ []) (2 ∷ 3 ∷ []) (record { line = 4; inputs = 0 ∷ []; output = 3 } ∷ []) (record { line = 6; input = 3; output = 2; control = Some 1 } ∷ [])) single)
    ≡ codes ".global c\n\n.input a\npinlist: a\n\n.input c\npinlist: c\n\n.output out:q\npinlist: q\n\n.output out:f\npinlist: f\n\n.clb f\npinlist: a open f open\nsubblock: f 0 open 2 open\n\n.clb q\npinlist: f open q c\nsubblock: q 0 open 2 3\n\n"
unfolding net_text_of packed_of clusters_after cluster_of bles_of
table_read_by_latch_and_output = rw (digit_0, digit_2, digit_3) refl

-- a table that only a latch reads: one BLE
table_read_by_latch_alone : net_text_of (packed_of (circuit (codes "a" ∷ codes "c" ∷ codes "q" ∷ codes "f" ∷ []) (0 ∷ 1 ∷ []) (2 ∷ []) (record { line = 4; inputs = 0 ∷ []; output = 3 } ∷ []) (record { line = 6; input = 3; output = 2; control = Some 1 } ∷ [])) single)
    ≡ codes ".global c\n\n.input a\npinlist: a\n\n.input c\npinlist: c\n\n.output out:q\npinlist: q\n\n.clb q\npinlist: a open q c\nsubblock: q 0 open 2 3\n\n"
unfolding net_text_of packed_of clusters_after cluster_of bles_of
table_read_by_latch_alone = rw (digit_0, digit_2, digit_3) refl

latch_without_clock : net_text_of (packed_of (circuit (codes "d" ∷ codes "q" ∷ []) (0 ∷ []) (1 ∷ []) [] (record { line = 4; input = 0; output = 1; control = None } ∷ [])) single)
    ≡ codes ".input d\npinlist: d\n\n.output out:q\npinlist: q\n\n.clb q\npinlist: d open q open\nsubblock: q 0 open 2 open\n\n"
unfolding net_text_of packed_of clusters_after cluster_of bles_of
latch_without_clock = rw (digit_0, digit_2) refl

-- two BLEs in a cluster, one of which reads the other
two_bles_in_a_cluster : net_text_of (packed_of (circuit (codes "a" ∷ codes "b" ∷ codes "g" ∷ codes "f" ∷ []) (0 ∷ 1 ∷ []) (2 ∷ []) (record { line = 4; inputs = 0 ∷ 1 ∷ []; output = 3 } ∷ record { line = 6; inputs = 3 ∷ []; output = 2 } ∷ []) []) paired)
    ≡ codes ".input a\npinlist: a\n\n.input b\npinlist: b\n\n.output out:g\npinlist: g\n\n.clb f\npinlist: a b open g open\nsubblock: f 0 1 open open\nsubblock: g ble_0 open 3 open\n\n"
unfolding net_text_of packed_of clusters_after cluster_of bles_of
two_bles_in_a_cluster = rw (digit_0, digit_1, digit_3) refl

-- a table that reads its own output
table_that_reads_itself : net_text_of (packed_of (circuit (codes "f" ∷ []) [] (0 ∷ []) (record { line = 3; inputs = 0 ∷ []; output = 0 } ∷ []) []) single)
    ≡ codes ".output out:f\npinlist: f\n\n.clb f\npinlist: open open f open\nsubblock: f ble_0 open 2 open\n\n"
unfolding net_text_of packed_of clusters_after cluster_of bles_of
table_that_reads_itself = rw (digit_0, digit_2) refl

-- a global net that is also read as data is on two pins
clock_as_data : net_text_of (packed_of (circuit (codes "c" ∷ codes "q" ∷ []) (0 ∷ []) (1 ∷ []) [] (record { line = 4; input = 0; output = 1; control = Some 0 } ∷ [])) single)
    ≡ codes ".global c\n\n.input c\npinlist: c\n\n.output out:q\npinlist: q\n\n.clb q\npinlist: c open q c\nsubblock: q 0 open 2 3\n\n"
unfolding net_text_of packed_of clusters_after cluster_of bles_of
clock_as_data = rw (digit_0, digit_2, digit_3) refl
