-- Which circuits and layouts the three files can say.
use Rattle.std.specs.Prelude.{ℕ, ◌≡◌, ◌≢◌, ◌<◌, ◌≤◌, ◌^◌, Bool, true, false, List, All, AllPairs, Some, codes, count_by, length, slice_get, take, ⊤}
use Rattle.std.specs.Option.{ForSome}
use Rattle.layout_files.specs.Prelude.{Arch, Circuit, Block, InputPad, OutputPad, Cluster, Place, LaidBle, LaidBlock, LaidNet, Layout, Feed, Pin, Ble, Node}
use Rattle.layout_files.specs.Cursors.{IsPlain}

-- all names of nets differ, none is `open`, and none has a space or a line end in it; nor has the
-- name of the model
pub record HasFileNames (circuit : Circuit) : Type 0 where
  pub model : IsPlain circuit.model
  pub plain : All IsPlain circuit.nets
  pub none_open : All (λ name. name ≢ codes "open") circuit.nets
  pub once : AllPairs (λ name other. name ≢ other) circuit.nets
  pub few : length circuit.nets ≤ 2 ^ 32

-- the numbers of a place have 32 bits
pub record IsSmallPlace (place : Place) : Type 0 where
  pub x : place.x < 2 ^ 32
  pub y : place.y < 2 ^ 32
  pub subblock : place.subblock < 2 ^ 32

-- the numbers of a node have 32 bits
pub record IsSmallNode (node : Node) : Type 0 where
  pub x : node.x < 2 ^ 32
  pub y : node.y < 2 ^ 32
  pub n : node.n < 2 ^ 32

abbrev pub feed_number : Feed → ℕ
feed_number (Pin pin) = pin
feed_number (Ble place) = place

-- a BLE drives one of so many nets, and has no more inputs than a table
pub record FitsBle (nets lut_size : ℕ) (ble : LaidBle) : Type 0 where
  pub name : ble.name < nets
  pub inputs : All (λ feed. feed_number feed < 2 ^ 32) ble.inputs
  pub narrow : length ble.inputs ≤ lut_size
  pub output : ForSome ble.output (λ pin. pin < 2 ^ 32)
  pub clock : ForSome ble.clock (λ pin. pin < 2 ^ 32)

-- a pad is one of so many nets
abbrev pub FitsPad : ℕ → Block → Type 0
FitsPad nets (InputPad net) = net < nets
FitsPad nets (OutputPad net) = net < nets
FitsPad nets (Cluster number) = ⊤

pub record FitsBlock (nets lut_size : ℕ) (laid : LaidBlock) : Type 0 where
  pub pad : FitsPad nets laid.block
  pub pins : All (λ pin. ForSome pin (λ net. net < nets)) laid.pins
  pub bles : All (FitsBle nets lut_size) laid.bles
  pub place : IsSmallPlace laid.place

abbrev pub is_cluster : Block → Bool
is_cluster (InputPad net) = false
is_cluster (OutputPad net) = false
is_cluster (Cluster number) = true

-- a cluster has this number
abbrev pub HasNumber : ℕ → Block → Type 0
HasNumber number (InputPad net) = ⊤
HasNumber number (OutputPad net) = ⊤
HasNumber number (Cluster cluster) = cluster ≡ number

-- each cluster has the number of clusters before it as its number
abbrev pub AreNumbered : List LaidBlock → Type 0
AreNumbered blocks = (place : ℕ) (laid : LaidBlock) → slice_get blocks place ≡ Some laid → HasNumber (count_by (λ before. is_cluster before.block) (take place blocks)) laid.block

pub record FitsNet (nets : ℕ) (between : LaidNet) : Type 0 where
  pub net : between.net < nets
  pub listed : All (λ block. block < 2 ^ 32) between.listed
  pub nodes : All (All IsSmallNode) between.paths

-- a layout that files can say: its nets are those of the circuit, its clusters are numbered in
-- order, and its numbers have 32 bits
pub record FitsFiles (circuit : Circuit) (arch : Arch) (layout : Layout) : Type 0 where
  pub globals : All (λ net. net < length circuit.nets) layout.globals
  pub blocks : All (FitsBlock (length circuit.nets) arch.lut_size) layout.blocks
  pub numbered : AreNumbered layout.blocks
  pub few_blocks : length layout.blocks < 2 ^ 32
  pub nets : All (FitsNet (length circuit.nets)) layout.nets
