-- When a layout is what its three files say.
use Rattle.std.specs.Prelude.{ℕ, ◌≡◌, ◌≢◌, ◌-◌, Bool, true, false, List, [], All, Some, Result, Ok, Err, ⊤, codes, length, position}
use Rattle.layout_files.specs.Prelude.{Arch, Circuit, Block, Cluster, Strip, LaidBlock, LaidNet, Layout, net_text, place_text, route_text, TextError, NoMemory, Fault, Node, NodeKind, Source, Sink, Opin, Ipin, ChanX, ChanY}
use Rattle.layout_files.specs.Fitting.{FitsFiles, HasFileNames}

abbrev pub is_sink_kind : NodeKind → Bool
is_sink_kind Sink = true
is_sink_kind Source = false
is_sink_kind Opin = false
is_sink_kind Ipin = false
is_sink_kind ChanX = false
is_sink_kind ChanY = false

-- a path has one sink, which is its last node
abbrev pub EndsAtSink : List Node → Type 0
EndsAtSink path = position (λ node. is_sink_kind node.kind) path ≡ Some (length path - 1)

-- a pad has neither pins nor BLEs
abbrev pub IsBareAs : LaidBlock → Block → Type 0
IsBareAs laid (Cluster number) = Unit {0}
IsBareAs laid pad = (laid.pins ≡ []) × (laid.bles ≡ [])

abbrev pub IsBare : LaidBlock → Type 0
IsBare laid = IsBareAs laid laid.block

-- a net either lists blocks or has paths, of which each ends at its first sink
pub record HasWholePaths (net : LaidNet) : Type 0 where
  pub ends : All EndsAtSink net.paths
  pub either : (net.listed ≢ []) → net.paths ≡ []

-- What the texts don't print of a layout is so: where one path ends and the next one begins, the
-- paths of a global net, and what pads have in them.
pub record HasPrintedForm (layout : Layout) : Type 0 where
  pub blocks : All IsBare layout.blocks
  pub nets : All HasWholePaths layout.nets

-- The three texts are the print of this layout, which has the form of a print.
pub record ArePrintOf (circuit : Circuit) (arch : Arch) (strip : Strip) (net place route : List ℕ) (layout : Layout) : Type 0 where
  pub packing : net ≡ net_text circuit arch layout
  pub places : place ≡ place_text circuit strip layout
  pub routes : route ≡ route_text circuit strip layout
  pub form : HasPrintedForm layout

-- The three texts are the print of this layout. No net is called `open`, so in the `.net` text each
-- `open` is a pin without a net.
pub record AreFilesOf (circuit : Circuit) (arch : Arch) (strip : Strip) (net place route : List ℕ) (layout : Layout) : Type 0 where
  pub packing : net ≡ net_text circuit arch layout
  pub places : place ≡ place_text circuit strip layout
  pub routes : route ≡ route_text circuit strip layout
  pub form : HasPrintedForm layout
  pub named : All (λ name. name ≢ codes "open") circuit.nets

-- a layout that files can say, and the three texts are its print
pub record IsInFiles (circuit : Circuit) (arch : Arch) (strip : Strip) (net place route : List ℕ) (layout : Layout) : Type 0 where
  pub files : AreFilesOf circuit arch strip net place route layout
  pub names : HasFileNames circuit
  pub fits : FitsFiles circuit arch layout

-- What is read is the layout that the texts are the print of. Texts are refused, unless memory ran
-- out, only if they are the print of no layout that has numbers and names as files can say them.
abbrev pub IsReadingOf : {F : Type 0} → Circuit → Arch → Strip → List ℕ → List ℕ → List ℕ → Result Layout (TextError F) → Type 0
IsReadingOf circuit arch strip net place route (Ok found) = AreFilesOf circuit arch strip net place route found × ((layout : Layout) → IsInFiles circuit arch strip net place route layout → found ≡ layout)
IsReadingOf circuit arch strip net place route (Err NoMemory) = ⊤
IsReadingOf circuit arch strip net place route (Err (Fault fault)) = (layout : Layout) → IsInFiles circuit arch strip net place route layout → ⊥
