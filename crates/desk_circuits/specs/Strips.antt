-- A strip, by the three files of a tenancy.
use Rattle.std.specs.Prelude.{ℕ, List, Option, Some, None}
use Rattle.desk_circuits.specs.Prelude.{FileStates, AreBlocksNamed, AreElementsNamed, AreNamed, AreTold, node_lines, HavePlaces, AreBegun, AreBlocksBegun, RoutedStrip, StripTexts}

-- a tenancy's `.net`, `.place` and `.route` file
pub record StripFiles : Type 0 where
  pub net : List ℕ
  pub place : List ℕ
  pub route : List ℕ

abbrev pub files_of_texts : StripTexts → StripFiles
files_of_texts texts = record { net = texts.net.now; place = texts.place.now; route = texts.route.now }

-- the three files, if all are present
abbrev pub files_if_all : Option (List ℕ) → Option (List ℕ) → Option (List ℕ) → Option StripFiles
files_if_all (Some net) (Some place) (Some route) = Some (record { net = net; place = place; route = route })
files_if_all (Some net) (Some place) None = None
files_if_all (Some net) None route = None
files_if_all None place route = None

abbrev pub present_files : FileStates → Option StripFiles
present_files states = files_if_all states.net.text states.place.text states.route.text

-- the strip is what the files say: the nodes and the nets of the `.route` file, with the nets'
-- names; the blocks and BLEs of the `.net` file, with their names; and the places of the `.place`
-- file
pub record IsStripOf (files : StripFiles) (strip : RoutedStrip) : Type 0 where
  pub nodes : AreTold (node_lines files.route) strip.nodes.items
  pub nets : AreBegun files.route strip.nets.items
  pub names : AreNamed files.route strip.nets.items
  pub blocks : AreBlocksBegun files.net strip.blocks.items
  pub block_names : AreBlocksNamed files.net strip.blocks.items
  pub places : HavePlaces files.place strip.blocks.items
  pub elements : AreElementsNamed files.net strip.elements.items
