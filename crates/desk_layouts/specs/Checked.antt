-- What the tools say of a layout's files.
use Rattle.std.specs.Prelude.{ℕ, List, Option}
use Rattle.desk_layouts.specs.Prelude.{IsBeginning, StripShape, LaidCircuit, IsReadFrom, Texts, IsImplemented}
use Rattle.desk_layouts.specs.Asked.{IsAskedShape}
use Rattle.desk_layouts.specs.declared.given_files.GivenFiles.{GivenFiles}
use Rattle.desk_layouts.specs.declared.given_files.TheConstants.{MAX_FILE, MAX_READ}
use Rattle.desk_layouts.specs.declared.layout_input.LayoutPaths.{LayoutPaths}

-- The bytes are those of the files at the paths. `text` gives the text of a file by its path, if
-- that is known.
pub record AreRead (text : List ℕ → Option (List ℕ)) (paths : LayoutPaths) (given : GivenFiles) : Type 0 where
  pub arch : IsBeginning (text paths.arch.now) MAX_READ given.arch.items
  pub netlist : IsBeginning (text paths.netlist.now) MAX_READ given.netlist.items
  pub net : IsBeginning (text paths.net.now) MAX_FILE given.net.items
  pub place : IsBeginning (text paths.place.now) MAX_FILE given.place.items
  pub route : IsBeginning (text paths.route.now) MAX_FILE given.route.items

-- these bytes, for a strip of that shape
abbrev pub texts_with : GivenFiles → StripShape → Texts
texts_with given shape = record {
  shape = shape;
  arch = given.arch.items;
  netlist = given.netlist.items;
  net = given.net.items;
  place = given.place.items;
  route = given.route.items;
}

-- The architecture and the circuit are those that the bytes mean, the three files are the print of
-- the layout, and the layout implements the circuit.
pub record IsLaidIn (paths : LayoutPaths) (given : GivenFiles) (laid : LaidCircuit) : Type 0 where
  pub shape : StripShape
  pub asked : IsAskedShape paths shape
  pub read : IsReadFrom (texts_with given shape) laid
  pub implemented : IsImplemented laid

-- the files at the paths are read, and they are the print of a layout that implements the circuit
pub record IsChecked (text : List ℕ → Option (List ℕ)) (paths : LayoutPaths) : Type 0 where
  pub given : GivenFiles
  pub read : AreRead text paths given
  pub laid : LaidCircuit
  pub laid_in : IsLaidIn paths given laid
