-- What the options of a tool that reads a layout say, and what its `.place` file adds.
use Rattle.std.specs.Prelude.{ℕ, ◌≡◌, List, Option, Some, codes, option_map, IfSome}
use Rattle.std.specs.Option.{option_map_or}
use Rattle.desk_layouts.specs.Prelude.{Circuit, Strip, Layout, IsPlain, place_text, Given, number_of, text_of, AreLawful, StripShape, HasSize, StripSize, IsNumberIn}
use Rattle.strip_files.specs.SizeLines.{IsWithin}
use Rattle.desk_layouts.specs.declared.configure.ConfigureWishes.{ConfigureWishes}
use Rattle.desk_layouts.specs.declared.layout_input.LayoutPaths.{LayoutPaths}

-- the numbers that are given are within the limits of a strip
abbrev pub AreWithinLimits : Option ℕ → Option ℕ → ℕ → Type 0
AreWithinLimits columns rows tracks = AreLawful (option_map_or (λ number. number) columns 1) (option_map_or (λ number. number) rows 1) tracks

-- each path and each number is that of its option
pub record IsAskedFor (given : Given) (paths : LayoutPaths) : Type 0 where
  pub arch : text_of given (codes "arch") ≡ Some paths.arch.now
  pub netlist : text_of given (codes "netlist") ≡ Some paths.netlist.now
  pub net : text_of given (codes "packing") ≡ Some paths.net.now
  pub place : text_of given (codes "places") ≡ Some paths.place.now
  pub route : text_of given (codes "routes") ≡ Some paths.route.now
  pub columns : IsNumberIn given (codes "columns") paths.columns
  pub rows : IsNumberIn given (codes "rows") paths.rows
  pub tracks : number_of 32 given (codes "tracks") ≡ Some paths.tracks
  pub lawful : AreWithinLimits paths.columns paths.rows paths.tracks

-- so is the path of the file for the Verilog, if one is given
pub record IsConfigureAskedFor (given : Given) (wishes : ConfigureWishes) : Type 0 where
  pub paths : IsAskedFor given wishes.paths
  pub verilog : option_map (λ path. path.now) wishes.verilog ≡ text_of given (codes "verilog")

-- the strip has the tracks that are asked for, and the columns and the rows if they are given
abbrev pub IsAskedShape : LayoutPaths → StripShape → Type 0
IsAskedShape paths shape = (shape.tracks ≡ paths.tracks) × IfSome paths.columns (λ columns. shape.columns ≡ columns) × IfSome paths.rows (λ rows. shape.rows ≡ rows)

-- the text is the print of the places of a layout, on a strip of this width and with these rows
pub record ArePlacesOn (place : List ℕ) (width rows : ℕ) : Type 0 where
  pub circuit : Circuit
  pub strip : Strip
  pub layout : Layout
  pub model : IsPlain circuit.model
  pub width_is : strip.width ≡ width
  pub rows_are : strip.rows ≡ rows
  pub text : place ≡ place_text circuit strip layout

-- the size that such a text says is found
abbrev pub IsSizeOfPlaces : List ℕ → Option StripSize → Type 0
IsSizeOfPlaces place found = (width rows : ℕ) → IsWithin width rows → ArePlacesOn place width rows → HasSize found width rows

-- no shape of another size is asked for on which these are the places of a layout
abbrev pub IsOnlyShape : LayoutPaths → List ℕ → StripShape → Type 0
IsOnlyShape paths place shape = (asked : StripShape) → IsAskedShape paths asked → ArePlacesOn place asked.columns asked.rows → (asked.columns ≡ shape.columns) × (asked.rows ≡ shape.rows)
