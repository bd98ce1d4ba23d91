-- The tools that read a layout, over the files of a routed tenancy.
use Rattle.std.specs.Prelude.{ℕ, ◌≡◌, ◌<◌, ◌^◌, List, Option, Some, length}
use Rattle.desk_layouts.specs.Asked.{IsAskedShape}
use Rattle.desk_layouts.specs.declared.layout_input.LayoutPaths.{LayoutPaths}
use Rattle.layout_verdict.specs.Texts.{Texts}
use Rattle.tenant_slot.specs.SingleUser.{State}
use Rattle.print_law.specs.Prints.{AreTextsOf}

-- The files at the paths have the texts of the tenancy, and the size and the tracks that are asked
-- for are those of its strip. `text` gives the text of a file by its path. No file has 2^64 bytes.
pub record HasFilesAt (state : State) (text : List ℕ → Option (List ℕ)) (paths : LayoutPaths) : Type 0 where
  pub texts : Texts
  pub own : AreTextsOf state texts
  pub asked : IsAskedShape paths texts.shape
  pub arch : text paths.arch.now ≡ Some texts.arch
  pub netlist : text paths.netlist.now ≡ Some texts.netlist
  pub net : text paths.net.now ≡ Some texts.net
  pub place : text paths.place.now ≡ Some texts.place
  pub route : text paths.route.now ≡ Some texts.route
  pub net_size : length texts.net < 2 ^ 64
  pub place_size : length texts.place < 2 ^ 64
  pub route_size : length texts.route < 2 ^ 64
