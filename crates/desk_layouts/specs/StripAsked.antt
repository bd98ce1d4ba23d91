-- What the options of the tool that draws one tenancy ask for.
use Rattle.std.specs.Prelude.{◌≡◌, true, false, Option, Some, None, codes}
use Rattle.desk_layouts.specs.Prelude.{IsWithin, MAX_TRACKS, Given, is_given, number_of, text_of, Full, Fullest, Tracks}
use Rattle.desk_layouts.specs.declared.strip_wishes.Shown.{Shown}
use Rattle.desk_layouts.specs.declared.strip_wishes.Shown.TheVariants.{Nets, Net, Channels, Page}
use Rattle.desk_layouts.specs.declared.strip_wishes.StripWishes.{StripWishes}
use Rattle.desk_layouts.specs.declared.strip_check.Against.{Against}

-- a full channel has the number of tracks that is given, or else that of the fullest one
abbrev pub IsFullAskedFor : Given → Full → Type 0
IsFullAskedFor given Fullest = text_of given (codes "tracks") ≡ None
IsFullAskedFor given (Tracks tracks) = (number_of 32 given (codes "tracks") ≡ Some tracks) × IsWithin 1 tracks MAX_TRACKS

-- what is drawn is the page if it is given, or else the net or the channels, or else all nets
abbrev pub IsShownAskedFor : Given → Shown → Type 0
IsShownAskedFor given Page = is_given given (codes "page") ≡ true
IsShownAskedFor given (Net name) = (is_given given (codes "page") ≡ false) × (text_of given (codes "net") ≡ Some name.now) × (is_given given (codes "heat") ≡ false)
IsShownAskedFor given (Channels full) = (is_given given (codes "page") ≡ false) × (text_of given (codes "net") ≡ None) × (is_given given (codes "heat") ≡ true) × IsFullAskedFor given full
IsShownAskedFor given Nets = (is_given given (codes "page") ≡ false) × (text_of given (codes "net") ≡ None) × (is_given given (codes "heat") ≡ false)

-- the netlist, the architecture and the tracks against which the files are checked are those of
-- their options
pub record AreGivenFor (given : Given) (against : Against) : Type 0 where
  pub netlist : text_of given (codes "netlist") ≡ Some against.netlist.now
  pub arch : text_of given (codes "arch") ≡ Some against.arch.now
  pub tracks : number_of 32 given (codes "tracks") ≡ Some against.tracks
  pub lawful : IsWithin 1 against.tracks MAX_TRACKS

-- the files are checked exactly if a netlist is given
abbrev pub IsCheckAskedFor : Given → Option Against → Type 0
IsCheckAskedFor given None = text_of given (codes "netlist") ≡ None
IsCheckAskedFor given (Some against) = AreGivenFor given against

-- each wish of `strip` is that of its own option
pub record IsStripAskedFor (given : Given) (wishes : StripWishes) : Type 0 where
  pub net : text_of given (codes "packing") ≡ Some wishes.net_file.now
  pub place : text_of given (codes "places") ≡ Some wishes.place_file.now
  pub route : text_of given (codes "routes") ≡ Some wishes.route_file.now
  pub check : IsCheckAskedFor given wishes.against
  pub drawn : IsShownAskedFor given wishes.shown
