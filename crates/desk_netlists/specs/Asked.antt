-- What the options of tools ask for.
use Rattle.std.specs.Prelude.{ℕ, ◌≡◌, true, false, List, Option, Some, None, option_map, codes}
use Rattle.desk_netlists.specs.Prelude.{Given, is_given, text_of, HavePlan, LoadParameters, Phase, Reading, Packing, Placing, Routing, is_name, ScriptParameters, IsNumberIn}
use Rattle.option_words.specs.Values.{number_of}
use Rattle.desk_netlists.specs.declared.random.RandomWishes.{RandomWishes}
use Rattle.desk_netlists.specs.declared.route_wishes.Extras.{Extras}
use Rattle.desk_netlists.specs.declared.route_wishes.RouteForm.{RouteForm}
use Rattle.desk_netlists.specs.declared.route_wishes.RouteForm.TheVariants.{Lines, Path, Table, Json}
use Rattle.desk_netlists.specs.declared.route_wishes.RouteWishes.{RouteWishes}
use Rattle.desk_netlists.specs.declared.route_wishes.Size.{Size}
use Rattle.desk_netlists.specs.declared.route_wishes.Size.TheVariants.{Given as GivenBoth, LeastSquare, LeastColumns, LeastRows}
use Rattle.desk_netlists.specs.declared.route_wishes.Tracks.{Tracks}

-- the number of tracks is that of its option, or else the least is asked for
abbrev pub AreTracksAskedFor : Given → Option Tracks → Type 0
AreTracksAskedFor given (Some tracks) = (number_of 32 given (codes "tracks") ≡ Some tracks.number) × (is_given given (codes "least-tracks") ≡ false)
AreTracksAskedFor given None = (text_of given (codes "tracks") ≡ None) × (is_given given (codes "least-tracks") ≡ true)

-- the columns and the rows are those of their options
abbrev pub AreSides : Given → Option ℕ → Option ℕ → Type 0
AreSides given columns rows = IsNumberIn given (codes "columns") columns × IsNumberIn given (codes "rows") rows

-- a side that isn't given is the least; the option for the least columns is given only with rows
abbrev pub IsSizeAskedFor : Given → Size → Type 0
IsSizeAskedFor given (GivenBoth size) = AreSides given (Some size.columns) (Some size.rows) × (is_given given (codes "least-columns") ≡ false)
IsSizeAskedFor given LeastSquare = AreSides given None None × (is_given given (codes "least-columns") ≡ false)
IsSizeAskedFor given (LeastColumns rows) = AreSides given None (Some rows)
IsSizeAskedFor given (LeastRows columns) = AreSides given (Some columns) None × (is_given given (codes "least-columns") ≡ false)

-- the form of the summary is the only one that is given, or else lines
abbrev pub IsFormAskedFor : Given → RouteForm → Type 0
IsFormAskedFor given Lines = (is_given given (codes "csv") ≡ false) × (is_given given (codes "json") ≡ false) × (is_given given (codes "path") ≡ false)
IsFormAskedFor given Path = (is_given given (codes "csv") ≡ false) × (is_given given (codes "json") ≡ false) × (is_given given (codes "path") ≡ true)
IsFormAskedFor given Table = (is_given given (codes "csv") ≡ true) × (is_given given (codes "json") ≡ false) × (is_given given (codes "path") ≡ false)
IsFormAskedFor given Json = (is_given given (codes "csv") ≡ false) × (is_given given (codes "json") ≡ true) × (is_given given (codes "path") ≡ false)

-- what is made of the three files is what is given
abbrev pub extras_of : Given → Extras
extras_of given = record {
  has_picture = is_given given (codes "svg");
  has_page = is_given given (codes "page");
  has_configuration = is_given given (codes "configuration");
  has_verdict = is_given given (codes "check");
}

-- each wish of `route` is that of its own option
pub record IsRouteAskedFor (given : Given) (wishes : RouteWishes) : Type 0 where
  pub arch : text_of given (codes "arch") ≡ Some wishes.arch.now
  pub netlist : text_of given (codes "netlist") ≡ Some wishes.netlist.now
  pub folder : text_of given (codes "folder") ≡ Some wishes.folder.now
  pub tracks : AreTracksAskedFor given wishes.tracks
  pub size : IsSizeAskedFor given wishes.size
  pub seed : number_of 64 given (codes "seed") ≡ Some wishes.seed
  pub effort : number_of 32 given (codes "effort") ≡ Some wishes.effort
  pub pins : option_map (λ path. path.now) wishes.pins ≡ text_of given (codes "pins")
  pub told : wishes.is_told ≡ is_given given (codes "progress")
  pub form : IsFormAskedFor given wishes.form
  pub extras : wishes.extras ≡ extras_of given

-- each wish of `script` is that of its own option
pub record IsScriptAskedFor (given : Given) (wishes : ScriptParameters) : Type 0 where
  pub name : text_of given (codes "name") ≡ Some wishes.name.now
  pub lawful : is_name wishes.name.now ≡ true
  pub width : IsNumberIn given (codes "width") wishes.width
  pub seed : number_of 64 given (codes "seed") ≡ Some wishes.seed
  pub effort : number_of 32 given (codes "effort") ≡ Some wishes.effort

-- the word for the last phase of a random script
abbrev pub word_of : Phase → List ℕ
word_of Reading = codes "reading"
word_of Packing = codes "packing"
word_of Placing = codes "placing"
word_of Routing = codes "routing"

-- each parameter of a random script is that of its own option
pub record IsLoadAskedFor (given : Given) (load : LoadParameters) : Type 0 where
  pub tables : number_of 32 given (codes "tables") ≡ Some load.tables
  pub tenancies : number_of 32 given (codes "tenancies") ≡ Some load.tenancies
  pub inputs : number_of 32 given (codes "inputs") ≡ Some load.inputs
  pub cluster : number_of 32 given (codes "cluster") ≡ Some load.cluster
  pub seed : number_of 64 given (codes "seed") ≡ Some load.seed
  pub until : text_of given (codes "until") ≡ Some (word_of load.until)

-- each wish of `random` is that of its own option, and a device has room for it
pub record IsRandomAskedFor (given : Given) (wishes : RandomWishes) : Type 0 where
  pub load : IsLoadAskedFor given wishes.plan.wishes
  pub room : HavePlan wishes.plan.wishes
  pub alone : wishes.is_alone ≡ is_given given (codes "blif")
