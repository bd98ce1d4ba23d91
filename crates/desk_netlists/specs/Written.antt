-- The files of a netlist that are written.
use Rattle.std.specs.Prelude.{ℕ, ◌≡◌, ◌≢◌, ◌<◌, ◌⊎◌, Bool, true, false, List, [], ◌∷◌, ◌++◌, Option, Ok, codes, length, slice_index_or}
use Rattle.std.specs.Path.{slash}
use Rattle.desk_netlists.specs.Prelude.{configuration_text, IsReadFrom, IsImplemented, LaidCircuit, StripShape, JoinedLine, lines_of, AreAdded, NamedBytes, Files, FlowOutcome, Unrouted}
use Rattle.one_user.specs.declared.outcome.FlowOutcome.TheVariants as outcome
use Rattle.desk_netlists.specs.declared.route_job.RouteJob.{RouteJob}
use Rattle.desk_netlists.specs.declared.routed_table.Routed.{Routed}

-- what comes after the last slash of a path, or all of it
pub record IsLastPart (path last : List ℕ) : Type 0 where
  pub after : (path ≡ last) ⊎ ((folders : List ℕ) × (path ≡ folders ++ slash ∷ last))
  pub no_slash : (place : ℕ) → place < length last → slice_index_or last place 0 ≢ slash

-- the name of the file with this path, without its folders and the ending `.blif`
pub record IsStem (path name : List ℕ) : Type 0 where
  pub last : List ℕ
  pub last_part : IsLastPart path last
  pub without : (last ≡ name ++ codes ".blif") ⊎ ((last ≡ name) × ((front : List ℕ) → last ≢ front ++ codes ".blif"))

-- these bytes, as the job's file of that kind
abbrev pub of_kind : RouteJob → List ℕ → List ℕ → NamedBytes
of_kind job kind bytes = record { folder = job.wishes.folder.now; name = job.name.now; kind = kind; bytes = bytes }

-- the three files of a netlist with routes
abbrev pub three_files : RouteJob → Files → List NamedBytes
three_files job files = of_kind job (codes "net") files.net ∷ of_kind job (codes "place") files.places ∷ of_kind job (codes "route") files.routes ∷ []

-- the two files of a netlist without routes
abbrev pub left_files : RouteJob → Unrouted → List NamedBytes
left_files job left = of_kind job (codes "net") left.net ∷ of_kind job (codes "place") left.places ∷ []

-- the bytes of the files beside the three
pub record ExtraTexts : Type 0 where
  pub picture : List ℕ
  pub page : List ℕ
  pub configuration : List ℕ

abbrev pub if_asked : Bool → NamedBytes → List NamedBytes
if_asked true file = file ∷ []
if_asked false file = []

-- the files beside the three that are asked for
abbrev pub extra_files : RouteJob → ExtraTexts → List NamedBytes
extra_files job texts =
    if_asked job.wishes.extras.has_picture (of_kind job (codes "svg") texts.picture)
    ++ (if_asked job.wishes.extras.has_page (of_kind job (codes "html") texts.page) ++ if_asked job.wishes.extras.has_configuration (of_kind job (codes "configuration") texts.configuration))

-- private: exactly the file of that kind is written, if it is asked for
abbrev pub IsExtra : RouteJob → List ℕ → Bool → Option (List NamedBytes) → Option (List NamedBytes) → Type 0
IsExtra job kind asked old new = (text : List ℕ) × AreAdded old new (if_asked asked (of_kind job kind text))

-- the three files of the routed netlist are the print of that layout, and it implements its circuit
pub record IsLaidIn (routed : Routed) (laid : LaidCircuit) : Type 0 where
  pub shape : StripShape
  pub columns : shape.columns ≡ routed.size.columns
  pub rows : shape.rows ≡ routed.size.rows
  pub read : IsReadFrom (record {
    shape = shape;
    arch = routed.arch.now;
    netlist = routed.netlist.now;
    net = routed.texts.net.now;
    place = routed.texts.place.now;
    route = routed.texts.route.now;
  }) laid
  pub implemented : IsImplemented laid

-- the text is the configuration of that layout, with the tables of the netlist
pub record IsConfigurationOf (routed : Routed) (laid : LaidCircuit) (text : List ℕ) : Type 0 where
  pub lines : List JoinedLine
  pub lines_are : lines_of routed.netlist.now ≡ Ok lines
  pub text_is : text ≡ configuration_text lines laid.circuit laid.arch laid.strip laid.layout

-- if the configuration or the verdict is asked for, the files implement the netlist; and the
-- configuration is theirs
pub record AreChecked (job : RouteJob) (routed : Routed) (text : List ℕ) : Type 0 where
  pub verdict : job.wishes.extras.has_verdict ≡ true → (laid : LaidCircuit) × IsLaidIn routed laid
  pub configuration : job.wishes.extras.has_configuration ≡ true → (laid : LaidCircuit) × IsLaidIn routed laid × IsConfigurationOf routed laid text

-- private: the configuration is written, if it is asked for
abbrev pub IsConfigured : RouteJob → Routed → LaidCircuit → Option (List NamedBytes) → Option (List NamedBytes) → Type 0
IsConfigured job routed laid old new =
    (text : List ℕ) × (job.wishes.extras.has_configuration ≡ true → IsConfigurationOf routed laid text)
    × AreAdded old new (if_asked job.wishes.extras.has_configuration (of_kind job (codes "configuration") text))

-- private: the same, and the files are checked
abbrev pub IsCheckedExtra : RouteJob → Routed → Option (List NamedBytes) → Option (List NamedBytes) → Type 0
IsCheckedExtra job routed old new =
    (text : List ℕ) × AreChecked job routed text × AreAdded old new (if_asked job.wishes.extras.has_configuration (of_kind job (codes "configuration") text))

-- private: exactly these files are written
abbrev pub AreExtras : RouteJob → Routed → Option (List NamedBytes) → Option (List NamedBytes) → Type 0
AreExtras job routed old new = (texts : ExtraTexts) × AreChecked job routed texts.configuration × AreAdded old new (extra_files job texts)

-- the netlist of a job with these files
pub record IsRoutedOf (job : RouteJob) (files : Files) (routed : Routed) : Type 0 where
  pub arch : routed.arch.now ≡ job.arch.now
  pub netlist : routed.netlist.now ≡ job.request.netlist.now
  pub size : routed.size ≡ job.size
  pub net : routed.texts.net.now ≡ files.net
  pub place : routed.texts.place.now ≡ files.places
  pub route : routed.texts.route.now ≡ files.routes

-- the netlist is routed, and exactly its three files are written, and those beside them that are
-- asked for
pub record AreWritten (job : RouteJob) (ended : FlowOutcome) (old new : Option (List NamedBytes)) : Type 0 where
  pub files : Files
  pub is_routed : ended ≡ outcome.Routed files
  pub routed : Routed
  pub of : IsRoutedOf job files routed
  pub extras : ExtraTexts
  pub checked : AreChecked job routed extras.configuration
  pub written : AreAdded old new (three_files job files ++ extra_files job extras)
