-- What the tool that draws one tenancy reads, checks and writes.
use Rattle.std.specs.Prelude.{ℕ, ◌≡◌, ◌-◌, ◌^◌, Bool, true, false, List, [], ◌∷◌, ◌++◌, map, codes, eqb, if◌then◌else◌, position, Option, Some, IfSome, ⊤}
use Rattle.std.specs.List.{flat_map, starts_with}
use Rattle.std.specs.Str.{bytes_eq}
use Rattle.desk_layouts.specs.Prelude.{IsReadFrom, Texts, IsImplemented, LaidCircuit, StripShape, physical_lines, first_line, later_lines, TakesAll, page_text, PageItem, Viewer, AreNamed, RoutedStrip, StripTexts, IsBeginning, Outcome, NoMemory, StripRefused}
use Rattle.strip_files.specs.declared.route_text.Net.{Net}
use Rattle.desk_layouts.specs.declared.given_files.TheConstants.{MAX_READ}
use Rattle.desk_layouts.specs.declared.strip_wishes.Shown.{Shown}
use Rattle.desk_layouts.specs.declared.strip_wishes.Shown.TheVariants.{Net as OneNet, Page}
use Rattle.desk_layouts.specs.declared.strip_wishes.StripWishes.{StripWishes}
use Rattle.desk_layouts.specs.declared.strip_check.Against.{Against}

-- ---- the three texts

-- the bytes of a tenancy's `.net`, `.place` and `.route` text
pub record StripBytes : Type 0 where
  pub net : List ℕ
  pub place : List ℕ
  pub route : List ℕ

abbrev pub bytes_of : StripTexts → StripBytes
bytes_of texts = record { net = texts.net.now; place = texts.place.now; route = texts.route.now }

-- a line of a `.net` text, without its pins
abbrev pub unpinned_line : List ℕ → List ℕ
unpinned_line line = (if starts_with eqb line (codes "pinlist:") then [] else line) ++ 10 ∷ []

-- a `.net` text in which no block has a net
abbrev pub unpinned_text : List ℕ → List ℕ
unpinned_text net = flat_map unpinned_line (physical_lines net)

-- a `.route` text without nets, of the size in the second line of a `.place` text
abbrev pub unrouted_text : List ℕ → List ℕ
unrouted_text place = first_line (later_lines place) ++ codes ".\n\nRouting:\n\n"

-- the packing and the places without nets
abbrev pub without_nets : List ℕ → List ℕ → StripBytes
without_nets net place = record { net = unpinned_text net; place = place; route = unrouted_text place }

-- the packing and the places, and the routes that are read from a file
pub record AreWithRoutes (known : Option (List ℕ)) (net place : List ℕ) (bytes : StripBytes) : Type 0 where
  pub net_is : bytes.net ≡ net
  pub place_is : bytes.place ≡ place
  pub route : IsBeginning known (2 ^ 64 - 1) bytes.route

-- private: the same, or without nets if there is no file with routes
abbrev pub AreBytesIf : Bool → Option (List ℕ) → List ℕ → List ℕ → StripBytes → Type 0
AreBytesIf true known net place bytes = bytes ≡ without_nets net place
AreBytesIf false known net place bytes = AreWithRoutes known net place bytes

-- What is drawn from the packing and the places: with the routes in the third file, or without nets
-- if that is `-`. `text` gives the text of a file by its path, if that is known.
abbrev pub AreBytes : (List ℕ → Option (List ℕ)) → StripWishes → List ℕ → List ℕ → StripBytes → Type 0
AreBytes text wishes net place bytes = AreBytesIf (bytes_eq wishes.route_file.now (codes "-")) (text wishes.route_file.now) net place bytes

-- ---- the check

-- the bytes, for a strip of that shape
abbrev pub texts_on : StripShape → List ℕ → List ℕ → StripBytes → Texts
texts_on shape arch netlist bytes = record { shape = shape; arch = arch; netlist = netlist; net = bytes.net; place = bytes.place; route = bytes.route }

-- the bytes are the print of a layout that implements the circuit of the netlist, on a device with
-- that number of tracks
pub record Implement (tracks : ℕ) (arch netlist : List ℕ) (bytes : StripBytes) : Type 0 where
  pub shape : StripShape
  pub tracks_are : shape.tracks ≡ tracks
  pub laid : LaidCircuit
  pub read : IsReadFrom (texts_on shape arch netlist bytes) laid
  pub implemented : IsImplemented laid

-- the bytes implement the netlist of that file, on the architecture of the other one
pub record AreChecked (text : List ℕ → Option (List ℕ)) (against : Against) (bytes : StripBytes) : Type 0 where
  pub arch : List ℕ
  pub is_arch : IsBeginning (text against.arch.now) MAX_READ arch
  pub netlist : List ℕ
  pub is_netlist : IsBeginning (text against.netlist.now) MAX_READ netlist
  pub implement : Implement against.tracks arch netlist bytes

-- the three texts are refused, or memory ran out
abbrev pub IsRefusedStrip : Outcome → Type 0
IsRefusedStrip NoMemory = ⊤
IsRefusedStrip (StripRefused fault) = ⊤
IsRefusedStrip other = ⊥

-- ---- what is drawn

-- one of the nets of a `.route` text has this name
pub record HasNet (route name : List ℕ) : Type 0 where
  pub nets : List Net
  pub named : AreNamed route nets
  pub number : ℕ
  pub found : position (λ net. bytes_eq net.name.now name) nets ≡ Some number

-- private: a net that is asked for is one of the strip's
abbrev pub IsThere : RoutedStrip → Shown → Type 0
IsThere strip (OneNet name) = (number : ℕ) × (position (λ net. bytes_eq net.name.now name.now) strip.nets.items ≡ Some number)
IsThere strip other = ⊤

-- a text of a page, its kind, and whose it is
pub record ItemBytes : Type 0 where
  pub kind : List ℕ
  pub name : List ℕ
  pub text : List ℕ

abbrev pub item_bytes : PageItem → ItemBytes
item_bytes item = record { kind = item.kind.now; name = item.name.now; text = item.text.now }

abbrev pub strip_item : List ℕ → List ℕ → ItemBytes
strip_item kind text = record { kind = kind; name = codes "strip"; text = text }

-- the texts of a tenancy's page
abbrev pub strip_items : StripBytes → List ItemBytes
strip_items bytes = strip_item (codes "net") bytes.net ∷ strip_item (codes "place") bytes.place ∷ strip_item (codes "route") bytes.route ∷ []

module _ {S : Type 0} (contents : S → Option (List ℕ)) (has_failed : S → Bool) (old new : S) where
  -- the page with exactly the three texts is written
  pub record IsPage (bytes : StripBytes) : Type 0 where
    pub viewer : Viewer
    pub items : List PageItem
    pub are : map item_bytes items ≡ strip_items bytes
    pub written : TakesAll contents has_failed old new (page_text viewer items)

  -- a page has the three texts, and a net that is drawn is there; what a picture shows is not said
  abbrev pub IsShown : Shown → StripBytes → Type 0
  IsShown Page bytes = IsPage bytes
  IsShown (OneNet name) bytes = HasNet bytes.route name.now
  IsShown other bytes = ⊤

  -- private: the bytes are checked if a netlist is given, and drawn
  abbrev pub IsCheckedAndShown : (List ℕ → Option (List ℕ)) → StripWishes → StripBytes → Type 0
  IsCheckedAndShown text wishes bytes = IfSome wishes.against (λ against. AreChecked text against bytes) × IsShown wishes.shown bytes

  -- The files of a tenancy are read and drawn. If a netlist is given, they are drawn only if they
  -- are the print of a layout that implements it.
  pub record IsDrawn (text : List ℕ → Option (List ℕ)) (wishes : StripWishes) : Type 0 where
    pub net : List ℕ
    pub is_net : IsBeginning (text wishes.net_file.now) (2 ^ 64 - 1) net
    pub place : List ℕ
    pub is_place : IsBeginning (text wishes.place_file.now) (2 ^ 64 - 1) place
    pub bytes : StripBytes
    pub are : AreBytes text wishes net place bytes
    pub checked : IfSome wishes.against (λ against. AreChecked text against bytes)
    pub shown : IsShown wishes.shown bytes
