-- Private: the sites that are taken.
use Rattle.std.specs.Prelude.{ℕ, ◌+◌, ◌<◌, ◌≤◌, ◌^◌, Bool, true, false, List, [], ◌∷◌, Option, Some, None, drop, length, replicate, slice_set, All}
use Rattle.std.specs.List.{prefix_len}
use Rattle.std.specs.Option.{ForSome}
use Rattle.strip_place.specs.Prelude.{Kind, Logic, Pad}

-- a mark for each site, and for each kind a site from which the free ones begin
pub record Vacancies : Type 0 where
  pub marks : List Bool
  pub logic : ℕ
  pub pads : ℕ

pub record IsVacancies (marks : List Bool) (logic pads : ℕ) : Type 0 where
  pub few : length marks < 2 ^ 32
  pub logic_inside : logic ≤ length marks
  pub pads_inside : pads ≤ length marks

-- there are `count` sites, and the kept sites are among them
pub record AreSitesOf (count : ℕ) (kept : List (Option ℕ)) : Type 0 where
  pub few : count < 2 ^ 32
  pub inside : All (λ site. ForSome site (λ number. number < count)) kept

-- nothing is taken
abbrev pub all_free : ℕ → List Bool
all_free count = replicate {A = Bool} count false

-- the marks, with the kept sites marked
abbrev pub mark_at : List Bool → Option ℕ → List Bool
mark_at marks None = marks
mark_at marks (Some site) = slice_set marks site true

abbrev pub marks_with : List Bool → List (Option ℕ) → List Bool
marks_with marks [] = marks
marks_with marks (site ∷ kept) = marks_with (mark_at marks site) kept

-- the first site without a mark
abbrev pub first_from : List Bool → ℕ → ℕ
first_from marks from = from + prefix_len (λ (mark : Bool). mark) (drop from marks)

abbrev pub lowest_vacant : Vacancies → Kind → ℕ
lowest_vacant vacancies Logic = first_from vacancies.marks vacancies.logic
lowest_vacant vacancies Pad = first_from vacancies.marks vacancies.pads

abbrev pub without_lowest : Vacancies → Kind → Vacancies
without_lowest vacancies Logic = record vacancies { marks = slice_set vacancies.marks (first_from vacancies.marks vacancies.logic) true; logic = first_from vacancies.marks vacancies.logic }
without_lowest vacancies Pad = record vacancies { marks = slice_set vacancies.marks (first_from vacancies.marks vacancies.pads) true; pads = first_from vacancies.marks vacancies.pads }
