-- Private: the account that the core keeps.
use Rattle.std.specs.Prelude.{ℕ, Bool, true, ◌≡◌, ◌+◌, ◌≤◌, List, [], ◌∷◌, length, if◌then◌else◌}
use Rattle.shared_core.specs.declared.shared.TheConstants.{MAX_WORKERS}
use Rattle.shared_core.specs.Prelude.{MAX_ADMISSIONS, History, ServiceState, history_of, entries_in}
use Rattle.shared_core.specs.CoreState.{AreSlotted, Marked, is_live, places_of, puts_in}
use Rattle.shared_core.specs.Following.{Follows, Stays}
use Rattle.shared_core.specs.Reaching.{IsReached}

-- the places rise, the first is at least `least`, and the last is below `n`
abbrev pub IsRising : ℕ → List ℕ → ℕ → Type 0
IsRising least [] n = least ≤ n
IsRising least (p ∷ ps) n = (least ≤ p) × IsRising (p + 1) ps n

abbrev pub AreRising : List ℕ → Type 0
AreRising places = (n : ℕ) × IsRising 0 places n

-- the number of marked entries
abbrev pub places_sum : List Marked → ℕ
places_sum [] = 0
places_sum (m ∷ ms) = length m.places + places_sum ms

-- the number of leases that were given
abbrev pub leases_in : List Marked → ℕ
leases_in [] = 0
leases_in (m ∷ ms) = (if m.given then 1 else 0) + leases_in ms

abbrev pub entries_of : List History → ℕ → ℕ
entries_of histories id = length (entries_in (history_of histories id))

-- there are marks for each id that was given, and each mark is the place of an entry, in rising
-- order, after the entries with which the core began
pub record AreMarks (begun histories : List History) (marks : List Marked) : Type 0 where
  pub count : length marks ≡ length histories
  pub few : length marks ≤ MAX_ADMISSIONS
  pub rising : (id : ℕ) → IsRising (entries_of begun id) (places_of marks id) (entries_of histories id)

-- the ledger of commands counts the marked entries, and each lease that was given has one of its
-- parts
pub record CountsCommands (marks : List Marked) (total parts amount whole : ℕ) : Type 0 where
  pub all : total ≡ places_sum marks
  pub cut : whole ≡ MAX_ADMISSIONS + 1
  pub spare : parts + leases_in marks ≡ MAX_ADMISSIONS + 1
  pub none_spare : amount ≡ 0

-- the ledger of puts counts the put entries, and each share that was given has one of its parts
pub record CountsPuts (histories : List History) (total parts whole shares : ℕ) : Type 0 where
  pub all : total ≡ puts_in histories
  pub cut : whole ≡ MAX_WORKERS + 1
  pub own : parts + shares ≡ MAX_WORKERS + 1
  pub few : shares ≤ MAX_WORKERS

-- the service goes on from the one with which the core began, and if the tenancies are to stay they
-- do; it was reached by calls of threads, in which exactly the leases' commands are served; and the
-- counts are right
pub record IsAccount (begun : ServiceState) (stay : Bool) (service : ServiceState) (marks : List Marked) (holders : List ℕ) (commands : ℕ × ℕ × ℕ × ℕ) (puts : ℕ × ℕ × ℕ) (shares : ℕ) : Type 0 where
  pub follows : Follows begun service
  pub stays : stay ≡ true → Stays begun service
  pub reached : stay ≡ true → IsReached begun service marks
  pub placed : AreMarks begun.histories service.histories marks
  pub slotted : AreSlotted (is_live service.histories) holders
  pub commanded : CountsCommands marks commands.0 commands.1 commands.2 commands.3
  pub put : CountsPuts service.histories puts.0 puts.1 puts.2 shares
