-- When the answers to sessions are what the journals say, entry by entry.
use Rattle.std.specs.Prelude.{ℕ, ◌≡◌, ◌+◌, ◌<◌, ◌≤◌, List, [], ◌∷◌, ◌++◌, length, map, All, AllPairs, ◌≢◌, Bool, true, false, Some, slice_get, ◌==◌, ◌||◌, ◌⊎◌}
use Rattle.tenant_slot.specs.declared.slot.TheConstants.{MAX_ENTRIES}
use Rattle.tenant_slot.specs.declared.event.Event.TheVariants.{Command as Asked}
use Rattle.service_core.specs.declared.entry.Entry.{Entry}
use Rattle.service_core.specs.declared.not_served.NoteCause.TheVariants.{JournalFull}
use Rattle.service_core.specs.Receipt.{Noted, Receipted}
use Rattle.service_core.specs.Run.{Call, Run}
use Rattle.service_core.specs.Service.{ServiceState, journal_of}
use Rattle.shared_core.specs.CoreState.{CoreState, Marked, ShareState, is_leased, is_marked, places_of, puts_in}
use Rattle.shared_core.specs.Reaching.{is_of_threads, own_receipts}
use Rattle.transcripts.specs.declared.item.Item.{Item}
use Rattle.transcripts.specs.declared.item.ItemAnswer.TheVariants.{Note}
use Rattle.transcripts.specs.Transcripts.{TranscriptState, receipts_of}
use Rattle.settling.specs.declared.not_settled.Cause.{Cause}
use Rattle.settling.specs.declared.not_settled.Cause.TheVariants.{Missing, Mismatch, NotFull}

-- the entry that a receipt reports
abbrev pub entry_of : Receipted → Entry
entry_of r = record { event = Asked r.command; reply = r.reply }

-- one of the transcripts is of that tenancy
abbrev pub has_id : List TranscriptState → ℕ → Bool
has_id [] id = false
has_id (t ∷ ts) id = t.id == id || has_id ts id

-- a receipt that is to be confirmed: its transcript's tenancy, whether that tenancy has an earlier
-- transcript, and the least place that the receipt may have, as places rise
pub record Claim : Type 0 where
  pub id : ℕ
  pub repeated : Bool
  pub least : ℕ
  pub receipt : Receipted

-- the receipts of a transcript
abbrev pub claims_in : ℕ → Bool → ℕ → List Receipted → List Claim
claims_in id repeated least [] = []
claims_in id repeated least (r ∷ rs) = record { id = id; repeated = repeated; least = least; receipt = r } ∷ claims_in id repeated (r.place + 1) rs

-- the receipts of all transcripts, one after another, after earlier ones
abbrev pub claims_from : List TranscriptState → List TranscriptState → List Claim
claims_from earlier [] = []
claims_from earlier (t ∷ ts) = claims_in t.id (has_id earlier t.id) 0 (receipts_of t.items) ++ claims_from (earlier ++ t ∷ []) ts

abbrev pub claims_of : List TranscriptState → List Claim
claims_of ts = claims_from [] ts

-- the receipt is the entry that its transcript's lease made at that id and place, its place rises,
-- and its id has no earlier transcript
pub record IsBorneOut (core : CoreState) (c : Claim) : Type 0 where
  pub own : c.receipt.id ≡ c.id
  pub first : c.repeated ≡ false
  pub rises : c.least ≤ c.receipt.place
  pub marked : is_marked core.marks c.receipt.id c.receipt.place ≡ true
  pub entry : slice_get (journal_of core.service c.receipt.id) c.receipt.place ≡ Some (entry_of c.receipt)

-- this is the first receipt that isn't confirmed
pub record IsFirstBad (core : CoreState) (claims : List Claim) (id place : ℕ) : Type 0 where
  pub before : List Claim
  pub bad : Claim
  pub after : List Claim
  pub are : claims ≡ before ++ bad ∷ after
  pub good : All (IsBorneOut core) before
  pub not : IsBorneOut core bad → ⊥
  pub its_id : id ≡ bad.receipt.id
  pub its_place : place ≡ bad.receipt.place

-- each lease that was given has its transcript, and no share that was given is missing
pub record AreAllThere (core : CoreState) (transcripts : List TranscriptState) (shares : ℕ) : Type 0 where
  pub leases : (id : ℕ) → is_leased core.marks id ≡ true → has_id transcripts id ≡ true
  pub shares_are : core.shares ≤ shares

-- a lease that was given has no transcript
abbrev pub LacksLease : CoreState → List TranscriptState → Type 0
LacksLease core transcripts = (id : ℕ) × (is_leased core.marks id ≡ true) × (has_id transcripts id ≡ false)

abbrev pub IsMissing : CoreState → List TranscriptState → ℕ → Type 0
IsMissing core transcripts shares = LacksLease core transcripts ⊎ (shares < core.shares)

-- the answer to an item says that the journal is full
abbrev pub TellsFull : Item → Type 0
TellsFull item = (n : Noted) × (item.place ≡ Note n) × (n.cause ≡ JournalFull)

-- the journal is full, if the answer to an item says so
abbrev pub IsFullIfTold : ServiceState → TranscriptState → Type 0
IsFullIfTold service t = All (λ i. TellsFull i → length (journal_of service t.id) ≡ MAX_ENTRIES) t.items

-- a transcript of that tenancy says that its journal is full, and it is not
abbrev pub IsToldInVain : ServiceState → List TranscriptState → ℕ → Type 0
IsToldInVain service transcripts id = (i : ℕ) × (t : TranscriptState) × (slice_get transcripts i ≡ Some t) × (t.id ≡ id) × (IsFullIfTold service t → ⊥)

-- why it isn't settled
abbrev pub IsCause : CoreState → List TranscriptState → ℕ → Cause → Type 0
IsCause core transcripts shares Missing = IsMissing core transcripts shares
IsCause core transcripts shares (Mismatch id place) = AreAllThere core transcripts shares × IsFirstBad core (claims_of transcripts) id place
IsCause core transcripts shares (NotFull id) = AreAllThere core transcripts shares × All (IsBorneOut core) (claims_of transcripts) × IsToldInVain core.service transcripts id

-- the receipts of a transcript are the marked entries of its tenancy's journal: they have their
-- places, in order, after the entries with which the core began, and each is the entry at its place
pub record AreMarkedEntries (begun : ServiceState) (core : CoreState) (t : TranscriptState) : Type 0 where
  pub places : map (λ r. r.place) (receipts_of t.items) ≡ places_of core.marks t.id
  pub rising : AllPairs (λ p q. p < q) (places_of core.marks t.id)
  pub since : All (λ r. length (journal_of begun t.id) ≤ r.place) (receipts_of t.items)
  pub ids : All (λ r. r.id ≡ t.id) (receipts_of t.items)
  pub entries : All (λ r. slice_get (journal_of core.service t.id) r.place ≡ Some (entry_of r)) (receipts_of t.items)

-- the service, and the marks of the ids from 1 on
pub record SettledState : Type 0 where
  pub service : ServiceState
  pub marks : List Marked

-- the number of receipts of all transcripts
abbrev pub receipts_in : List TranscriptState → ℕ
receipts_in [] = 0
receipts_in (t ∷ ts) = length (receipts_of t.items) + receipts_in ts

-- the number of puts that the shares counted
abbrev pub puts_counted : List ShareState → ℕ
puts_counted [] = 0
puts_counted (s ∷ ss) = s.puts + puts_counted ss

-- all answers are settled, of a core that was made with that service
pub record IsSettled (begun : ServiceState) (core : CoreState) (transcripts : List TranscriptState) (shares : List ShareState) : Type 0 where
  pub there : AreAllThere core transcripts (length shares)
  pub apart : AllPairs (λ t u. t.id ≢ u.id) transcripts
  pub each : All (AreMarkedEntries begun core) transcripts
  pub no_other : (id : ℕ) → has_id transcripts id ≡ false → places_of core.marks id ≡ []
  pub full : All (IsFullIfTold core.service) transcripts
  pub puts : puts_in core.service.histories ≡ puts_counted shares + core.own_puts

-- calls of threads lead from the service that the core was made with to that one, and the commands
-- that are served in them are those of the transcripts: a tenancy's receipts are its transcript's,
-- in order, and without a transcript it has none
pub record AreAllCalls (begun service : ServiceState) (transcripts : List TranscriptState) : Type 0 where
  pub calls : List Call
  pub run : Run begun calls service
  pub kinds : All (λ call. is_of_threads call ≡ true) calls
  pub told : All (λ t. own_receipts t.id calls ≡ receipts_of t.items) transcripts
  pub no_other : (id : ℕ) → has_id transcripts id ≡ false → own_receipts id calls ≡ []
