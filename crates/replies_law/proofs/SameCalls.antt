-- The result of a call is a function of the state.
use Rattle.replies_law.proofs.Prelude.{◌≡◌, ◌⊎◌, inl, inr, ℕ, ◌<◌, ◌≤◌, eqb, Bool, true, false, List, length, Option, Some, None, Result, Ok, Err, sym, ap, ◌∙◌, subst, arith, IsSome, cases_lt, false≢true, nat_tests, IsFirstFit, is_bad_width, Command as TenantCommand, Reply, step, OpRefusal, NotServed, NoSuchTenancy, IsAdmitted, IsEvicted, IsMoved, History, state_of, with_entry, Receipted, CanAdmit, RefusesAdmission, Admit as AdmitCall, Tenant, ServiceState, live_of, with_change, Kept, evicted_text, moved_text}
use Rattle.tenant_slot.specs.declared.event.Event.TheVariants.{Command as Asked}
use Rattle.service_core.specs.declared.op_refusal.OpRefusal.TheVariants as Op
use Rattle.service_core.specs.Calls.{IsServed}
use Rattle.replies_law.proofs.Found.{FoundMemory}
use Rattle.replies_law.proofs.Steps.{counts}

-- an admission
the_refusal : Bool → Bool → Bool → OpRefusal
the_refusal true many spent = Op.BadWidth
the_refusal false true spent = Op.TooManyStrips
the_refusal false false true = Op.IdsSpent
the_refusal false false false = Op.NoRoom

fewer : (n m : ℕ) → n < m → eqb n m ≡ false
fewer n m less = grind (arith, nat_tests)

module _ (s : ServiceState) (width : ℕ) where
  refusal_in : OpRefusal
  refusal_in = the_refusal (is_bad_width s.plan width) (eqb (length s.plan.strips) 64) (eqb (length s.histories) 65535)

  refused_is : (r : OpRefusal) → RefusesAdmission s width r → FoundMemory (AdmitCall width (Err r)) → r ≡ refusal_in
  unfolding refusal_in the_refusal
  refused_is r is found = grind arith

  never_refused : (r : OpRefusal) (offset : ℕ) → CanAdmit s width → IsFirstFit s.plan width (Some offset) → RefusesAdmission s width r → FoundMemory (AdmitCall width (Err r)) → ⊥
  never_refused Op.BadWidth offset can fit is found = false≢true (sym can.good_width ∙ is)
  never_refused Op.TooManyStrips offset can fit is found = let few = can.few_strips in let many = is.1 in omega (arith, few, many)
  never_refused Op.IdsSpent offset can fit is found = let few = can.ids_left in let many = is.2 in omega (arith, few, many)
  never_refused Op.NoRoom offset can fit is found = is.1 offset fit.0
  never_refused Op.NoMemory offset can fit is found = found
  never_refused Op.NoSuchTenancy offset can fit is found = is

  first_same : (a b : ℕ) → IsFirstFit s.plan width (Some a) → IsFirstFit s.plan width (Some b) → a ≡ b
  first_same a b one other = by (cases_lt a b) (cases_lt b a)
    where
      by : (a < b) ⊎ (b ≤ a) → (b < a) ⊎ (a ≤ b) → a ≡ b
      by (inl less) f = absurd (other.1 a less one.0)
      by (inr e) (inl less) = absurd (one.1 b less other.0)
      by (inr e) (inr f) = omega (arith, e, f)

-- two calls have answers with the same text, and lead to one state
pub record Agree {A : Type 0} (text_of : A → List ℕ) (a b : A) (new other : ServiceState) : Type 0 where
  pub text : text_of a ≡ text_of b
  pub state : new ≡ other

pub admitted_alike : (old new other : ServiceState) (width : ℕ) (a b : Result (ℕ × ℕ) OpRefusal) → IsAdmitted old width a new → IsAdmitted old width b other → FoundMemory (AdmitCall width a) → FoundMemory (AdmitCall width b) → (a ≡ b) × (new ≡ other)
admitted_alike old new other width (Ok g) (Ok k) is it found other_found = grind (arith, first_same old width g.1 k.1 is.2 it.2)
admitted_alike old new other width (Ok g) (Err r) is it found other_found = absurd (never_refused old width r g.1 is.0 is.2 it.0 other_found)
admitted_alike old new other width (Err r) (Ok g) is it found other_found = absurd (never_refused old width r g.1 it.0 it.2 is.0 found)
admitted_alike old new other width (Err r) (Err q) is it found other_found = (ap Err (refused_is old width r is.0 found ∙ sym (refused_is old width q it.0 other_found)), is.1 ∙ sym it.1)

not_live : (o : Option History) → IsSome o → o ≡ None → ⊥
not_live o some none = let P : Option History → Type 0 = IsSome in false≢true (subst P none some)

pub evicted_alike : (old new other : ServiceState) (id : ℕ) (a b : Result (Unit {0}) OpRefusal) → IsEvicted old id a new → IsEvicted old id b other → (evicted_text a ≡ evicted_text b) × (new ≡ other)
evicted_alike old new other id a b is it = grind arith

-- a move, by its answer
data Moves (old : ServiceState) (id offset : ℕ) (a : Result (Unit {0}) OpRefusal) (new : ServiceState) : Type 0 where
  Moved : IsMoved old id offset (Ok (record {})) new → moved_text offset a ≡ moved_text offset (Ok (record {})) → Moves old id offset a new
  Gone : IsMoved old id offset (Err Op.NoSuchTenancy) new → a ≡ Err Op.NoSuchTenancy → Moves old id offset a new
  Stuck : IsMoved old id offset (Err Op.NoRoom) new → a ≡ Err Op.NoRoom → Moves old id offset a new

moves : (old new : ServiceState) (id offset : ℕ) (a : Result (Unit {0}) OpRefusal) → IsMoved old id offset a new → Moves old id offset a new
moves old new id offset a is = grind arith

moves_alike : (old new other : ServiceState) (id offset : ℕ) (a b : Result (Unit {0}) OpRefusal) → Moves old id offset a new → Moves old id offset b other → (moved_text offset a ≡ moved_text offset b) × (new ≡ other)
moves_alike old new other id offset a b h1 h2 = grind arith

pub moved_alike : (old new other : ServiceState) (id offset : ℕ) (a b : Result (Unit {0}) OpRefusal) → IsMoved old id offset a new → IsMoved old id offset b other → (moved_text offset a ≡ moved_text offset b) × (new ≡ other)
moved_alike old new other id offset a b is it = moves_alike old new other id offset a b (moves old new id offset a is) (moves old other id offset b it)

-- the service after a command: its journal has one more entry, if the command has a reply
abbrev entry_more : ServiceState → ℕ → TenantCommand → Option Reply → ServiceState
entry_more old id command None = old
entry_more old id command (Some reply) = with_change old id (with_entry (record { event = Asked command; reply = reply }))

abbrev pub commanded : Option History → ServiceState → ℕ → TenantCommand → ServiceState
commanded None old id command = old
commanded (Some h) old id command = entry_more old id command (step (state_of h) (Asked command)).1

pub command_is : (old new : ServiceState) (id : ℕ) (command : TenantCommand) (served : Result Receipted NotServed) → IsServed old id command served new → FoundMemory (Tenant id command served) → Kept old → new ≡ commanded (live_of old.histories id) old id command
command_is old new id command served is found kept = grind (arith, counts)
