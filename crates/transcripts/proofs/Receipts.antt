-- A transcript with one more item.
use Rattle.std.proofs.Common.{◌≡◌, ℕ, ◌+◌, List, [], ◌∷◌, ◌++◌, length, Option, Some, None, true, Err, ap, refl, subst, sym, ◌∙◌, arith, length-append}
use Rattle.std.specs.Prelude.{is_some}
use Rattle.std.proofs.lemmas.List.Elements.{All-push, filter_map-append}
use Rattle.tenant_slot.specs.declared.command.Command.{Command}
use Rattle.service_core.specs.declared.not_served.NotServed.{NotServed}
use Rattle.service_core.specs.declared.not_served.NotServed.TheVariants.{JournalFull as NotServedFull, NoSuchTenancy}
use Rattle.service_core.specs.Calls.{IsServed}
use Rattle.service_core.specs.History.{History}
use Rattle.service_core.specs.Service.{ServiceState, live_of}
use Rattle.shared_core.specs.CoreState.{is_live}
use Rattle.service_core.specs.Receipt.{Noted, Receipted}
use Rattle.transcripts.specs.declared.item.Item.{Item}
use Rattle.service_core.specs.declared.not_served.NoteCause.TheVariants.{JournalFull}
use Rattle.sessions.specs.declared.refusal.SessionRefusal.{SessionRefusal}
use Rattle.transcripts.specs.declared.item.ItemAnswer.{ItemAnswer}
use Rattle.transcripts.specs.declared.item.ItemAnswer.TheVariants.{Receipt, Note, Refused}
use Rattle.transcripts.specs.Transcripts.{AreOfLive, receipt_in, receipts_of}

-- the number of receipts of an item
abbrev pub count_in : Option Receipted → ℕ
count_in None = 0
count_in (Some r) = 1

one : (item : Item) (r : Option Receipted) → receipt_in item.place ≡ r → length (receipts_of (item ∷ [])) ≡ count_in r
one item None is = rw is refl
one item (Some r) is = rw is refl

pub receipts-more : (old new : List Item) (item : Item) (r : Option Receipted) → receipt_in item.place ≡ r → new ≡ old ++ item ∷ [] → length (receipts_of new) ≡ length (receipts_of old) + count_in r
receipts-more old new item r is more =
    let all : receipts_of new ≡ receipts_of old ++ receipts_of (item ∷ []) = ap receipts_of more ∙ filter_map-append (λ i. receipt_in i.place) old (item ∷ []) in
    omega (arith, ap length all, length-append (receipts_of old) (receipts_of (item ∷ [])), one item r is)

-- one more item of a live tenancy's session
abbrev pub IsOfLive : ItemAnswer → Type 0
IsOfLive place = (n : Noted) → place ≡ Note n → n.cause ≡ JournalFull

pub of_live-more : (old new : List Item) (item : Item) → new ≡ old ++ item ∷ [] → IsOfLive item.place → AreOfLive old → AreOfLive new
of_live-more old new item more is was = rw more (All-push (λ (i : Item). IsOfLive i.place) old item was is)

pub receipt_of_live : (place : ItemAnswer) (r : Receipted) → place ≡ Receipt r → IsOfLive place
receipt_of_live place r is = λ n never. cc

pub refusal_of_live : (refusal : SessionRefusal) → IsOfLive (Refused refusal)
refusal_of_live refusal = λ n never. cc

pub full_of_live : (place : ItemAnswer) (note : Noted) → place ≡ Note note → note.cause ≡ JournalFull → IsOfLive place
full_of_live place note is full = λ n other. let same : note ≡ n = cc in sym (ap (λ (x : Noted). x.cause) same) ∙ full

never_gone : (live : Option History) → live ≡ None → is_some live ≡ true → ⊥
never_gone None none is = cc
never_gone (Some h) none is = cc

-- the core's answers that it has no reply
pub full_cause : (old new : ServiceState) (id : ℕ) (command : Command) (answer : NotServed) (note : Noted) → answer ≡ NotServedFull note → IsServed old id command (Err answer) new → note.cause ≡ JournalFull
full_cause old new id command answer note same is =
    let its : IsServed old id command (Err (NotServedFull note)) new = (let P : NotServed → Type 0 = λ a. IsServed old id command (Err a) new in subst P same is) in
    ap (λ (n : Noted). n.cause) its.0

pub gone_live : (old new : ServiceState) (id : ℕ) (command : Command) (answer : NotServed) (note : Noted) → answer ≡ NoSuchTenancy note → IsServed old id command (Err answer) new → is_live old.histories id ≡ true → ⊥
gone_live old new id command answer note same is live =
    let its : IsServed old id command (Err (NoSuchTenancy note)) new = (let P : NotServed → Type 0 = λ a. IsServed old id command (Err a) new in subst P same is) in
    never_gone (live_of old.histories id) its.1 live
