use Rattle.settling.proofs.Prelude.{◌≡◌, ℕ, ap, ◌∙◌, Some, All, is_some, slice_get, journal_of, Item, TellsFull}
use Rattle.settling.proofs.FullJournals.{copied, decides, none_told}
use Rattle.settling.proofs.filling.is_full_if_told.Goals as goal

pub returns-then-not-is_told_full : goal.returns-then-not-is_told_full
returns-then-not-is_told_full g c =
    let none : All (λ (item : Item). TellsFull item → ⊥) c.items.result.now = rw c.if-not-is_told_full.true at c.is_told_full.ensures in
    none_told c.args.core.now.service c.args.transcript.now (rw c.items.ensures at none)

pub returns : goal.returns
returns g c =
    let told : (i : ℕ) × (item : Item) × (slice_get c.items.result.now i ≡ Some item) × TellsFull item = rw c.if-not-is_told_full.false at c.is_told_full.ensures in
    let there : (i : ℕ) × (item : Item) × (slice_get c.args.transcript.now.items i ≡ Some item) × TellsFull item = rw c.items.ensures at told in
    let same : c.is_some.result ≡ is_some (slice_get (journal_of c.args.core.now.service c.args.transcript.now.id) 65535) =
    c.is_some.ensures ∙ (copied c.entry.result ∙ rw c.id.ensures at (ap is_some c.entry.ensures.value)) in
    decides c.args.core.now.service c.args.transcript.now c.is_some.result there.0 there.1 there.2 there.3 c.entry.ensures.alone same
