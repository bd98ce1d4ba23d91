use Rattle.settling.proofs.Prelude.{rules, ◌≡◌, ◌<◌, ℕ, List, length, get_or, false, true, Some, None, sym, take, ap, ◌∙◌, slice_get, Receipted, Item, receipt_in, receipts_of, IsBorneOut}
use Rattle.settling.proofs.Claims.{at_index, bad-next, good-next, next_place, next_place-push, no_receipt_in, receipts-next, receipts-same}
use Rattle.settling.proofs.comparing.mismatch_in.Goals as goal

pub loop-j-preserved-in_default : goal.loop-j-preserved-in_default
loop-j-preserved-in_default g c =
    let items : List Item = c.args.transcript.now.items in
    let j : ℕ = c.loop-j.j in
    let item : Item = c.index-items-j.result in
    let within : j < length items = search rules in
    let is : item ≡ get_or items j item = search rules in
    let at : slice_get items j ≡ Some item = at_index items j item within is in
    let here : item ≡ get_or c.items-items.result.now j item = search rules in
    let none : receipt_in item.place ≡ None = no_receipt_in item.place (λ r same. c.in_default.not-Receipt r (ap (λ (x : Item). x.place) (sym here) ∙ same)) in
    rw (receipts-same items j item at none) c.loop-j.invariant

pub returns-then-not-is_borne_out : goal.returns-then-not-is_borne_out
returns-then-not-is_borne_out g c =
    let items : List Item = c.args.transcript.now.items in
    let j : ℕ = c.loop-j.j in
    let item : Item = c.index-items-j.result in
    let r : Receipted = c.in-Receipt.receipt in
    let within : j < length items = search rules in
    let is : item ≡ get_or items j item = search rules in
    let at : slice_get items j ≡ Some item = at_index items j item within is in
    let here : item ≡ get_or c.items-items.result.now j item = search rules in
    let some : receipt_in item.place ≡ Some r = ap (λ (x : Item). receipt_in x.place) here ∙ ap receipt_in c.in-Receipt.is in
    rw (c.id.ensures, c.place.ensures) (bad-next c.args.core.now c.args.transcript.now.id c.args.repeated items j item r at some c.loop-j.invariant.0 (λ good.
    let moved : IsBorneOut c.args.core.now (record { id = c.id-id.result; repeated = c.args.repeated; least = c.loop-j.least; receipt = r }) = rw (c.id-id.ensures, ← c.loop-j.invariant.1) good in
    let yes : c.is_borne_out.result ≡ true = c.is_borne_out.ensures.1 moved in
    let no : c.is_borne_out.result ≡ false = c.if-not-is_borne_out.true in
    absurd (cc)))

pub loop-j-preserved : goal.loop-j-preserved
loop-j-preserved g c =
    let items : List Item = c.args.transcript.now.items in
    let j : ℕ = c.loop-j.j in
    let item : Item = c.index-items-j.result in
    let r : Receipted = c.in-Receipt.receipt in
    let within : j < length items = search rules in
    let is : item ≡ get_or items j item = search rules in
    let at : slice_get items j ≡ Some item = at_index items j item within is in
    let here : item ≡ get_or c.items-items.result.now j item = search rules in
    let some : receipt_in item.place ≡ Some r = ap (λ (x : Item). receipt_in x.place) here ∙ ap receipt_in c.in-Receipt.is in
    let said : IsBorneOut c.args.core.now (record { id = c.id-id.result; repeated = c.args.repeated; least = c.loop-j.least; receipt = r }) = c.is_borne_out.ensures.0 c.if-not-is_borne_out.false in
    let good : IsBorneOut c.args.core.now (record { id = c.args.transcript.now.id; repeated = c.args.repeated; least = next_place 0 (receipts_of (take j items)); receipt = r }) = rw (← c.id-id.ensures, c.loop-j.invariant.1) said in
    rw (receipts-next items j item r at some, c.place-in-loop-j.ensures) (good-next c.args.core.now c.args.transcript.now.id c.args.repeated (receipts_of (take j items)) r c.loop-j.invariant.0 good, next_place-push 0 (receipts_of (take j items)) r)
