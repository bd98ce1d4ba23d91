use Rattle.script_threads.proofs.Prelude.{rules, ◌≡◌, ◌<◌, ◌+◌, ℕ, List, length, get_or, true, false, sym, ap, ◌∙◌, drop, ◌&&◌, Item, is_receipt, places_in, served_late}
use Rattle.script_threads.proofs.RefusalLemmas.{at_end, at_late, at_next}
use Rattle.script_threads.proofs.refusals.is_served_late.Goals as goal

pub loop-i-preserved : goal.loop-i-preserved
loop-i-preserved c =
    let items : List Item = c.args.items.now in
    let i : ℕ = c.loop-i.i in
    let item : Item = c.index-items-i.result in
    let within : i < length items = search rules in
    let is : item ≡ get_or items i item = search rules in
    let fine : (is_receipt item.place && c.loop-i.is_refused) ≡ false = sym c.is_late.ensures ∙ c.if-is_late.false in
    c.loop-i.invariant ∙ (at_next items i item c.loop-i.is_refused within is fine ∙ ap (λ r. served_late r (places_in (drop (i + 1) items))) (sym c.is_refused_by-is_refused.ensures))

pub returns-then-is_late : goal.returns-then-is_late
returns-then-is_late c =
    let items : List Item = c.args.items.now in
    let i : ℕ = c.loop-i.i in
    let item : Item = c.index-items-i.result in
    let within : i < length items = search rules in
    let is : item ≡ get_or items i item = search rules in
    let late : (is_receipt item.place && c.loop-i.is_refused) ≡ true = sym c.is_late.ensures ∙ c.if-is_late.true in
    sym (c.loop-i.invariant ∙ at_late items i item c.loop-i.is_refused within is late)

pub returns : goal.returns
returns c =
    let items : List Item = c.args.items.now in
    let ends : c.loop-i.i ≡ length items = search rules in
    sym (c.loop-i.invariant ∙ at_end items c.loop-i.i c.loop-i.is_refused ends)
