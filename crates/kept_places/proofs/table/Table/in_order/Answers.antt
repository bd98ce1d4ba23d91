use Rattle.kept_places.proofs.Prelude.{◌≡◌, ◌<◌, ◌∙◌, arith, length, rules, subst, sym, is_sorted, key_order, KeptPlaces, entries_at, entries_of}
use Rattle.std.proofs.Common.{IsTrue}
use Rattle.kept_places.proofs.Filling.{filling_none, filling_next, filling_all}
use Rattle.kept_places.proofs.table.Table.in_order.Goals as goal

pub loop-entry-init : goal.loop-entry-init
loop-entry-init c = filling_none c.args.entries.now c.new-names.result.items c.reserve.new.self.items c.new-names.ensures.items (c.reserve.ensures.items ∙ c.new-rows.ensures.items)

pub loop-entry-preserved : goal.loop-entry-preserved
loop-entry-preserved c =
    rw (c.in_ok-push.ensures.items, c.in_ok-extend_from_slice.ensures.items)
    (filling_next c.args.entries.now c.loop-entry.entry-index c.loop-entry.names.items c.loop-entry.rows.items _ c.len-start.result c.len-end.result (omega arith) (search rules) (search rules) c.loop-entry.invariant)

pub invariant_of-result : goal.invariant_of-result
invariant_of-result c =
    let all = filling_all c.args.entries.now c.loop-entry.entry-index c.loop-entry.names.items c.loop-entry.rows.items c.loop-entry-test.false c.loop-entry.invariant in
    record { named = c.loop-entry.invariant.named; rising = subst (λ (entries : KeptPlaces). IsTrue (is_sorted key_order entries)) (sym all) c.requires }

pub returns : goal.returns
returns c = filling_all c.args.entries.now c.loop-entry.entry-index c.loop-entry.names.items c.loop-entry.rows.items c.loop-entry-test.false c.loop-entry.invariant
