use Rattle.shared_core.proofs.Prelude.{rules, arith, ◌≡◌, ◌+◌, Some, take, ◌∙◌, slice_get, Entry, journal_of, puts_among}
use Rattle.shared_core.proofs.Wrapped.{none_past, puts_among-all, puts_among-take}
use Rattle.shared_core.proofs.wrapping.count_puts_of.Goals as goal

pub loop-place-preserved : goal.loop-place-preserved
loop-place-preserved g c =
    let e : Entry = c.in-Some.entry.now in
    let at : slice_get (journal_of c.args.service.now c.args.id) c.loop-place.place ≡ Some e = search rules in
    let step = puts_among-take (journal_of c.args.service.now c.args.id) c.loop-place.place e at in
    let i = c.loop-place.invariant in
    (omega (arith, i.0, step, c.count_entry.ensures.total), omega (arith, i.1, step, c.count_entry.ensures.amount), c.count_entry.ensures.parts ∙ i.2)

pub returns-clause-total : goal.returns-clause-total
returns-clause-total g c =
    let ends : c.loop-place.place ≡ 65536 = omega (arith, c.loop-place.auto.place-end, c.loop-place-test.false) in
    let all = puts_among-all (journal_of c.args.service.now c.args.id) 65536 (none_past c.args.service.now c.args.id c.requires.alone) in
    let made : c.loop-place.puts.total ≡ c.args.puts.now.total + puts_among (take 65536 (journal_of c.args.service.now c.args.id)) = rw ends at c.loop-place.invariant.0 in
    omega (arith, made, all)

pub returns-clause-amount : goal.returns-clause-amount
returns-clause-amount g c =
    let ends : c.loop-place.place ≡ 65536 = omega (arith, c.loop-place.auto.place-end, c.loop-place-test.false) in
    let all = puts_among-all (journal_of c.args.service.now c.args.id) 65536 (none_past c.args.service.now c.args.id c.requires.alone) in
    let made : c.loop-place.own.amount ≡ c.args.own.now.amount + puts_among (take 65536 (journal_of c.args.service.now c.args.id)) = rw ends at c.loop-place.invariant.1 in
    omega (arith, made, all)
