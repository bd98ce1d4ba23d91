use Rattle.strip_place.proofs.Prelude.{◌≡◌, ◌≤◌, [], length, arith, rules, get_or_from_slice_get, net_at}
use Rattle.strip_place.proofs.Listed.{copied_more, copied_none}
use Rattle.strip_place.proofs.lists.copy_rows.Goals as goal

pub loop-number-init : goal.loop-number-init
loop-number-init c = copied_none c.args.rows.now c.args.numbers.now.items c.args.bounds.now.items c.requires.none c.requires.first

pub loop-number-preserved : goal.loop-number-preserved
loop-number-preserved c =
    let rows = c.args.rows.now in
    let number = c.loop-number.number in
    let row = c.row.result.now in
    let here : net_at rows number ≡ row = get_or_from_slice_get rows number row [] c.row.ensures in
    let short : length row ≤ 65536 = rw here at (c.requires.small.short number (omega arith)) in
    let len : c.len.result ≡ length c.extend_from_slice.new.self.items = search rules in
    rw (c.in_ok-push.ensures.items, len, c.in_ok-extend_from_slice.ensures.items)
    (copied_more rows number c.loop-number.numbers.items c.loop-number.bounds.items row c.loop-number.invariant here short)
