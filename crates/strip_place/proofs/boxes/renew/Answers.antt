use Rattle.strip_place.proofs.Prelude.{◌≡◌, ◌+◌, ◌-◌, ◌*◌, ◌<◌, ◌≤◌, [], arith, get_or, length, refl, get_or_from_slice_get, net_at, IsFollowed, IsRenewed, box_at, half_of, near_of, sum_of}
use Rattle.strip_place.proofs.Following.{later}
use Rattle.strip_place.proofs.Lengths.{box_sum}
use Rattle.strip_place.proofs.Swaps.{renewed_more}
use Rattle.strip_place.proofs.boxes.renew.Goals as goal

pub loop-number-preserved : goal.loop-number-preserved
loop-number-preserved c =
    let nets = c.args.nets.now in
    let touched = c.args.touched.now in
    let i = c.loop-number.number-index in
    let number = get_or touched i 0 in
    let so_far = c.loop-number.invariant in
    let found = c.renew_one-found.result in
    let lt : i < length touched = c.loop-number-test.true in
    let within : number < length nets = c.requires.touched.within i lt in
    let row : net_at nets number ≡ c.row-net.result.now = get_or_from_slice_get nets number c.row-net.result.now [] c.row-net.ensures in
    let once : IsRenewed c.args.points.now (net_at nets number) number c.loop-number.boxes c.renew_one-found.new.boxes found = rw row c.renew_one-found.ensures in
    let more : sum_of (near_of found) ≤ 131070 = box_sum c.args.points.now (net_at nets number) found once.exact in
    let left = c.loop-number.left + c.from-left.result in
    let right = c.loop-number.right + c.from-right.result in
    let bottom = c.loop-number.bottom + c.from-bottom.result in
    let top = c.loop-number.top + c.from-top.result in
    let sum : 131070 * (i + 1) - (left + right + bottom + top) ≡ 131070 * i - (c.loop-number.left + c.loop-number.right + c.loop-number.bottom + c.loop-number.top) + half_of found = omega (arith, more, so_far.inside, c.from-left.ensures, c.from-right.ensures, c.from-bottom.ensures, c.from-top.ensures) in
    record {
      renewed = renewed_more c.args.points.now nets touched i number c.args.boxes.now c.loop-number.boxes c.renew_one-found.new.boxes found _ _ lt refl (c.requires.lawful.some number within) once sum so_far.renewed;
      inside = omega (arith, more, so_far.inside, c.from-left.ensures, c.from-right.ensures, c.from-bottom.ensures, c.from-top.ensures);
      left = omega (arith, so_far.left, once.exact.left.near_inside, c.from-left.ensures);
      right = omega (arith, so_far.right, once.exact.right.near_inside, c.from-right.ensures);
      bottom = omega (arith, so_far.bottom, once.exact.bottom.near_inside, c.from-bottom.ensures);
      top = omega (arith, so_far.top, once.exact.top.near_inside, c.from-top.ensures);
    }

pub renew_one-found-requires-clause-net : goal.renew_one-found-requires-clause-net
renew_one-found-requires-clause-net c =
    let nets = c.args.nets.now in
    let number = get_or c.args.touched.now c.loop-number.number-index 0 in
    let within : number < length nets = c.requires.touched.within c.loop-number.number-index c.loop-number-test.true in
    let row : net_at nets number ≡ c.row-net.result.now = get_or_from_slice_get nets number c.row-net.result.now [] c.row-net.ensures in
    record { some = rw row at (c.requires.lawful.some number within); within = rw row at (c.requires.lawful.within number within) }

pub renew_one-found-requires-clause-follows : goal.renew_one-found-requires-clause-follows
renew_one-found-requires-clause-follows c =
    let nets = c.args.nets.now in
    let touched = c.args.touched.now in
    let i = c.loop-number.number-index in
    let number = get_or touched i 0 in
    let lt : i < length touched = c.loop-number-test.true in
    let row : net_at nets number ≡ c.row-net.result.now = get_or_from_slice_get nets number c.row-net.result.now [] c.row-net.ensures in
    let same : box_at c.loop-number.boxes number ≡ box_at c.args.boxes.now number = c.loop-number.invariant.renewed.others number (later touched i c.requires.rising lt) in
    let before : IsFollowed c.args.points.now (net_at nets number) c.args.others.now number (box_at c.loop-number.boxes number) c.args.made.from c.args.made.to = rw same (c.requires.follows i lt) in
    rw row at before
