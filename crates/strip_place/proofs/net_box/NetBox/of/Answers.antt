use Rattle.strip_place.proofs.Prelude.{◌≡◌, ◌+◌, ◌<◌, ◌≤◌, length, take, get_or, arith, get_or_read, take_all, NetBox, at_column, at_row, no_point, point_at}
use Rattle.strip_place.proofs.Ends.{column_more, row_more}
use Rattle.strip_place.proofs.Nearness.{box_all, box_more}
use Rattle.strip_place.proofs.net_box.NetBox.of.Goals as goal

pub loop-block-preserved : goal.loop-block-preserved
loop-block-preserved c =
    let points = c.args.points.now in
    let net = c.args.net.now in
    let i = c.loop-block.block-index in
    let point = point_at points (get_or net i 0) in
    let lt : i < length net = c.loop-block-test.true in
    let here : c.index-points-block.result ≡ point = get_or_read points (get_or net i 0) c.index-points-block.result (c.requires.within i 0 lt) c.index-points-block.is no_point in
    let x_small : point.x ≤ 65535 = rw here at c.left-x.ensures.inside in
    let y_small : point.y ≤ 65535 = rw here at c.bottom-y.ensures.inside in
    let before : NetBox = record { left = c.loop-block.left; right = c.loop-block.right; bottom = c.loop-block.bottom; top = c.loop-block.top; next_left = c.loop-block.next_left; next_right = c.loop-block.next_right; next_bottom = c.loop-block.next_bottom; next_top = c.loop-block.next_top } in
    rw (c.min-left.ensures, c.min-right.ensures, c.min-bottom.ensures, c.min-top.ensures, c.min-next_left.ensures, c.min-next_right.ensures, c.min-next_bottom.ensures, c.min-next_top.ensures, c.max.ensures, c.max-in-loop-block.ensures, c.max-in-loop-block-2.ensures, c.max-in-loop-block-3.ensures, c.left-x.ensures.value, c.bottom-y.ensures.value, c.right-from_right.ensures, c.top-from_top.ensures, here)
    (box_more (at_column points (take i net)) (at_column points (take (i + 1) net)) (at_row points (take i net)) (at_row points (take (i + 1) net)) i before point x_small y_small (λ v. column_more points net i v lt) (λ v. row_more points net i v lt) c.loop-block.invariant)

pub returns : goal.returns
returns c =
    let points = c.args.points.now in
    let net = c.args.net.now in
    let i = c.loop-block.block-index in
    let all : take i net ≡ net = take_all i net c.loop-block-test.false in
    let some : 0 < i = (let has = c.requires.some in let past = c.loop-block-test.false in omega arith) in
    box_all (at_column points net) (at_row points net) i _ some (rw all at c.loop-block.invariant)
