use Rattle.strip_place.proofs.Prelude.{◌≡◌, ◌<◌, [], length, arith, get_or_from_slice_get, net_at, IsBox}
use Rattle.strip_place.proofs.Swaps.{boxes_all, boxes_more, boxes_none}
use Rattle.strip_place.proofs.wires.boxes_of.Goals as goal

pub loop-number-init : goal.loop-number-init
loop-number-init c = boxes_none _ _ _ c.new-boxes.ensures.items

pub of-requires : goal.of-requires
of-requires c =
    let nets = c.args.nets.now in
    let number = c.loop-number.number in
    let within : number < length nets = omega arith in
    let row : net_at nets number ≡ c.row.result.now = get_or_from_slice_get nets number c.row.result.now [] c.row.ensures in
    record {
      some = rw row at (c.requires.some number within);
      within = rw row at (c.requires.within number within);
    }

pub loop-number-preserved : goal.loop-number-preserved
loop-number-preserved c =
    let nets = c.args.nets.now in
    let number = c.loop-number.number in
    let row : net_at nets number ≡ c.row.result.now = get_or_from_slice_get nets number c.row.result.now [] c.row.ensures in
    let here : IsBox c.args.points.now (net_at nets number) c.of.result = rw row c.of.ensures in
    rw c.in_ok-push.ensures.items (boxes_more c.args.points.now nets number c.loop-number.boxes.items _ c.loop-number.invariant here)

pub returns : goal.returns
returns c = boxes_all _ _ c.loop-number.number _ (omega arith) c.loop-number.invariant
