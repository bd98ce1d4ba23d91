use Rattle.configuration_text.proofs.Prelude.{◌+◌, ◌<◌, ◌≤◌, Some, ap, length, sym, ◌∙◌, arith, is_same_node, make_node, Source}
use Rattle.configuration_text.proofs.Searches.{beside_end, beside_hit, beside_miss}
use Rattle.configuration_text.proofs.pins.step_beside.Goals as goal

pub returns-then-is_same_node : goal.returns-then-is_same_node
returns-then-is_same_node c =
    let path = c.args.path.now in
    let place = c.loop-place.place in
    let t = c.loop-place-test.true in
    let e = c.saturating_sub-place-end.ensures in
    let inside : place + 1 < length path = omega (arith, t, e) in
    ap Some c.neighbor.ensures ∙ sym (beside_hit c.args.side path place (make_node 0 Source 0 0) c.args.node inside (ap (λ anchor. is_same_node anchor c.args.node) (sym c.anchor.ensures) ∙ sym c.is_same_node.ensures ∙ c.if-is_same_node.true)) ∙ c.loop-place.invariant

pub loop-place-preserved : goal.loop-place-preserved
loop-place-preserved c =
    let path = c.args.path.now in
    let place = c.loop-place.place in
    let t = c.loop-place-test.true in
    let e = c.saturating_sub-place-end.ensures in
    let inside : place + 1 < length path = omega (arith, t, e) in
    sym (beside_miss c.args.side path place (make_node 0 Source 0 0) c.args.node inside (ap (λ anchor. is_same_node anchor c.args.node) (sym c.anchor.ensures) ∙ sym c.is_same_node.ensures ∙ c.if-is_same_node.false)) ∙ c.loop-place.invariant

pub returns : goal.returns
returns c =
    let path = c.args.path.now in
    let place = c.loop-place.place in
    let t = c.loop-place-test.false in
    let e = c.saturating_sub-place-end.ensures in
    let past : length path ≤ place + 1 = omega (arith, t, e) in
    sym (beside_end c.args.side path place c.args.node past) ∙ c.loop-place.invariant
