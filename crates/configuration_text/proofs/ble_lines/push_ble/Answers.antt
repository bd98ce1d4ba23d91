use Rattle.configuration_text.proofs.Prelude.{◌≡◌, ◌∙◌, ◌++◌, List, ℕ, ap, map, get_or, length, ◌<◌, Option, arith, option_to_list, input_lines, latch_lines, signal_for, values_in, lines_text, ConfigurationLine, Takes, Used, Values, Signal, Feed, Pin, slice_get-get_or, IfOk-weaker}
use Rattle.configuration_text.proofs.Rest.{past_from}
use Rattle.configuration_text.proofs.Texts.{ble_written, each_end, each_more}
use Rattle.configuration_text.proofs.ble_lines.push_ble.Goals as goal

pub loop-input-preserved : goal.loop-input-preserved
loop-input-preserved c =
    let f : ℕ × Feed → List ConfigurationLine = λ feed. map (Takes c.args.seat.place feed.0) (option_to_list (signal_for c.args.design.arch.now c.args.design.layout.now c.args.seat.laid.now feed.1)) in
    let feeds = c.args.seat.ble.now.inputs in
    let at = c.loop-input.input in
    let lent = c.inputs-feed-items.result.now in
    let small : at < length feeds = omega (arith, c.loop-input-test.true, ap length c.inputs-feed-items.ensures) in
    let feed = get_or feeds at (Pin 0) in
    let takes : Option Signal → List ConfigurationLine = λ signal. map (Takes c.args.seat.place at) (option_to_list signal) in
    let taken : c.signal_for-signal.result ≡ signal_for c.args.design.arch.now c.args.design.layout.now c.args.seat.laid.now feed =
    c.signal_for-signal.ensures ∙ ap (λ (ys : List Feed). signal_for c.args.design.arch.now c.args.design.layout.now c.args.seat.laid.now (get_or ys at (Pin 0))) c.inputs-feed-items.ensures in
    let written : c.push_input.new.text.items ≡ c.loop-input.text.items ++ lines_text (f (at, feed)) = c.in_ok-push_input.ensures ∙ ap (λ o. c.loop-input.text.items ++ lines_text (takes o)) taken in
    each_more f feeds at c.loop-input.text.items c.push_used.new.text.items _ feed c.push_input.new.text.items
    (slice_get-get_or feeds at (Pin 0) small) c.loop-input.invariant written

pub returns : goal.returns
returns c =
    let laid = c.args.seat.laid.now in
    let place = c.args.seat.place in
    let ble = c.args.seat.ble.now in
    let f : ℕ × Feed → List ConfigurationLine = λ feed. map (Takes place feed.0) (option_to_list (signal_for c.args.design.arch.now c.args.design.layout.now laid feed.1)) in
    let inputs = each_end f ble.inputs c.loop-input.input c.loop-input.text.items c.push_used.new.text.items _
    (past_from c.inputs-feed-items.result.now ble.inputs c.inputs-feed-items.ensures c.loop-input.input c.loop-input-test.false) c.loop-input.invariant in
    IfOk-weaker c.push_latch.result _ _
    (λ _ e. ble_written (Used place) (Values place (values_in c.args.design.netlist.now c.args.design.circuit.now c.args.design.arch.now laid ble)) (input_lines c.args.design.arch.now c.args.design.layout.now laid place ble) (latch_lines c.args.design.netlist.now c.args.design.circuit.now c.args.design.arch.now c.args.design.layout.now laid place ble) c.args.text.now.items
    c.push_used.new.text.items c.loop-input.text.items c.push_values.new.text.items c.push_latch.new.text.items
    c.in_ok-push_used.ensures inputs c.in_ok-push_values.ensures e)
    c.push_latch.ensures
