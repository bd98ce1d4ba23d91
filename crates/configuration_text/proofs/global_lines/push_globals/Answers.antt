use Rattle.configuration_text.proofs.Prelude.{◌≡◌, ◌∙◌, ◌++◌, List, ℕ, ap, map, get_or, length, ◌<◌, Option, arith, option_to_list, driver_of_net, lines_text, ConfigurationLine, Feeds, Driver, slice_get-get_or}
use Rattle.configuration_text.proofs.Rest.{past_from}
use Rattle.configuration_text.proofs.Texts.{each_end, each_more}
use Rattle.configuration_text.proofs.global_lines.push_globals.Goals as goal

pub loop-number-preserved : goal.loop-number-preserved
loop-number-preserved c =
    let f : ℕ × ℕ → List ConfigurationLine = λ net. map (Feeds net.0) (option_to_list (driver_of_net c.args.design.arch.now c.args.design.layout.now net.1)) in
    let globals = c.args.design.layout.now.globals in
    let at = c.loop-number.number in
    let small : at < length globals = omega (arith, c.loop-number-test.true, ap length c.globals-net-items.ensures) in
    let net = get_or globals at 0 in
    let feeds : Option Driver → List ConfigurationLine = λ driver. map (Feeds at) (option_to_list driver) in
    let driven : c.in_ok-driver.driver ≡ driver_of_net c.args.design.arch.now c.args.design.layout.now net =
    c.in_ok-driver.ensures ∙ ap (λ (ys : List ℕ). driver_of_net c.args.design.arch.now c.args.design.layout.now (get_or ys at 0)) c.globals-net-items.ensures in
    let written : c.push_fed.new.text.items ≡ c.loop-number.text.items ++ lines_text (f (at, net)) = c.in_ok-push_fed.ensures ∙ ap (λ o. c.loop-number.text.items ++ lines_text (feeds o)) driven in
    each_more f globals at c.loop-number.text.items c.args.text.now.items _ net c.push_fed.new.text.items
    (slice_get-get_or globals at 0 small) c.loop-number.invariant written

pub returns : goal.returns
returns c =
    let f : ℕ × ℕ → List ConfigurationLine = λ net. map (Feeds net.0) (option_to_list (driver_of_net c.args.design.arch.now c.args.design.layout.now net.1)) in
    each_end f c.args.design.layout.now.globals c.loop-number.number c.loop-number.text.items c.args.text.now.items _
    (past_from c.globals-net-items.result.now c.args.design.layout.now.globals c.globals-net-items.ensures c.loop-number.number c.loop-number-test.false) c.loop-number.invariant
