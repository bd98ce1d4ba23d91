use Rattle.configuration_text.proofs.Prelude.{◌≡◌, ◌∙◌, List, None, sym, rules, drivers_as, Driver, LaidBlock}
use Rattle.configuration_text.proofs.Rest.{past_from, read_from}
use Rattle.configuration_text.proofs.Found.{first_end, first_found, first_passed}
use Rattle.configuration_text.proofs.global_lines.driver_of.Goals as goal

pub returns-in-Some : goal.returns-in-Some
returns-in-Some c =
    let F : LaidBlock → List Driver = λ laid. drivers_as c.args.design.arch.now c.args.design.layout.now laid c.args.net laid.block in
    let blocks = c.args.design.layout.now.blocks in
    let at = c.loop-laid.laid-index in
    let laid = c.laid-item.result in
    first_found F blocks at laid _ (read_from c.blocks-laid-items.result.now blocks c.blocks-laid-items.ensures at laid c.loop-laid-test.true c.laid-item.is) c.loop-laid.invariant c.in-Some.driver (sym c.in_ok-driver.ensures ∙ c.in-Some.is)

pub loop-laid-preserved : goal.loop-laid-preserved
loop-laid-preserved c =
    let F : LaidBlock → List Driver = λ laid. drivers_as c.args.design.arch.now c.args.design.layout.now laid c.args.net laid.block in
    let blocks = c.args.design.layout.now.blocks in
    let at = c.loop-laid.laid-index in
    let laid = c.laid-item.result in
    let none : c.in_ok-driver.field-0 ≡ None = first_of (search (rules, c.in_default.is), search (rules, c.in_default.not-Some)) in
    first_passed F blocks at laid _ (read_from c.blocks-laid-items.result.now blocks c.blocks-laid-items.ensures at laid c.loop-laid-test.true c.laid-item.is) c.loop-laid.invariant (sym c.in_ok-driver.ensures ∙ none)

pub returns : goal.returns
returns c =
    first_end (λ (laid : LaidBlock). drivers_as c.args.design.arch.now c.args.design.layout.now laid c.args.net laid.block) c.args.design.layout.now.blocks c.loop-laid.laid-index _
    (past_from c.blocks-laid-items.result.now c.args.design.layout.now.blocks c.blocks-laid-items.ensures c.loop-laid.laid-index c.loop-laid-test.false) c.loop-laid.invariant
