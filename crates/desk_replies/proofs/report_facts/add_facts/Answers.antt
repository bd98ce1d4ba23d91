use Rattle.desk_replies.proofs.Prelude.{◌≡◌, ◌∙◌, Some, ap, option_map, sym, slice_get, slice_get-get_or, IsFactOf, told_accounts}
use Rattle.desk_replies.proofs.Facts.{one_added}
use Rattle.desk_replies.proofs.report_facts.add_facts.Goals as goal

pub loop-uses-preserved : goal.loop-uses-preserved
loop-uses-preserved c =
    let tenancies = c.args.tenancies.now in
    let at = c.loop-uses.uses-index in
    let here : slice_get tenancies at ≡ Some c.uses-item.result = slice_get-get_or _ _ c.uses-item.result c.loop-uses-test.true ∙ ap Some (sym c.uses-item.is) in
    one_added (IsFactOf (option_map told_accounts c.args.told)) tenancies at c.uses-item.result c.args.facts.now.items c.loop-uses.facts.items _ c.fact_of.result here c.loop-uses.invariant c.in_ok-push.ensures.items c.fact_of.ensures
