use Rattle.desk_replies.proofs.Prelude.{◌≡◌, ◌∙◌, Some, [], ap, map, refl, subst, sym, slice_get, take_all, slice_get-get_or, all_none, named_act, IsOveruseIf, IsOveruseOf, AreTextsOf, WritesSome}
use Rattle.desk_replies.proofs.WrittenTexts.{some_more, taken_more}
use Rattle.desk_replies.proofs.overuse.write_overuses.Goals as goal

pub loop-uses-init : goal.loop-uses-init
loop-uses-init g c = ([], refl, all_none g.W.Sink.contents g.W.Sink.has_failed c.args.writer.now)

pub loop-uses-preserved : goal.loop-uses-preserved
loop-uses-preserved g c =
    let here : slice_get c.args.tenancies.now c.loop-uses.uses-index ≡ Some c.uses-item.result = slice_get-get_or _ _ c.uses-item.result c.loop-uses-test.true ∙ ap Some (sym c.uses-item.is) in
    some_more g.W.Sink.contents g.W.Sink.has_failed _ _ _ (IsOveruseOf c.args.served.device (map named_act c.args.served.acts.now) c.args.served.replies.now) _ _ c.uses-item.result (taken_more c.args.tenancies.now c.loop-uses.uses-index c.uses-item.result here) c.loop-uses.invariant
    (subst (λ unrouted. WritesSome g.W.Sink.contents g.W.Sink.has_failed c.loop-uses.writer c.write_overuse_if.new.writer
    (IsOveruseIf unrouted c.args.served.device (map named_act c.args.served.acts.now) c.args.served.replies.now c.uses-item.result.tenancy.name.now)) c.is_word-is_unrouted.ensures c.in_ok-write_overuse_if.ensures)

pub returns : goal.returns
returns g c =
    subst (λ tenancies. WritesSome g.W.Sink.contents g.W.Sink.has_failed c.args.writer.now c.loop-uses.writer (AreTextsOf (IsOveruseOf c.args.served.device (map named_act c.args.served.acts.now) c.args.served.replies.now) tenancies))
    (take_all c.loop-uses.uses-index c.args.tenancies.now c.loop-uses-test.false) c.loop-uses.invariant
