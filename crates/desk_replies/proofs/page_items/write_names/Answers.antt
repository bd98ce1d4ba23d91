use Rattle.desk_replies.proofs.Prelude.{[], map, refl, subst, take_all, slice_get-get_or, all_none, account_now, named_act, IsOveruse, AreItemsOf, AreTextsOf, WritesSome}
use Rattle.desk_replies.proofs.WrittenTexts.{mapped_more, some_more}
use Rattle.desk_replies.proofs.page_items.write_names.Goals as goal

pub loop-account-init : goal.loop-account-init
loop-account-init g c = ([], refl, all_none g.W.Sink.contents g.W.Sink.has_failed c.args.writer.now)

pub loop-account-preserved : goal.loop-account-preserved
loop-account-preserved g c =
    some_more g.W.Sink.contents g.W.Sink.has_failed _ _ _ (AreItemsOf (IsOveruse c.args.served.device (map named_act c.args.served.acts.now) c.args.served.replies.now) c.args.states.now.entries) _ _ _
    (mapped_more account_now c.args.accounts.now c.loop-account.account-index _ (slice_get-get_or _ _ _ c.loop-account-test.true)) c.loop-account.invariant c.in_ok-write_name.ensures

pub returns : goal.returns
returns g c =
    subst (λ accounts. WritesSome g.W.Sink.contents g.W.Sink.has_failed c.args.writer.now c.loop-account.writer
    (AreTextsOf (AreItemsOf (IsOveruse c.args.served.device (map named_act c.args.served.acts.now) c.args.served.replies.now) c.args.states.now.entries) (map account_now accounts)))
    (take_all c.loop-account.account-index c.args.accounts.now c.loop-account-test.false) c.loop-account.invariant
