use Rattle.desk_replies.proofs.Prelude.{map, take, account_now, named_act, IsOveruse, AreItemsOf, AreTextsOf, WritesSome}
use Rattle.desk_replies.proofs.page_items.write_names.Given as goal

-- the names before this one are written
abbrev pub invariant-loop-account : goal.invariant-loop-account
invariant-loop-account g l =
    WritesSome g.W.Sink.contents g.W.Sink.has_failed l.initial.writer l.writer
    (AreTextsOf (AreItemsOf (IsOveruse l.served.device (map named_act l.served.acts.now) l.served.replies.now) l.states.entries) (map account_now (take l.account-index l.accounts)))
