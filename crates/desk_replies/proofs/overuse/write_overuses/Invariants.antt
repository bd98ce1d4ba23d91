use Rattle.desk_replies.proofs.Prelude.{map, take, named_act, IsOveruseOf, AreTextsOf, WritesSome}
use Rattle.desk_replies.proofs.overuse.write_overuses.Given as goal

-- those of the tenancies before this one are written
abbrev pub invariant-loop-uses : goal.invariant-loop-uses
invariant-loop-uses g l =
    WritesSome g.W.Sink.contents g.W.Sink.has_failed l.initial.writer l.writer
    (AreTextsOf (IsOveruseOf l.served.device (map named_act l.served.acts.now) l.served.replies.now) (take l.uses-index l.tenancies))
