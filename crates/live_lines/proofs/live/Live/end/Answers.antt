use Rattle.live_lines.proofs.Prelude.{ap, subst, arith, LastName, IsNamed, ending_for, stage_of, state_of}
use Rattle.live_lines.proofs.EndSteps.{ending_begins, ending_refuses}
use Rattle.live_lines.proofs.live.Live.end.Goals as goal

pub loop-name-init : goal.loop-name-init
loop-name-init g c = record {
  within = (let said = c.requires.said in omega arith);
  ending = ending_begins (stage_of c.args.self.now) c.args.self.now.said (g.W.Sink.contents c.args.writer.now);
}

pub loop-name-preserved : goal.loop-name-preserved
loop-name-preserved g c =
    let P : LastName → Type 0 = λ last. IsNamed last in
    record {
      within = c.end_last.ensures.within;
      ending = ending_refuses (state_of c.args.self.now) (g.W.Sink.contents c.args.writer.now) (stage_of c.loop-name.self) c.loop-name.self.said c.end_last.new.self (g.W.Sink.contents c.loop-name.writer) (g.W.Sink.contents c.refuse_text.new.writer) c.end_last.result c.in-Unfinished.name.now
          (λ name. ap (ending_for name) c.in-Unfinished.is) (subst P c.in-Unfinished.is c.end_last.ensures.ends.named) c.loop-name.invariant.ending c.end_last.ensures.ends c.in_ok-refuse_text-in-Unfinished.ensures;
    }
