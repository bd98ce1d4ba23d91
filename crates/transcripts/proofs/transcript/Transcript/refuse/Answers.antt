use Rattle.std.proofs.Common.{None, arith, length, ap, refl}
use Rattle.transcripts.specs.Transcripts.{receipts_of}
use Rattle.transcripts.proofs.Receipts.{of_live-more, receipts-more, refusal_of_live}
use Rattle.transcripts.proofs.transcript.Transcript.refuse.Goals as goal

pub invariant_of-self-2 : goal.invariant_of-self-2
invariant_of-self-2 g c = record {
  count = omega (arith, c.self.invariant.count, receipts-more c.reserve.new.self.items _ _ None refl c.append.ensures.items, ap (λ is. length (receipts_of is)) c.reserve.ensures.items);
  of_live = λ stay. of_live-more c.reserve.new.self.items _ _ c.append.ensures.items (refusal_of_live c.args.refusal) (rw c.reserve.ensures.items (c.self.invariant.of_live stay));
}
