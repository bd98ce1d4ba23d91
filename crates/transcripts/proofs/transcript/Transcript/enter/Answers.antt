use Rattle.std.proofs.Common.{◌≡◌, ◌+◌, None, Some, length, arith, ap, ◌∙◌}
use Rattle.shared_core.specs.CoreState.{LeaseState}
use Rattle.transcripts.specs.Transcripts.{receipt_in, receipts_of}
use Rattle.transcripts.proofs.Receipts.{full_cause, full_of_live, gone_live, of_live-more, receipt_of_live, receipts-more}
use Rattle.transcripts.proofs.transcript.Transcript.enter.Goals as goal
use Rattle.transcripts.proofs.transcript.Transcript.enter.Goals.{in-Ok, in-Err-JournalFull, in-Err-NoSuchTenancy}

pub invariant_of-self-2 : goal.invariant_of-self-2
invariant_of-self-2 g c = elim c.match-lease_command.branch [
  | in-Ok w ↦ let made : c.lease_command.new.lease.made ≡ c.self.inside.lease.made + 1 = ap (λ (l : LeaseState). l.made) w.in-Ok.ensures.counted in
      record {
        count = omega (arith, c.self.invariant.count, made, receipts-more c.reserve.new.self.items _ _ (Some w.in-Ok.receipt) (ap receipt_in w.place-is) c.append.ensures.items, ap (λ is. length (receipts_of is)) c.reserve.ensures.items);
        of_live = λ stay. of_live-more c.reserve.new.self.items _ _ c.append.ensures.items (receipt_of_live _ w.in-Ok.receipt w.place-is) (rw c.reserve.ensures.items (c.self.invariant.of_live stay));
      }
  | in-Err-JournalFull w ↦ let made : c.lease_command.new.lease.made ≡ c.self.inside.lease.made = ap (λ (l : LeaseState). l.made) w.in-Err-JournalFull.ensures.counted in
      record {
        count = omega (arith, c.self.invariant.count, made, receipts-more c.reserve.new.self.items _ _ None (ap receipt_in w.place-is) c.append.ensures.items, ap (λ is. length (receipts_of is)) c.reserve.ensures.items);
        of_live = λ stay. of_live-more c.reserve.new.self.items _ _ c.append.ensures.items (full_of_live _ _ w.place-is (full_cause c.args.core.now.service c.lease_command.new.self.service c.self.inside.lease.id c.args.command _ _ w.in-Err-JournalFull.field-0-is w.in-Err-JournalFull.ensures.served)) (rw c.reserve.ensures.items (c.self.invariant.of_live stay));
      }
  | in-Err-NoSuchTenancy w ↦ let made : c.lease_command.new.lease.made ≡ c.self.inside.lease.made = ap (λ (l : LeaseState). l.made) w.in-Err-NoSuchTenancy.ensures.counted in
      record {
        count = omega (arith, c.self.invariant.count, made, receipts-more c.reserve.new.self.items _ _ None (ap receipt_in w.place-is) c.append.ensures.items, ap (λ is. length (receipts_of is)) c.reserve.ensures.items);
        of_live = λ stay. absurd (gone_live c.args.core.now.service c.lease_command.new.self.service c.self.inside.lease.id c.args.command _ _ w.in-Err-NoSuchTenancy.field-0-is w.in-Err-NoSuchTenancy.ensures.served (w.in-Err-NoSuchTenancy.ensures.live stay));
      }
]
