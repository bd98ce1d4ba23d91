use Rattle.live_threads.proofs.Prelude.{◌≡◌, SameProducer, sent}
use Rattle.live_threads.proofs.mailbox.Mailbox.await_room.Given as goal

abbrev pub invariant-loop : goal.invariant-loop
invariant-loop g l = record {
  ring : SameProducer l.fn.lines l.lines;
  same : sent l.lines ≡ sent l.fn.lines;
}
