use Rattle.live_threads.proofs.Prelude.{List, ℕ, refl, subst, sym, ahead_of, Fed, lines_of}
use Rattle.live_threads.proofs.FedLemmas.{fed_first, fed_none, fed_read, fed_whole, read_ok}
use Rattle.live_threads.proofs.RingLemmas.{puts_maybe, puts_none, puts_one, puts_so, same_self}
use Rattle.live_threads.proofs.reader.feed_lines.Goals as goal

pub loop-init : goal.loop-init
loop-init g c = record { ahead = c.requires.ahead; fed = puts_none _ _ _ (same_self c.args.lines.now) refl (fed_none _ _ _ c.requires.ahead c.requires.line) }

pub returns-then-is_empty : goal.returns-then-is_empty
returns-then-is_empty g c =
    let reads = read_ok _ _ _ _ c.if-is_err.ensures.value c.refill.ensures.reads in
    puts_so _ _ _ _ c.loop.invariant.fed
    (λ fed f.
    let F : List ℕ → Type 0 = λ l. Fed (g.D.Dialogue.view c.args.source.now).remaining (g.D.Dialogue.view c.refill.new.dialogue).remaining (ahead_of c.refill.new.self) l fed in
    fed_whole _ _ _ _ fed c.if-is_empty.ensures (subst F (sym c.refill.ensures.line) (fed_read _ _ _ _ _ _ fed c.loop.invariant.ahead f reads.consumes)) (reads.end c.if-is_empty.ensures))

pub take_lines-requires : goal.take_lines-requires
take_lines-requires g c =
    let reads = read_ok _ _ _ _ c.if-is_err.ensures.value c.refill.ensures.reads in
    let F : List ℕ → Type 0 = λ l. Fed (g.D.Dialogue.view c.args.source.now).remaining (g.D.Dialogue.view c.refill.new.dialogue).remaining (ahead_of c.refill.new.self) l (lines_of c.loop.invariant.fed.batches) in
    (_, _, lines_of c.loop.invariant.fed.batches, subst F (sym c.refill.ensures.line) (fed_read _ _ _ _ _ _ _ c.loop.invariant.ahead c.loop.invariant.fed.held reads.consumes))

pub loop-preserved : goal.loop-preserved
loop-preserved g c =
    let reads = read_ok _ _ _ _ c.if-is_err.ensures.value c.refill.ensures.reads in
    record {
      ahead = c.in-Ok.ensures.ahead;
      fed = puts_one _ _ _ c.in-Ok.batch _ _ c.loop.invariant.fed c.if-not-hand_over.ensures.ring c.if-not-hand_over.ensures.put
          (λ fed f.
          let F : List ℕ → Type 0 = λ l. Fed (g.D.Dialogue.view c.args.source.now).remaining (g.D.Dialogue.view c.refill.new.dialogue).remaining (ahead_of c.refill.new.self) l fed in
          c.in-Ok.ensures.fed _ _ fed (subst F (sym c.refill.ensures.line) (fed_read _ _ _ _ _ _ fed c.loop.invariant.ahead f reads.consumes)));
    }

pub returns-then-is_err : goal.returns-then-is_err
returns-then-is_err g c = puts_so _ _ _ _ c.loop.invariant.fed (λ fed f. fed_first _ _ _ _ fed f)

pub returns-in_default : goal.returns-in_default
returns-in_default g c = puts_so _ _ _ _ c.loop.invariant.fed (λ fed f. fed_first _ _ _ _ fed f)

pub returns-then-not-hand_over : goal.returns-then-not-hand_over
returns-then-not-hand_over g c =
    let reads = read_ok _ _ _ _ c.if-is_err.ensures.value c.refill.ensures.reads in
    puts_maybe _ _ _ c.in-Ok.batch _ _ c.loop.invariant.fed c.if-not-hand_over.ensures.ring c.if-not-hand_over.ensures.put
    (λ fed f.
    let F : List ℕ → Type 0 = λ l. Fed (g.D.Dialogue.view c.args.source.now).remaining (g.D.Dialogue.view c.refill.new.dialogue).remaining (ahead_of c.refill.new.self) l fed in
    fed_first _ _ _ _ _ (c.in-Ok.ensures.fed _ _ fed (subst F (sym c.refill.ensures.line) (fed_read _ _ _ _ _ _ fed c.loop.invariant.ahead f reads.consumes))))
    (λ fed f. fed_first _ _ _ _ fed f)
