use Rattle.live_threads.proofs.Prelude.{List, ℕ, ◌++◌, ap, subst, sym, ◌∙◌, with_feed, ahead_of, line_of, IsFed, TakesSome}
use Rattle.live_threads.proofs.FedLemmas.{fed_more, some_fed, some_more}
use Rattle.live_threads.proofs.reader.take_lines.Goals as goal

pub loop-batch-preserved : goal.loop-batch-preserved
loop-batch-preserved c =
    let piece = c.loop-batch-test.ensures in
    let cleared = c.begin_line.ensures.line in
    let F : List ℕ → Type 0 = λ a. IsFed a (line_of c.begin_line.new.self) in
    let S : List ℕ → Type 0 = λ a. TakesSome (c.loop-batch.batch.items ++ with_feed (line_of c.take_piece.new.self)) (ahead_of c.args.feed.now) (line_of c.args.feed.now) a (line_of c.begin_line.new.self) in
    let B : List ℕ → Type 0 = λ b. TakesSome b (ahead_of c.args.feed.now) (line_of c.args.feed.now) (ahead_of c.begin_line.new.self) (line_of c.begin_line.new.self) in
    record {
      is_fed = subst F (sym c.begin_line.ensures.ahead) (fed_more _ _ _ _ _ c.loop-batch.invariant.is_fed piece cleared);
      some = subst B (sym (c.in_ok-push_line.ensures ∙ ap (λ l. c.loop-batch.batch.items ++ with_feed l) c.line.ensures))
          (subst S (sym c.begin_line.ensures.ahead) (some_more _ _ _ _ _ _ _ _ c.loop-batch.invariant.is_fed c.loop-batch.invariant.some piece cleared));
    }

pub returns-clause-fed : goal.returns-clause-fed
returns-clause-fed c = some_fed _ _ _ _ _ _ _ c.loop-batch.invariant.some c.loop-batch-test.ensures
