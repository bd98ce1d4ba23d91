use Rattle.rr_graph.proofs.Prelude.{ℕ, Bool, nat_lt, le-ltb, lt-ltb}
use Rattle.rr_graph.proofs.Tables.{filter_more, filter_less, filter_all}
use Rattle.rr_graph.proofs.table.add_below.Goals as goal
use Rattle.rr_graph.proofs.table.add_below.Goals.{then-j-end+in_ok-push, else-j-end}

pub loop-j-preserved : goal.loop-j-preserved
loop-j-preserved c =
    let test : ℕ → Bool = λ j. nat_lt j c.args.end in
    let row = c.args.row.now in
    elim c.if-j-end.branch [
      | then-j-end+in_ok-push w ↦
          rw (w.ends-is, w.in_ok-push.ensures.items)
          (filter_more test row c.loop-j.ends.items c.args.ends.now.items c.loop-j.j-index c.loop-j-test.true c.loop-j.invariant (lt-ltb _ _ w.if-j-end.true))
      | else-j-end w ↦
          rw w.ends-is
          (filter_less test row c.loop-j.ends.items c.args.ends.now.items c.loop-j.j-index c.loop-j-test.true c.loop-j.invariant (le-ltb _ _ w.if-j-end.false))
    ]

pub returns : goal.returns
returns c = filter_all (λ j. nat_lt j c.args.end) c.args.row.now c.loop-j.ends.items c.args.ends.now.items c.loop-j.j-index c.loop-j-test.false c.loop-j.invariant
