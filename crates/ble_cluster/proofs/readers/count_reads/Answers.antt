use Rattle.ble_cluster.proofs.Prelude.{◌≡◌, ◌++◌, length, take, drop, replicate, subst, sym, [], arith, common_steps, reads_of, AreCounts}
use Rattle.ble_cluster.proofs.Counting.{counts_none}
use Rattle.ble_cluster.proofs.readers.count_reads.Goals as goal

pub returns-clause-counts : goal.returns-clause-counts
returns-clause-counts c =
    let new = c.count_circuit.new.counts in
    let zeros = c.in_ok-counts.ensures.items_if_clones_equal (λ y is. is) in
    let whole : take c.in_ok-counts.counts.len (new ++ drop (length new) c.in_ok-counts.counts.items) ≡ new = grind (arith, common_steps) in
    let old : c.as_mut_slice.result.now ≡ replicate c.len.result 0 = grind (arith, common_steps, zeros) in
    subst (AreCounts (reads_of c.args.circuit.now)) (sym whole) (c.count_circuit.ensures [] (rw old (counts_none c.len.result)))
