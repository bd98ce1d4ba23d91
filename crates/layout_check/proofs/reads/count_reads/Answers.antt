use Rattle.layout_check.proofs.Prelude.{[], List, length, map, refl, subst, sym, ◌++◌, ℕ, flat_map, option_to_list, Latch, LookupTable, AreCounts}
use Rattle.layout_check.proofs.ReadCounts.{counts_none, counts_on}
use Rattle.layout_check.proofs.reads.count_reads.Goals as goal

pub returns-clause-exact : goal.returns-clause-exact
returns-clause-exact c =
    let circuit = c.args.circuit.now in
    let tables : List ℕ = flat_map (λ (table : LookupTable). table.inputs) circuit.tables in
    let latches : List ℕ = map (λ (latch : Latch). latch.input) circuit.latches in
    let controls : List ℕ = flat_map (λ (latch : Latch). option_to_list latch.control) circuit.latches in
    let three = rw c.as_slice-2.ensures at c.count_controls.ensures in
    let two = rw c.as_slice.ensures at c.count_latches.ensures in
    let four = rw c.as_slice-3.ensures at c.count_all.ensures in
    (counts_on _ _ _ ((tables ++ latches) ++ controls) circuit.outputs _
    (counts_on _ _ _ (tables ++ latches) controls _ (counts_on _ _ _ tables latches _ c.count_tables.ensures two refl) three refl) four refl).counted []
    (subst (λ (ns : List ℕ). AreCounts [] ns) (sym c.requires) (counts_none (length circuit.nets)))
