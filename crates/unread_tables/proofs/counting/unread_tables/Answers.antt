use Rattle.unread_tables.proofs.Prelude.{ℕ, ◌∙◌, ◌<◌, Bool, List, false, get_or, length, not, count_by, ap, sym, subst, All, LookupTable, Circuit, AreMarks, read_nets}
use Rattle.unread_tables.proofs.Marking.{reads_within, unread_is}
use Rattle.unread_tables.proofs.counting.unread_tables.Goals as goal

pub marks_of-requires : goal.marks_of-requires
marks_of-requires c =
    let circuit : Circuit = c.args.circuit.now in
    subst (λ n. All (λ net. net < n) c.deref.result.now) (sym c.len.ensures)
    (subst (λ (nets : List ℕ). All (λ net. net < length circuit.nets) nets) (sym (c.deref.ensures.value ∙ c.in_ok-reads.ensures)) (reads_within circuit c.requires))

pub returns : goal.returns
returns c =
    let circuit : Circuit = c.args.circuit.now in
    let marks : List Bool = c.in_ok-marks.marks.items in
    let are : AreMarks (length circuit.nets) (read_nets circuit) marks = subst (λ n. AreMarks n (read_nets circuit) marks) c.len.ensures
    (subst (λ (nets : List ℕ). AreMarks c.len.result nets marks) (c.deref.ensures.value ∙ c.in_ok-reads.ensures) c.in_ok-marks.ensures) in
    c.count_unmarked.ensures
    ∙ (ap (λ (m : List Bool). count_by (λ (table : LookupTable). not (get_or m table.output false)) circuit.tables) c.deref-2.ensures.value
    ∙ unread_is circuit marks c.requires are)
