use Rattle.rr_graph.proofs.Prelude.{◌≡◌, ◌*◌, arith, sym, subst, column_count, IsRowBelow, IsRowAt, on_ok_weaker}
use Rattle.rr_graph.proofs.Rows.{column_begins, column_zero, column_ends}
use Rattle.rr_graph.proofs.targets.add_column.Goals as goal
use Rattle.rr_graph.proofs.targets.add_column.Goals.{then-x-gt0+in_ok-add_kind+in_ok-add_kind-2+in_ok-add_kind-3+in_ok-add_kind-4+in_ok-add_kind-5, else-x-gt0}

pub add_kind-requires : goal.add_kind-requires
add_kind-requires c = column_begins _ _ _ _ c.args.nodes.now.lawful c.requires.row

pub add_kind-requires-2 : goal.add_kind-requires-2
add_kind-requires-2 c = elim c.if-x-gt0.branch [
  | then-x-gt0+in_ok-add_kind+in_ok-add_kind-2+in_ok-add_kind-3+in_ok-add_kind-4+in_ok-add_kind-5 w ↦
      rw w.row-is w.in_ok-add_kind-5.ensures
  | else-x-gt0 w ↦
      let zero : c.args.x ≡ 0 = omega arith in
      rw w.row-is (subst (λ x. IsRowAt c.args.nodes.now.numbering c.args.a c.args.row.now.items x (5 * 65536)) (sym zero)
      (column_zero _ _ _ c.args.nodes.now.lawful (subst (λ x. IsRowBelow c.args.nodes.now.numbering c.args.a c.args.row.now.items (x * column_count c.args.nodes.now.numbering)) zero c.requires.row)))
]

pub returns : goal.returns
returns c = on_ok_weaker _ (column_ends c.args.nodes.now.numbering c.args.a _ c.args.x c.args.nodes.now.lawful) c.add_kind-2.ensures
