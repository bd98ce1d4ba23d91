use Rattle.rr_graph.proofs.Prelude.{◌≡◌, ◌+◌, ◌*◌, ◌++◌, ◌∷◌, [], List, ℕ, length, subst, sym, ap, ◌∙◌, arith, rules, filter, nat_lt, Node, column_count, node_of, IsRowBeside, IsTable}
use Rattle.rr_graph.proofs.Rows.{column_few, row_cut}
use Rattle.rr_graph.proofs.Tables.{table_push}
use Rattle.rr_graph.proofs.table.Table.cut.Goals as goal

pub count_to-end-requires : goal.count_to-end-requires
count_to-end-requires c =
    let few = column_few c.args.nodes.now.numbering c.loop-i.i 3 c.args.nodes.now.lawful (omega (arith, c.loop-i-test.true, c.count_to-count.ensures)) in
    omega (arith, ap (λ (a : Node). a.x) c.node.ensures, few)

pub row-requires : goal.row-requires
row-requires c =
    let t = c.requires c.count_to-count.result c.count_to-count.ensures in
    record {
      there = omega (arith, t.many, c.loop-i-test.true);
      order = t.order c.loop-i.i c.loop-i-test.true;
      within = t.within (c.loop-i.i + 1) (omega (arith, c.loop-i-test.true));
    }

pub loop-i-preserved : goal.loop-i-preserved
loop-i-preserved c =
    let nodes = c.args.nodes.now.numbering in
    let t = c.requires c.count_to-count.result c.count_to-count.ensures in
    let x = (node_of nodes c.loop-i.i).x in
    let end_is : c.count_to-end.result + nodes.before ≡ (x + 1) * column_count nodes = c.count_to-end.ensures ∙ ap (λ (a : Node). (a.x + 1) * column_count nodes) c.node.ensures in
    let cut : IsRowBeside nodes 0 c.loop-i.i (filter (λ j. nat_lt j c.count_to-end.result) c.row.result.now) =
    subst (λ (row : List ℕ). IsRowBeside nodes 0 c.loop-i.i (filter (λ j. nat_lt j c.count_to-end.result) row)) (sym c.row.ensures)
    (row_cut nodes (node_of nodes c.loop-i.i) _ x c.count_to-end.result end_is (t.rows c.loop-i.i c.loop-i-test.true)) in
    let len_is : c.len.result ≡ length c.add_below.new.ends.items = search rules in
    rw (c.in_ok-push-2.ensures.items, len_is)
    (subst (λ ends. IsTable nodes 0 (c.loop-i.starts.items ++ length ends ∷ []) ends (c.loop-i.i + 1)) (sym c.in_ok-add_below.ensures)
    (table_push (IsRowBeside nodes 0) _ _ _ c.loop-i.i c.loop-i.invariant cut))
