use Rattle.rr_graph.proofs.Prelude.{◌≡◌, ◌+◌, ◌-◌, ◌*◌, map, ap, ◌∙◌, ℕ, Table, column_count, row_of, base_of, beside_of, shift_of, table_by, table_of, with_width}
use Rattle.rr_graph.proofs.part.row_from.Goals as goal

pub overflow_sub-node : goal.overflow_sub-node
overflow_sub-node c =
    let base : c.base-base.result ≡ base_of c.args.nodes.now.numbering c.args.node = c.base-base.ensures ∙ ap (λ x. shift_of x * column_count c.args.nodes.now.numbering) c.requires.column in
    rw base c.requires.row.base_few

pub row-requires : goal.row-requires
row-requires c =
    let base : c.base-base.result ≡ base_of c.args.nodes.now.numbering c.args.node = c.base-base.ensures ∙ ap (λ x. shift_of x * column_count c.args.nodes.now.numbering) c.requires.column in
    let table : c.of_column.result.now ≡ table_of (with_width c.args.nodes.now.numbering c.args.width) c.args.tables.now c.args.node =
    c.of_column.ensures ∙ ap (λ x. table_by (beside_of c.args.width x) c.args.tables.now) c.requires.column in
    rw (base, table) c.requires.row.row

pub returns : goal.returns
returns c =
    let base : c.base-base.result ≡ base_of c.args.nodes.now.numbering c.args.node = c.base-base.ensures ∙ ap (λ x. shift_of x * column_count c.args.nodes.now.numbering) c.requires.column in
    let table : c.of_column.result.now ≡ table_of (with_width c.args.nodes.now.numbering c.args.width) c.args.tables.now c.args.node =
    c.of_column.ensures ∙ ap (λ x. table_by (beside_of c.args.width x) c.args.tables.now) c.requires.column in
    let list : Table → ℕ → _ = λ t b. map (λ j. j + b) (row_of t.starts.items t.ends.items (c.args.node - b)) in
    ap (map (λ j. j + c.base-base.result)) c.row.ensures ∙ (ap (λ t. list t c.base-base.result) table ∙ ap (list (table_of (with_width c.args.nodes.now.numbering c.args.width) c.args.tables.now c.args.node)) base)
