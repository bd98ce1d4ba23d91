use Rattle.rr_graph.proofs.Prelude.{◌≡◌, ◌+◌, ◌∙◌, ◌||◌, nat_le, arith, rules, sym, and_parts, false≢true, is_chan_y, column_count, with_width}
use Rattle.rr_graph.proofs.Widths.{numbering_of_width}
use Rattle.rr_graph.proofs.Places.{indexed, found, room, has_place}
use Rattle.rr_graph.proofs.numbering.Nodes.numbers_at.Goals as goal
use Rattle.rr_graph.proofs.numbering.Nodes.numbers_at.Goals.{then-y-gt66-via-then-y-gt66, then-y-gt66-via-else-y-gt66+then-not-has_column}

pub returns-then-y-gt66-clause-all : goal.returns-then-y-gt66-clause-all
returns-then-y-gt66-clause-all c = λ i within at.
    let nodes = c.args.self.now.numbering in
    let lawful = numbering_of_width nodes c.args.width c.args.self.now.lawful c.requires.0 (omega (arith, c.requires.1, c.args.self.now.lawful.strip.width.1)) in
    let has = has_place (with_width nodes c.args.width) c.args.kind c.args.x c.args.y i lawful within at in
    elim c.then-y-gt66.branch [
      | then-y-gt66-via-then-y-gt66 w ↦ absurd (omega (arith, has.0, w.if-y-gt66.true))
      | then-y-gt66-via-else-y-gt66+then-not-has_column w ↦ absurd (false≢true (sym w.if-not-has_column.true ∙ (w.has_column.ensures ∙ has.1)))
    ]

pub overflow_sub-result : goal.overflow_sub-result
overflow_sub-result c =
    let nodes = c.args.self.now.numbering in
    let lens : c.len.result ≡ column_count nodes = search rules in
    let has = (and_parts (nat_le c.args.x c.args.width) (nat_le 1 c.args.x || is_chan_y c.args.kind) (sym c.has_column.ensures ∙ c.if-not-has_column.false)).1 in
    rw lens (room nodes c.args.kind c.args.x c.args.y c.nodes_before.result c.args.self.now.lawful has c.nodes_before.ensures)

pub overflow_sub-result-2 : goal.overflow_sub-result-2
overflow_sub-result-2 c =
    let nodes = c.args.self.now.numbering in
    let lens : c.len.result ≡ column_count nodes = search rules in
    let has = (and_parts (nat_le c.args.x c.args.width) (nat_le 1 c.args.x || is_chan_y c.args.kind) (sym c.has_column.ensures ∙ c.if-not-has_column.false)).1 in
    rw lens (room nodes c.args.kind c.args.x (c.args.y + 1) c.nodes_before-2.result c.args.self.now.lawful has c.nodes_before-2.ensures)

pub returns-clause-sound : goal.returns-clause-sound
returns-clause-sound c = λ i from to.
    let nodes = c.args.self.now.numbering in
    let lens : c.len.result ≡ column_count nodes = search rules in
    let from' = rw lens at from in
    let to' = rw lens at to in
    indexed nodes c.args.kind c.args.x c.args.y c.nodes_before.result c.nodes_before-2.result i c.args.self.now.lawful (omega (arith, c.if-y-gt66.false)) c.nodes_before.ensures c.nodes_before-2.ensures (omega (arith, from')) (omega (arith, to'))

pub returns-clause-all : goal.returns-clause-all
returns-clause-all c = λ i within at.
    let nodes = c.args.self.now.numbering in
    let lens : c.len.result ≡ column_count nodes = search rules in
    let both = found nodes c.args.kind c.args.x c.args.y c.nodes_before.result c.nodes_before-2.result i c.args.self.now.lawful c.nodes_before.ensures c.nodes_before-2.ensures at in
    rw lens (omega (arith, both.0), omega (arith, both.1))
