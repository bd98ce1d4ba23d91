use Rattle.rr_graph.proofs.Prelude.{◌≡◌, ◌+◌, ◌*◌, ◌<◌, ◌≤◌, arith, ◌∙◌, sym, ap, subst, rules, Member, joins, in_column, member_at, column_count, no_member, get_or_read, IsRowBelow}
use Rattle.rr_graph.proofs.Rows.{part_push, part_skip}
use Rattle.rr_graph.proofs.targets.Targets.add_part.Goals as goal
use Rattle.rr_graph.proofs.targets.Targets.add_part.Goals.{then-joins+in_ok-push, else-joins}

pub loop-r-preserved : goal.loop-r-preserved
loop-r-preserved c =
    let within : c.loop-r.r < column_count c.args.self.now.nodes.now.numbering = omega (arith, c.requires.span.within) in
    let member_is : c.index-member.result.now ≡ member_at c.args.self.now.nodes.now.numbering c.loop-r.r = get_or_read _ c.loop-r.r _ within c.index-member.ensures no_member in
    let there : c.args.self.now.nodes.now.numbering.before ≤ c.args.self.now.x * column_count c.args.self.now.nodes.now.numbering + c.loop-r.r = omega (arith, c.requires.span.there, c.loop-r.auto.r) in
    let leads : Member → _ = λ s. joins c.args.self.now.nodes.now.numbering.arch c.args.self.now.nodes.now.numbering.strip c.args.self.now.a.kind s.kind c.args.self.now.a (in_column c.args.self.now.x s) in
    let lens : c.len.result ≡ column_count c.args.self.now.nodes.now.numbering = search rules in
    elim c.if-joins.branch [
      | then-joins+in_ok-push w ↦
          rw (w.row-is, w.in_ok-push.ensures.items, lens)
          (part_push c.args.self.now.nodes.now.numbering c.args.self.now.a c.loop-r.row.items c.args.self.now.x c.loop-r.r within there c.loop-r.invariant
          (ap leads (sym member_is) ∙ (sym c.joins.ensures ∙ w.if-joins.true)))
      | else-joins w ↦
          rw w.row-is
          (part_skip c.args.self.now.nodes.now.numbering c.args.self.now.a c.loop-r.row.items c.args.self.now.x c.loop-r.r within c.loop-r.invariant
          (ap leads (sym member_is) ∙ (sym c.joins.ensures ∙ w.if-joins.false)))
    ]

pub returns : goal.returns
returns c =
    let e : c.loop-r.r ≡ c.args.to = omega (arith, c.requires.span.order) in
    subst (λ r. IsRowBelow c.args.self.now.nodes.now.numbering c.args.self.now.a c.loop-r.row.items (c.args.self.now.x * column_count c.args.self.now.nodes.now.numbering + r)) e c.loop-r.invariant
