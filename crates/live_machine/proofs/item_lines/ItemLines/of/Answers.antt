use Rattle.live_machine.proofs.Prelude.{◌≡◌, ◌∙◌, ◌++◌, [], refl, sym, ap, subst, physical_lines, with_feed, IsFed}
use Rattle.live_machine.proofs.ItemLemmas.{fed_more, lines_more}
use Rattle.live_machine.proofs.item_lines.ItemLines.of.Goals as goal

pub invariant_of-result : goal.invariant_of-result
invariant_of-result c =
    let e : c.append_line.new.bytes.items ≡ [] ++ with_feed c.args.line.now = c.in_ok-append_line.ensures ∙ ap (λ bs. bs ++ with_feed c.args.line.now) c.new-bytes.ensures.items in
    subst IsFed (sym e) (fed_more [] c.args.line.now refl c.requires)

pub returns : goal.returns
returns c =
    let e : c.append_line.new.bytes.items ≡ [] ++ with_feed c.args.line.now = c.in_ok-append_line.ensures ∙ ap (λ bs. bs ++ with_feed c.args.line.now) c.new-bytes.ensures.items in
    ap physical_lines e ∙ lines_more [] c.args.line.now refl c.requires
