use Rattle.live_machine.proofs.Prelude.{◌∙◌, ◌++◌, ◌∷◌, [], sym, ap, subst, physical_lines, IsFed}
use Rattle.live_machine.proofs.ItemLemmas.{fed_more, lines_more}
use Rattle.live_machine.proofs.item_lines.ItemLines.with_line.Goals as goal

pub invariant_of-result : goal.invariant_of-result
invariant_of-result c = subst IsFed (sym c.in_ok-append_line.ensures) (fed_more c.self.inside.bytes.items c.args.line.now c.self.invariant c.requires)

pub returns : goal.returns
returns c =
    ap physical_lines c.in_ok-append_line.ensures
    ∙ (lines_more c.self.inside.bytes.items c.args.line.now c.self.invariant c.requires ∙ ap (λ ls. ls ++ c.args.line.now ∷ []) c.self.view_is)
