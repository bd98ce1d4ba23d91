use Rattle.live_machine.proofs.Prelude.{◌≡◌, codes, true, refl, sym, ap, subst, ◌∙◌, arith, rules, is_name, asked_of, IsLine}
use Rattle.live_machine.proofs.MadeLemmas.{name_in_line}
use Rattle.live_machine.proofs.made_lines.step_line.Goals as goal

pub returns-then-branch : goal.returns-then-branch
returns-then-branch c =
    let name = c.args.name.now in
    let ok : is_name name ≡ true = search rules in (
      subst IsLine (sym c.in_ok-line.ensures) (name_in_line (codes "op step ") name (codes " 1") ok refl refl (omega arith)),
      ap asked_of (sym c.as_slice.ensures.value) ∙ c.in_ok-asks_step.ensures c.if-branch.true,
    )
