use Rattle.live_machine.proofs.Prelude.{◌≡◌, ◌≤◌, ℕ, List, [], ◌++◌, length, refl, sym, subst, rules, asked_of, NoForm, IsLine}
use Rattle.live_machine.proofs.MadeLemmas.{after_mark, if_ok, mark_alone, no_form}
use Rattle.live_machine.proofs.made_lines.formless_line.Goals as goal

pub returns-then-line : goal.returns-then-line
returns-then-line c =
    let P : List ℕ → Type 0 = λ t. IsLine t × (asked_of t ≡ NoForm) in
    if_ok c.from_slice.result (λ made is. subst P (sym is) (mark_alone, refl)) c.from_slice.ensures.items

pub returns : goal.returns
returns c =
    let line = c.args.line.now in
    let P : List ℕ → Type 0 = λ t. IsLine t × (asked_of t ≡ NoForm) in
    let short : length line ≤ 1048638 = search rules in
    if_ok c.join.result (λ made is. subst P (sym is) (after_mark line c.requires short, no_form (line ++ []))) c.join.ensures
