use Rattle.std.proofs.Common.{◌≡◌, ◌∙◌, ◌-◌, ◌++◌, ℕ, List, length, take, drop, ap, sym, arith, rules, length-drop}
use Rattle.std.proofs.lemmas.List.{take_all}
use Rattle.std.proofs.lemmas.Bool.Decides.{Decides-eqb}
use Rattle.std.proofs.lemmas.Slice.Eq.{starts_is}
use Rattle.text_parts.proofs.scanner.Scanner.takes.Goals as goal

pub returns-then-goes_on-clause-taken : goal.returns-then-goes_on-clause-taken
returns-then-goes_on-clause-taken c = λ yes.
    let rest : List ℕ = c.self.inside.rest.now in
    let text : List ℕ = c.args.text.now in
    let begins : rest ≡ text ++ drop (length text) rest = (starts_is Decides-eqb rest text c.starts_with-goes_on.result (search rules)).0 c.if-goes_on.true in
    let all : take (length rest - length text) (drop (length text) rest) ≡ drop (length text) rest = take_all _ _ (omega (arith, length-drop (length text) rest)) in
    sym c.self.view_is ∙ (begins ∙ ap (λ (back : List ℕ). text ++ back) (sym all))
