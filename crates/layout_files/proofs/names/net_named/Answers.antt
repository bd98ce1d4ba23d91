use Rattle.layout_files.proofs.Prelude.{◌∙◌, ℕ, List, ap, length, refl, arith, nat_tests, number_of}
use Rattle.layout_files.proofs.Reading.{number_is}
use Rattle.layout_files.proofs.names.net_named.Goals as goal
use Rattle.layout_files.proofs.names.net_named.Goals.{then-number-len-via-then-number-len, then-number-len-via-else-number-len+then-number}

pub returns-clause-read : goal.returns-clause-read
returns-clause-read c = λ circuit net same names within named.
    (c.number-number.ensures.number ∙ ap (λ (all : List (List ℕ)). number_of all c.args.name.now) same ∙ ap (number_of circuit.nets) named ∙ number_is circuit.nets net names.once within, refl)

pub returns-then-number-len-clause-read : goal.returns-then-number-len-clause-read
returns-then-number-len-clause-read c = λ circuit net same names within named.
    let is = c.number-number.ensures.number ∙ ap (λ (all : List (List ℕ)). number_of all c.args.name.now) same ∙ ap (number_of circuit.nets) named ∙ number_is circuit.nets net names.once within in
    let long = c.len.ensures ∙ ap length same in
    absurd (elim c.then-number-len.branch [
      | then-number-len-via-then-number-len w ↦ (let t = w.if-number-len.true in grind (arith, nat_tests))
      | then-number-len-via-else-number-len+then-number w ↦ (let t = w.if-number.true in let few = names.few in grind (arith, nat_tests))
    ])
