use Rattle.line_text.proofs.Prelude.{◌∙◌, ap, unwrap_or, position, rules, arith, bytes_eq, number_of}
use Rattle.line_text.proofs.NameLemmas.{number_of-found, number_of-within}
use Rattle.line_text.proofs.name_set.NameSet.number.Goals as goal

is_number : goal.returns-clause-number
is_number c =
    let found = number_of-found c.self.inside.names.keys c.args.name.now in
    let place = c.get_index_of.ensures.index in
    c.unwrap_or.ensures
    ∙ ap (λ r. unwrap_or r c.len.result) place
    ∙ ap (λ n. unwrap_or (position (λ slice. bytes_eq c.args.name.now slice.now) c.self.inside.names.keys) n) (search rules)
    ∙ found
    ∙ ap (λ names. number_of names c.args.name.now) c.self.view_is

pub returns-clause-number : goal.returns-clause-number
returns-clause-number c = is_number c

pub returns-clause-named : goal.returns-clause-named
returns-clause-named c = λ named. omega (arith, is_number c, number_of-within c.args.self.now c.args.name.now named)
