use Rattle.live_lines.proofs.Prelude.{◌≡◌, ◌≤◌, ◌++◌, ◌∷◌, ◌∙◌, [], None, length, sym, ap, rules, number_of, with_name}
use Rattle.live_lines.proofs.SaidLemmas.{number_of-added, text_in-more}
use Rattle.live_lines.proofs.said.Said.number_for.Goals as goal

pub returns-clause-number : goal.returns-clause-number
returns-clause-number c =
    let names = c.args.self.now.names in
    let name = c.args.name.now in
    let kept : c.leak.result.now ≡ name = search rules in
    let at : c.in_ok-number.number ≡ number_of names name = c.in_ok-number.ensures.number ∙ ap (number_of names) kept in
    let named : c.add_numbered.new.self ≡ with_name names name = c.in_ok-number.ensures.names ∙ ap (with_name names) kept in
    at ∙ (sym (number_of-added names name) ∙ ap (λ ns. number_of ns name) (sym named))

pub returns-clause-texts : goal.returns-clause-texts
returns-clause-texts c =
    let names = c.args.self.now.names in
    let name = c.args.name.now in
    let texts = c.args.self.now.readers.items in
    let kept : c.leak.result.now ≡ name = search rules in
    let named : c.add_numbered.new.self ≡ with_name names name = c.in_ok-number.ensures.names ∙ ap (with_name names) kept in
    let pushed : c.push.new.self.items ≡ texts ++ None ∷ [] = search rules in
    let past : length texts ≤ number_of names name = search rules in
    λ other. rw (named, pushed) (text_in-more names texts name other c.requires past)
