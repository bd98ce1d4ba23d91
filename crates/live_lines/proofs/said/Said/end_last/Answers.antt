use Rattle.live_lines.proofs.Prelude.{rules, ◌≡◌, ◌≢◌, [], ◌∷◌, ◌++◌, ◌&&◌, length, true, false, nat_eq, Some, refl, sym, ap, ◌∙◌, arith, is_some, slice_get, false≢true, nat_tests, number_of, is_name, items_to_come, text_in}
use Rattle.live_lines.proofs.EndSteps.{all_named, items_none, items_stay, last_open, stay_by}
use Rattle.live_lines.proofs.said.Said.end_last.Goals as goal

pub returns-in-None-clause-ends : goal.returns-in-None-clause-ends
returns-in-None-clause-ends c =
    let names = c.args.self.now.names in
    let old : c.args.self.now.readers.items ≡ [] = search rules in
    let new : c.pop.new.self.items ≡ [] = search rules in
    record {
      named = tt;
      items = λ name ok. items_none names c.args.self.now.readers.items name old ∙ sym (items_none names c.pop.new.self.items name new);
      missing = λ is name. items_none names c.args.self.now.readers.items name old;
    }

pub returns-then-are_all-clause-ends : goal.returns-then-are_all-clause-ends
returns-then-are_all-clause-ends c =
    let names = c.args.self.now.names in
    let texts = c.pop.new.self.items in
    let t = c.in-Some.reader in
    let n = c.name-name.result.now in
    let first = nat_eq c.number.result c.len-number.result in
    let e : c.args.self.now.readers.items ≡ texts ++ t ∷ [] = search rules in
    let at : slice_get names (length texts) ≡ Some n = search rules in
    let all : (is_some t && is_name n && first) ≡ true = search rules in
    let len : c.len-number.result ≡ length texts = search rules in
    let number : first ≡ true → number_of names n ≡ length texts = λ f. (let same : c.number.result ≡ c.len-number.result = grind (arith, nat_tests, f) in sym c.number.ensures.number ∙ (same ∙ len)) in
    record {
      named = all_named (is_some t) (is_name n) first all;
      items = λ name ok. ap (λ xs. items_to_come (text_in names xs name) []) e ∙ last_open (is_some t) (is_name n) first names texts t n name at refl number all;
      missing = λ is. absurd (cc);
    }

pub returns-else-are_all-clause-ends : goal.returns-else-are_all-clause-ends
returns-else-are_all-clause-ends c =
    let names = c.args.self.now.names in
    let texts = c.pop.new.self.items in
    let t = c.in-Some.reader in
    let n = c.name-name.result.now in
    let first = nat_eq c.number.result c.len-number.result in
    let e : c.args.self.now.readers.items ≡ texts ++ t ∷ [] = search rules in
    let at : slice_get names (length texts) ≡ Some n = search rules in
    let none : (is_some t && is_name n && first) ≡ false = search rules in
    let len : c.len-number.result ≡ length texts = search rules in
    let number : first ≡ false → number_of names n ≢ length texts = λ f is. (let same : c.number.result ≡ c.len-number.result = c.number.ensures.number ∙ (is ∙ sym len) in let yes : first ≡ true = grind (arith, nat_tests, same) in false≢true (sym f ∙ yes)) in
    record {
      named = tt;
      items = λ name ok. ap (λ xs. items_to_come (text_in names xs name) []) e ∙ items_stay names texts t name (stay_by (is_some t) (is_name n) first names texts t n name at refl refl number none ok);
      missing = λ is. absurd (cc);
    }
