use Rattle.live_lines.proofs.Prelude.{◌≡◌, ◌∙◌, ℕ, ◌<◌, ◌≤◌, get_or, length, false, sym, ap, subst, rules, is_some, nat_lt, number_of}
use Rattle.live_lines.proofs.SaidLemmas.{text_at, text_past}
use Rattle.live_lines.proofs.said.Said.is_in_text.Goals as goal

pub returns-then-number-len : goal.returns-then-number-len
returns-then-number-len c =
    let k = c.number-number.result in
    let names = c.args.self.now.names in
    let texts = c.args.self.now.readers.items in
    let name = c.args.name.now in
    let u = c.index.result.now in
    let number : k ≡ number_of names name = c.number-number.ensures.number in
    let inside : k < length texts = search rules in
    let within : number_of names name < length texts = (let P : ℕ → Type 0 = λ n. n < length texts in subst P number inside) in
    let at : u ≡ get_or texts k u = search rules in
    c.is_in_text.ensures ∙ ap is_some (at ∙ (ap (λ n. get_or texts n u) number ∙ text_at names texts name u c.requires within))

pub returns-else-number-len : goal.returns-else-number-len
returns-else-number-len c =
    let k = c.number-number.result in
    let names = c.args.self.now.names in
    let texts = c.args.self.now.readers.items in
    let name = c.args.name.now in
    let number : k ≡ number_of names name = c.number-number.ensures.number in
    let past : length texts ≤ k = search rules in
    let beyond : length texts ≤ number_of names name = (let P : ℕ → Type 0 = λ n. length texts ≤ n in subst P number past) in
    let not_less : nat_lt k c.len.result ≡ false = search rules in
    not_less ∙ sym (ap is_some (text_past names texts name c.requires beyond))
