use Rattle.live_lines.proofs.Prelude.{◌≡◌, ◌∙◌, ℕ, get_or, sym, ap, subst, ◌<◌, length, set, get_or_default, number_of, text_in, texts_of}
use Rattle.live_lines.proofs.SaidLemmas.{hears_by, text_at, text_set, text_set-other}
use Rattle.live_lines.proofs.said.Said.hear.Goals as goal

pub returns-clause-hears : goal.returns-clause-hears
returns-clause-hears c =
    let k = c.in_ok-number.number in
    let names = c.number_for.new.self.names in
    let texts = c.number_for.new.self.readers.items in
    let name = c.args.name.now in
    let u = c.take_line.new.self in
    let number : k ≡ number_of names name = c.in_ok-number.ensures.number in
    let even : length texts ≡ length names = c.in_ok-number.ensures.even in
    let inside : k < length texts = c.in_ok-number.ensures.within in
    let within : number_of names name < length texts = (let P : ℕ → Type 0 = λ n. n < length texts in subst P number inside) in
    let at : c.index_mut.result.now ≡ get_or texts k u = c.index_mut.ensures.value ∙ get_or_default texts k _ u inside in
    let was : texts_of c.args.self.now name ≡ c.index_mut.result.now =
    sym (c.in_ok-number.ensures.texts name) ∙ (sym (text_at names texts name u even within) ∙ (ap (λ j. get_or texts j u) (sym number) ∙ sym at)) in
    let is : text_in names (set texts k u) name ≡ u = ap (λ j. text_in names (set texts j u) name) number ∙ text_set names texts name u even within in
    hears_by c.take_line.result (texts_of c.args.self.now) (text_in names (set texts k u)) name c.args.line.now c.index_mut.result.now u was is
    (λ other apart. ap (λ j. text_in names (set texts j u) other) number ∙ (text_set-other names texts name other u even within apart ∙ c.in_ok-number.ensures.texts other))
    c.take_line.ensures.given
