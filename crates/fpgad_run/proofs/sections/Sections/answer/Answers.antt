use Rattle.fpgad_run.proofs.Prelude.{◌≡◌, ◌≤◌, ◌<◌, ◌++◌, ◌∷◌, [], ◌∙◌, get_or, length, length-append, add-one, suc, true, sym, ap, rules, arith, is_ok, get_or_default, length-set, MemorySink, answer_text, sink_text, number_of, with_name, with_text, named_sections}
use Rattle.fpgad_run.proofs.SectionLemmas.{on_told, is_told, zipped-set, zipped-push, length-found, length-new}
use Rattle.fpgad_run.proofs.sections.Sections.answer.Goals as goal

pub returns-then-number-len : goal.returns-then-number-len
returns-then-number-len c =
    let k = c.in_ok-number.number in
    let v = c.answer.new.writer in
    let names = c.args.self.now.names in
    let name = c.args.name.now in
    let texts = c.args.self.now.texts.items in
    let text = answer_text c.answer.result.0 in
    let within : k < length texts = search rules in
    let at : k ≡ number_of names name = search rules in
    let named : c.add_numbered.new.self ≡ with_name names name = search rules in
    let same : c.index_mut.result.now ≡ get_or texts k v = c.index_mut.ensures.value ∙ get_or_default texts k _ v within in
    on_told c.check_written.result c.answer.result.1 c.index_mut.result.now v text c.check_written.ensures c.answer.ensures.written
    (λ e. (
      c.answer.result.0,
      c.answer.ensures.answered,
      rw named (zipped-set names texts name text k v at within c.requires (e ∙ ap (λ (t : MemorySink). sink_text t ++ text) same)),
      rw named (length-set texts k v ∙ c.requires ∙ sym (length-found names name (omega (arith, at, within, c.requires)))),
    ))

pub returns : goal.returns
returns c =
    let k = c.in_ok-number.number in
    let v = c.answer-2.new.writer in
    let names = c.args.self.now.names in
    let name = c.args.name.now in
    let texts = c.args.self.now.texts.items in
    let text = answer_text c.answer-2.result.0 in
    let at : k ≡ number_of names name = search rules in
    let named : c.add_numbered.new.self ≡ with_name names name = search rules in
    let past : length texts ≤ k = search rules in
    let within : k < length c.add_numbered.new.self = search rules in
    let is : is_ok c.answer-2.result.1 ≡ true = search rules in
    let none : sink_text c.new-first.result ≡ [] = search rules in
    let first : sink_text v ≡ text = is_told c.answer-2.result.1 c.new-first.result v text is c.answer-2.ensures.written ∙ ap (λ t. t ++ text) none in
    let pushed : c.push.new.self.items ≡ texts ++ v ∷ [] = search rules in (
      c.answer-2.result.0,
      c.answer-2.ensures.answered,
      rw (named, pushed) (zipped-push names texts name v c.requires (omega (arith, at, past)) ∙ ap (with_text (named_sections names texts) name) first),
      rw (named, pushed) (length-append texts (v ∷ []) ∙ add-one (length texts) ∙ ap suc c.requires
          ∙ sym (length-new names name k (omega (arith, past, c.requires)) (rw (← named) within))),
    )
