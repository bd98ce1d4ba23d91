use Rattle.arch_file.proofs.Prelude.{◌∙◌, sym, ap, true, least_kind}
use Rattle.arch_file.proofs.LineLemmas.{keyword_faults-value, repeated_first}
use Rattle.arch_file.proofs.ReadLemmas.{reads_value}
use Rattle.arch_file.proofs.draft.Draft.read_value.Goals as goal

pub returns-then-has : goal.returns-then-has
returns-then-has c = λ before follows.
    let keyword = c.args.keyword in
    let words = c.args.line.now.words in
    ap least_kind (keyword_faults-value before keyword words true c.requires.pin c.requires.segment (sym (follows.stands keyword) ∙ sym c.has.ensures ∙ c.if-has.true))
    ∙ repeated_first keyword words

pub returns : goal.returns
returns c = λ before follows.
    reads_value before c.args.keyword c.args.line.now.words c.args.self.now c.set.new.self c.mark.new.self follows c.requires.pin c.requires.segment
    (sym c.has.ensures ∙ c.if-has.false) c.in_ok-set.ensures.faults c.in_ok-set.ensures.sets c.mark.ensures
