use Rattle.arch_file.proofs.Prelude.{◌∙◌, ap, sym, segment_faults}
use Rattle.arch_file.proofs.ReadLemmas.{reads_segment}
use Rattle.arch_file.proofs.draft.Draft.read_segment.Goals as goal

pub returns : goal.returns
returns c = λ before follows.
    reads_segment before c.args.keyword c.args.line.now.words c.args.self.now c.mark.new.self follows c.requires
    (ap (λ b. segment_faults b c.args.line.now.words) (sym c.has.ensures) ∙ c.in_ok-check_segment.ensures) c.mark.ensures
