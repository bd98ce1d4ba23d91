use Rattle.arch_file.proofs.Prelude.{◌∙◌, false, slice_index_or, sym, rank_of}
use Rattle.arch_file.proofs.EndLemmas.{draft_arch, end_faults-missing}
use Rattle.arch_file.proofs.draft.Draft.finish.Goals as goal

pub returns-in-Some : goal.returns-in-Some
returns-in-Some c = λ lines follows.
    end_faults-missing (λ k. slice_index_or c.args.self.stands (rank_of k) false) lines c.in-Some.keyword follows.stands (sym c.in-Some.ensures)

pub returns : goal.returns
returns c = λ lines follows.
    draft_arch c.args.self lines c.args.tracks c.new.result c.reach.result c.reach-2.result c.reach-3.result follows
    (sym c.in_default.ensures) (sym c.has_its_pins.ensures ∙ c.if-not-has_its_pins.false) c.requires.few c.requires.many c.new.ensures
    c.reach.ensures.value (c.reach.ensures.low, c.reach.ensures.high)
    c.reach-2.ensures.value (c.reach-2.ensures.low, c.reach-2.ensures.high)
    c.reach-3.ensures.value (c.reach-3.ensures.low, c.reach-3.ensures.high)
