use Rattle.one_user.proofs.Prelude.{◌∙◌, ap, sym, pins_read, Basis}
use Rattle.one_user.proofs.PinnedRuns.{same_strip}
use Rattle.one_user.proofs.pinned.device_with.Goals as goal

pub returns-clause-strip : goal.returns-clause-strip
returns-clause-strip c =
    same_strip c.args.plan c.args.request (pins_read c.args.pins.now) c.args.tracks c.in_ok-arch.arch c.args.placing.now c.in_ok-arch.ensures.gives c.requires.placed
    ∙ sym (ap (λ (b : Basis). b.strip) c.in_ok-new.ensures)
