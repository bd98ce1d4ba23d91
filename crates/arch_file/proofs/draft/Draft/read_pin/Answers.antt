use Rattle.arch_file.proofs.Prelude.{pins_of}
use Rattle.arch_file.proofs.ReadLemmas.{reads_pin}
use Rattle.arch_file.proofs.draft.Draft.read_pin.Goals as goal

pub returns : goal.returns
returns c = λ before follows.
    let pin = c.in_ok-pin.ensures in
    reads_pin before c.args.keyword c.args.line.now.words c.args.self.now c.add.new.self c.mark.new.self c.in_ok-pin.pin follows c.requires
    (pin.faults (pins_of before) follows.inputs follows.clock) pin.value c.in_ok-add.ensures pin.reached pin.clock pin.room c.mark.ensures
