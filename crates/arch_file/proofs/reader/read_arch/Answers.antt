use Rattle.arch_file.proofs.ReaderLemmas.{arch_of-end}
use Rattle.arch_file.proofs.reader.read_arch.Goals as goal

pub returns-clause-gives : goal.returns-clause-gives
returns-clause-gives c =
    let read = c.in_ok-draft.ensures in
    arch_of-end c.args.text.now c.args.tracks c.in-Ok.lines c.in-Err-finish.kind c.if-text-gt-MAX_TEXT.false c.in-Ok.ensures.gives read.1
    (c.in-Err-finish.ensures c.in-Ok.lines read.0)
