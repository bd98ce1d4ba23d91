use Rattle.arch_file.proofs.Prelude.{take, Shows, texts}
use Rattle.arch_file.proofs.pin_line.SideWords.of.Given as goal

abbrev pub invariant-loop-word : goal.invariant-loop-word
invariant-loop-word l = Shows l.read (texts (take l.word-index l.words))
