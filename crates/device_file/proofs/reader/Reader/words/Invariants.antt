use Rattle.device_file.proofs.Prelude.{◌≡◌, drop, texts, words_read, read_of}
use Rattle.device_file.proofs.reader.Reader.words.Given as goal

-- the words that are left go on from what was read
abbrev pub invariant-loop-word : goal.invariant-loop-word
invariant-loop-word l = words_read (texts l.words) (read_of l.fn.self) l.line ≡ words_read (texts (drop l.word-index l.words)) (read_of l.self) l.line
