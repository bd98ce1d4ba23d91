-- Private: the index at which the draft marks that a keyword was read.
use Rattle.std.specs.Prelude.{ℕ}
use Rattle.arch_file.specs.declared.fault.ArchKeyword.{ArchKeyword}
use Rattle.arch_file.specs.declared.fault.ArchKeyword.TheVariants.{IoRat, ChanWidthIo, ChanWidthX, ChanWidthY, Inpin, Outpin, SubblocksPerClb, SubblockLutSize, FcType, FcOutput, FcInput, FcPad, SwitchBlockType, Segment}

-- the index of a keyword's mark
abbrev pub rank_of : ArchKeyword → ℕ
rank_of IoRat = 0
rank_of ChanWidthIo = 1
rank_of ChanWidthX = 2
rank_of ChanWidthY = 3
rank_of SubblocksPerClb = 4
rank_of SubblockLutSize = 5
rank_of FcType = 6
rank_of FcOutput = 7
rank_of FcInput = 8
rank_of FcPad = 9
rank_of SwitchBlockType = 10
rank_of Segment = 11
rank_of Inpin = 12
rank_of Outpin = 13
