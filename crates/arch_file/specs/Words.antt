-- The words of the architecture file.
use Rattle.std.specs.Prelude.{ℕ, nat_eq, Bool, ◌||◌, List, [], ◌∷◌, codes, Option, Some, None}
use Rattle.std.specs.List.{find, starts_with}
use Rattle.std.specs.Str.{bytes_eq}
pub use Rattle.line_text.specs.Words.{texts}
use Rattle.arch_file.specs.declared.fault.ArchKeyword.{ArchKeyword}
use Rattle.arch_file.specs.declared.fault.ArchKeyword.TheVariants.{IoRat, ChanWidthIo, ChanWidthX, ChanWidthY, Inpin, Outpin, SubblocksPerClb, SubblockLutSize, FcType, FcOutput, FcInput, FcPad, SwitchBlockType, Segment}

-- how a keyword is spelled
abbrev pub text_of : ArchKeyword → List ℕ
text_of IoRat = codes "io_rat"
text_of ChanWidthIo = codes "chan_width_io"
text_of ChanWidthX = codes "chan_width_x"
text_of ChanWidthY = codes "chan_width_y"
text_of Inpin = codes "inpin"
text_of Outpin = codes "outpin"
text_of SubblocksPerClb = codes "subblocks_per_clb"
text_of SubblockLutSize = codes "subblock_lut_size"
text_of FcType = codes "Fc_type"
text_of FcOutput = codes "Fc_output"
text_of FcInput = codes "Fc_input"
text_of FcPad = codes "Fc_pad"
text_of SwitchBlockType = codes "switch_block_type"
text_of Segment = codes "segment"

-- the required keywords, in the order in which missing ones are reported
abbrev pub required_keywords : List ArchKeyword
required_keywords =
    IoRat ∷ ChanWidthIo ∷ ChanWidthX ∷ ChanWidthY ∷ SubblocksPerClb ∷ SubblockLutSize ∷ FcType ∷ FcOutput ∷ FcInput ∷ FcPad
    ∷ SwitchBlockType ∷ Segment ∷ []

-- two keywords have the same spelling
abbrev pub same_keyword : ArchKeyword → ArchKeyword → Bool
same_keyword first second = bytes_eq (text_of first) (text_of second)

-- the keyword's lines describe pins
abbrev pub is_pin_keyword : ArchKeyword → Bool
is_pin_keyword keyword = same_keyword keyword Inpin || same_keyword keyword Outpin

-- the keyword with this spelling
unfoldable pub keyword_of : List ℕ → Option ArchKeyword
keyword_of word = find (λ keyword. bytes_eq word (text_of keyword)) (Inpin ∷ Outpin ∷ required_keywords)

-- words for resistances, capacitances, times and switches, whose lines aren't read
unfoldable pub is_unread : List ℕ → Bool
is_unread word =
    bytes_eq word (codes "switch")
    || (starts_with nat_eq word (codes "R_") || (starts_with nat_eq word (codes "C_") || starts_with nat_eq word (codes "T_")))

-- the only word of a line
abbrev pub only_word : List (List ℕ) → Option (List ℕ)
only_word (word ∷ []) = Some word
only_word words = None
