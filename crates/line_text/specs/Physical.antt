-- Private: the first physical line of a text, split off from the rest.
use Rattle.std.specs.Prelude.{ℕ, ◌≡◌, Bool, false, not, ◌&&◌, ◌==◌, List}
use Rattle.std.specs.List.{before_first, after_first}
use Rattle.line_text.specs.Lines.{is_lawful, is_not_ascii, without_comment}

-- the first line, and what follows its LF
abbrev pub first_line : List ℕ → List ℕ
first_line text = before_first (λ byte. byte == 10) text

abbrev pub later_lines : List ℕ → List ℕ
later_lines text = after_first (λ byte. byte == 10) text

-- whether a byte ends no line, begins no comment and is allowed outside comments
abbrev pub is_plain : ℕ → Bool
is_plain byte = is_lawful byte && not (byte == 35)

-- the first line is ASCII, and has this content; the rest of the text follows it
pub record IsContent (text content rest : List ℕ) : Type 0 where
  pub ascii : is_not_ascii (first_line text) ≡ false
  pub kept : content ≡ without_comment (first_line text)
  pub later : rest ≡ later_lines text
