-- Private: what the code stores of the words after a pin's class.
use Rattle.std.specs.Prelude.{ℕ, ◌≡◌, ◌&&◌, List}
use Rattle.std.specs.List.{list_all}
use Rattle.arch_file.specs.declared.pin_line.SideWords.{SideWords}
use Rattle.arch_file.specs.PinLine.{are_distinct, is_global, is_side_word, sides_of}

-- it holds the meaning of these words
pub record Shows (read : SideWords) (words : List (List ℕ)) : Type 0 where
  pub sides : read.sides ≡ sides_of words
  pub global : read.is_global ≡ is_global words
  pub lawful : read.is_lawful ≡ (list_all is_side_word words && are_distinct words)
