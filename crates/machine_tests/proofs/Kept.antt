-- Lines as they are read.
use Rattle.std.proofs.Common.{◌≡◌, ◌≤◌, ◌∙◌, ℕ, List, [], ◌∷◌, ◌&&◌, ◌==◌, not, true, length, refl, sym, ap}
use Rattle.std.specs.List.{list_all}
use Rattle.std.proofs.lemmas.List.{take_all}
use Rattle.line_feed.specs.Pieces.{is_one_line, kept_of}
use Rattle.live_machine.specs.Machine.{IsLine}

-- a short line is kept whole
kept_whole : (text : List ℕ) → length text ≤ 1048640 → kept_of text ≡ text
unfolding kept_of
kept_whole text short = take_all 1048640 text short

-- no byte is LF
no_feed : (text : List ℕ) → list_all (λ byte. not (byte == 10)) text ≡ is_one_line text
no_feed [] = refl
no_feed (byte ∷ text) = ap (λ others. not (byte == 10) && others) (no_feed text)

pub line_of : (text : List ℕ) → length text ≤ 1048640 → list_all (λ byte. not (byte == 10)) text ≡ true → IsLine text
line_of text short none = record { kept = kept_whole text short; one = sym (no_feed text) ∙ none }
