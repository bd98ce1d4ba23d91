-- What is decided of a line of a log by its reply alone.
use Rattle.std.specs.Prelude.{ℕ, ◌≡◌, ◌+◌, Bool, true, false, not, ◌&&◌, ◌||◌, ◌==◌, eqb, List, [], ◌∷◌, ◌++◌, length, Option, Some, None, is_some, codes, drop, ⊤, if◌then◌else◌}
use Rattle.std.specs.List.{before_first, position_or_len, starts_with}
use Rattle.std.specs.Str.{bytes_eq}
use Rattle.live_log.specs.Prelude.{kept_of, is_blank, rest_of, tag_of}
use Rattle.live_log.specs.Questions.{speaker_of}
use Rattle.live_log.specs.declared.marks.Mark.{Mark}
use Rattle.live_log.specs.declared.marks.Mark.TheVariants.{Kept, Dropped}

-- whether a reply says that a line has no form
abbrev pub has_no_form : List ℕ → Bool
has_no_form reply = starts_with eqb reply (codes "? ")

-- whether a reply says that what was asked is done
abbrev pub is_done : List ℕ → Bool
is_done reply = starts_with eqb (rest_of reply) (codes "ok")

-- the first word of what a line says
abbrev pub verb_of : List ℕ → List ℕ
verb_of said = before_first is_blank (drop (position_or_len (λ byte. not (is_blank byte)) said) said)

-- whether a line of the operator only asks
abbrev pub asks_only : List ℕ → Bool
asks_only verb = bytes_eq verb (codes "list") || bytes_eq verb (codes "owners")

-- whether other lines decide of a line of the operator
abbrev pub depends : List ℕ → Bool
depends verb = bytes_eq verb (codes "step") || (bytes_eq verb (codes "echo") || bytes_eq verb (codes "put"))

-- A line of the operator, as an admission, an eviction or a move, is kept if it was done.
abbrev pub decided_verb : List ℕ → List ℕ → Option Bool
decided_verb verb reply = if depends verb then None else Some (not (asks_only verb) && is_done reply)

-- a line that no name's session says: a comment, a line of the operator, or one without a word
abbrev pub decided_other : Bool → List ℕ → List ℕ → List ℕ → Option Bool
decided_other first tag said reply =
    if starts_with eqb tag (codes "#") then Some first
    else (if bytes_eq tag (codes "op") then decided_verb (verb_of said) reply else Some false)

-- Whether a line is kept, if that is decided by its reply alone. A line without a form is left out.
-- Of comments the first line of the log alone is kept. Of a line that a name's session says other
-- lines decide.
abbrev pub decided : Bool → List ℕ → List ℕ → Option Bool
decided first line reply =
    if has_no_form reply then Some false
    else (if is_some (speaker_of line) then None else decided_other first (tag_of line) (rest_of line) reply)

-- a line is kept or left out as it is decided
abbrev pub IsDecided : Option Bool → Bool → Type 0
IsDecided None kept = ⊤
IsDecided (Some is_kept) kept = kept ≡ is_kept

-- Lines are answered one after another, the first having that number, and the service becomes
-- `new`. Each is kept or left out as its reply decides. `first` is whether the first one begins the
-- log.
abbrev pub AreChosen : {S : Type 0} → (S → ℕ → List ℕ → List ℕ → S → Type 0) → S → ℕ → Bool → List (List ℕ) → List Bool → S → Type 0
AreChosen answers old number first [] [] new = new ≡ old
AreChosen answers old number first [] (kept ∷ others) new = ⊥
AreChosen answers old number first (line ∷ lines) [] new = ⊥
AreChosen {S = S} answers old number first (line ∷ lines) (kept ∷ others) new =
    (reply : List ℕ) × (mid : S) × answers old number (kept_of line) reply mid
    × IsDecided (decided first (kept_of line) reply) kept × AreChosen answers mid (number + 1) false lines others new

-- Private: a mark keeps a line or leaves it out as it is decided.
abbrev pub FitsMark : Option Bool → Mark → Type 0
FitsMark None mark = ⊤
FitsMark (Some true) mark = mark ≡ Kept
FitsMark (Some false) mark = mark ≡ Dropped

-- Private: a line's mark is added.
pub record NotesLine (old : List Mark) (line reply : List ℕ) (new : List Mark) : Type 0 where
  pub mark : Mark
  pub added : new ≡ old ++ mark ∷ []
  pub fits : FitsMark (decided (length old == 0) line reply) mark

-- Private: a line is kept as its mark says.
pub record FitsFlag (mark : Mark) (kept : Bool) : Type 0 where
  pub keeps : mark ≡ Kept → kept ≡ true
  pub drops : mark ≡ Dropped → kept ≡ false

-- Private: so it is for each line.
abbrev pub FitFlags : List Mark → List Bool → Type 0
FitFlags [] [] = ⊤
FitFlags [] (kept ∷ others) = ⊥
FitFlags (mark ∷ marks) [] = ⊥
FitFlags (mark ∷ marks) (kept ∷ others) = FitsFlag mark kept × FitFlags marks others
