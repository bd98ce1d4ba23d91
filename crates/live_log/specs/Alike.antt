-- A shorter log whose service answers as the whole log's does.
use Rattle.std.specs.Prelude.{ℕ, ◌≡◌, ◌+◌, Bool, true, false, ◌||◌, List, [], ◌∷◌, ◌⊎◌, codes}
use Rattle.std.specs.Str.{bytes_eq}
use Rattle.live_log.specs.Prelude.{kept_of, AreAnswered, physical_lines, rest_of}
use Rattle.live_log.specs.Questions.{questions_after}

-- Private: the line after that number is answered if it is kept, and has the number that comes
-- next.
abbrev pub ServesIf : {S : Type 0} → (S → ℕ → List ℕ → List ℕ → S → Type 0) → S → ℕ → Bool → List ℕ → S → ℕ → Type 0
ServesIf answers old number true line new next = (next ≡ number + 1) × (reply : List ℕ) × answers old next (kept_of line) reply new
ServesIf answers old number false line new next = (next ≡ number) × (new ≡ old)

-- whether a reply says that the journal is full
abbrev pub says_full : List ℕ → Bool
says_full reply = bytes_eq (rest_of reply) (codes "refused 2 JournalFull\n")

-- Whether two services' replies are alike: they are the same, or the first service's journal is
-- full. The second one's has room then, since fewer events led there.
abbrev pub are_alike : List ℕ → List ℕ → Bool
are_alike reply other = bytes_eq reply other || says_full reply

-- Two services answer these questions alike, and become `whole_after` and `short_after`. All are
-- asked with number 0: only the replies to lines without a form have their number.
abbrev pub AnswerAlike : {S : Type 0} → (S → ℕ → List ℕ → List ℕ → S → Type 0) → S → S → List (List ℕ) → S → S → Type 0
AnswerAlike answers whole short [] whole_after short_after = (whole_after ≡ whole) × (short_after ≡ short)
AnswerAlike {S = S} answers whole short (line ∷ lines) whole_after short_after =
    (reply other : List ℕ) × (whole_next short_next : S)
    × answers whole 0 line reply whole_next × answers short 0 line other short_next × (are_alike reply other ≡ true)
    × AnswerAlike answers whole_next short_next lines whole_after short_after

-- A service that is served the lines of a log, and one that is served these lines, answer the
-- questions alike.
pub record ServesAlike {S : Type 0} (answers : S → ℕ → List ℕ → List ℕ → S → Type 0) (whole short : S) (log : List ℕ) (lines : List (List ℕ)) : Type 0 where
  pub whole_text : List ℕ
  pub whole_served : S
  pub serves_whole : AreAnswered answers whole 1 (physical_lines log) whole_text whole_served
  pub short_text : List ℕ
  pub short_served : S
  pub serves_short : AreAnswered answers short 1 lines short_text short_served
  pub whole_after : S
  pub short_after : S
  pub answer_alike : AnswerAlike answers whole_served short_served (questions_after (physical_lines log)) whole_after short_after

-- what may be printed of a log: all its lines, or lines that serve alike
abbrev pub IsSafe : {S : Type 0} → (S → ℕ → List ℕ → List ℕ → S → Type 0) → S → S → List ℕ → List (List ℕ) → Type 0
IsSafe answers whole short log lines = (lines ≡ physical_lines log) ⊎ ServesAlike answers whole short log lines
