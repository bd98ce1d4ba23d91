-- Lines of an input, and their outcomes.
use Rattle.session_threads.proofs.Prelude.{◌≡◌, ℕ, ◌<◌, List, [], ◌∷◌, ◌++◌, length, Bool, true, not, ◌&&◌, ◌==◌, Option, refl, arith, if◌then◌else◌, onto_first, physical_lines, SessionLine, item_and, ItemAnswer, LineOutcome, Within, is_one_line, IsLine, LineSoFar, AreTold, TranscriptState, Serves, ServesLine, ComesTo, IsOutcome, TellsOutcome}

-- a line, and what follows its LF
more_line : (lf : Bool) (b : ℕ) (bs : List ℕ) (all rest : List (List ℕ)) → (not lf && is_one_line bs) ≡ true → (is_one_line bs ≡ true → all ≡ bs ∷ rest) → (then_all : List (List ℕ)) →
    (if lf then then_all else onto_first b all) ≡ (b ∷ bs) ∷ rest
more_line lf b bs all rest one next then_all = grind arith

pub line_then : (line more : List ℕ) → is_one_line line ≡ true → physical_lines ((line ++ 10 ∷ []) ++ more) ≡ line ∷ physical_lines more
line_then [] more one = refl
line_then (b ∷ bs) more one = more_line (b == 10) b bs (physical_lines ((bs ++ 10 ∷ []) ++ more)) (physical_lines more) one (λ e. line_then bs more e) _

more_last : (lf : Bool) (b : ℕ) (bs : List ℕ) (all : List (List ℕ)) → (not lf && is_one_line bs) ≡ true → onto_first b all ≡ (b ∷ bs) ∷ [] → (then_all : List (List ℕ)) → (if lf then then_all else onto_first b all) ≡ (b ∷ bs) ∷ []
more_last lf b bs all one next then_all = grind arith

and_right : (p q : Bool) → (p && q) ≡ true → q ≡ true
and_right p q h = grind arith

pub last_line : (line : List ℕ) → is_one_line line ≡ true → 0 < length line → physical_lines line ≡ line ∷ []
last_line [] one some = absurd (omega arith)
last_line (b ∷ []) one some = more_last (b == 10) b [] [] one refl _
last_line (b ∷ c ∷ bs) one some = grind (arith, last_line (c ∷ bs) (and_right (not (b == 10)) (is_one_line (c ∷ bs)) one) (omega arith))

-- the outcome of a line is answered
outcome_told : (id : ℕ) (item : Option SessionLine) (outcome : LineOutcome) (told : List (Option ItemAnswer)) → IsOutcome item outcome → TellsOutcome id outcome told → AreTold id (item_and item []) told
outcome_told id item outcome told comes tells = grind arith

-- a line, with the part of it that is kept
pub serves_line : (id : ℕ) (old_within new_within : Within) (kept : LineSoFar) (outcome : LineOutcome) (wrote : List ℕ → Type 0) (old new : TranscriptState) →
    ((line : List ℕ) → IsLine kept line → ComesTo old_within line outcome new_within) → Serves id outcome wrote old new → ServesLine id old_within new_within kept wrote old new
serves_line id old_within new_within kept outcome wrote old new comes serves = record {
  told = serves.told;
  noted_is = serves.noted_is;
  written = serves.written;
  asked = λ line is text within.
      let c = comes line is text within in
      record { next = c.next; item = c.item; within = c.within; gives = c.gives; are = outcome_told id c.item outcome serves.told c.comes serves.answers };
}
