-- Services that answer alike, by what is seen of them.
use Rattle.desk_log.proofs.Prelude.{◌≡◌, inl, inr, ℕ, List, [], ◌∷◌, Option, Some, None, MatchOption, Result, Ok, Err, IfOk, ap, subst, answered_along, physical_lines, AnswersLine, state_in, LiveLines, LiveState, AnswerAlike, IsSafe, ServesAlike, lines_in, questions_after, CheckedLog, IsSafeLog}

alike_along : {S T : Type 0} (f : S → T) (a : S → ℕ → List ℕ → List ℕ → S → Type 0) (b : T → ℕ → List ℕ → List ℕ → T → Type 0) → ((old : S) (number : ℕ) (line reply : List ℕ) (new : S) → a old number line reply new → b (f old) number line reply (f new)) →
    (whole short : S) (lines : List (List ℕ)) (whole_after short_after : S) → AnswerAlike a whole short lines whole_after short_after → AnswerAlike b (f whole) (f short) lines (f whole_after) (f short_after)
alike_along f a b each whole short [] whole_after short_after (whole_is, short_is) = (ap f whole_is, ap f short_is)
alike_along f a b each whole short (line ∷ lines) whole_after short_after (reply, other, whole_next, short_next, one, two, same, rest) =
    (reply, other, f whole_next, f short_next, each whole 0 line reply whole_next one, each short 0 line other short_next two, same, alike_along f a b each whole_next short_next lines whole_after short_after rest)

serves_along : {S T : Type 0} (f : S → T) (a : S → ℕ → List ℕ → List ℕ → S → Type 0) (b : T → ℕ → List ℕ → List ℕ → T → Type 0) → ((old : S) (number : ℕ) (line reply : List ℕ) (new : S) → a old number line reply new → b (f old) number line reply (f new)) →
    (whole short : S) (log : List ℕ) (lines : List (List ℕ)) → ServesAlike a whole short log lines → ServesAlike b (f whole) (f short) log lines
serves_along f a b each whole short log lines s = record {
  whole_text = s.whole_text;
  whole_served = f s.whole_served;
  serves_whole = answered_along f a b each whole 1 _ s.whole_text s.whole_served s.serves_whole;
  short_text = s.short_text;
  short_served = f s.short_served;
  serves_short = answered_along f a b each short 1 _ s.short_text s.short_served s.serves_short;
  whole_after = f s.whole_after;
  short_after = f s.short_after;
  answer_alike = alike_along f a b each s.whole_served s.short_served (questions_after (physical_lines log)) s.whole_after s.short_after s.answer_alike;
}

safe_by : {S X : Type 0} (answers : S → ℕ → List ℕ → List ℕ → S → Type 0) (whole short : S) (log : List ℕ) (lines : List (List ℕ)) (differing : Option X) →
    MatchOption differing (ServesAlike answers whole short log lines) (λ _. lines ≡ physical_lines log) → IsSafe answers whole short log lines
safe_by answers whole short log lines None serves = inr serves
safe_by answers whole short log lines (Some x) all = inl all

safe_along : {S T : Type 0} (f : S → T) (a : S → ℕ → List ℕ → List ℕ → S → Type 0) (b : T → ℕ → List ℕ → List ℕ → T → Type 0) → ((old : S) (number : ℕ) (line reply : List ℕ) (new : S) → a old number line reply new → b (f old) number line reply (f new)) →
    (whole short : S) (log : List ℕ) (lines : List (List ℕ)) → IsSafe a whole short log lines → IsSafe b (f whole) (f short) log lines
safe_along f a b each whole short log lines (inl all) = inl all
safe_along f a b each whole short log lines (inr serves) = inr (serves_along f a b each whole short log lines serves)

-- two services' values, and the states that they begin with
pub safe_log : {E : Type 0} (result : Result CheckedLog E) (whole short : LiveLines) (log : List ℕ) (begun : LiveState) → state_in whole ≡ begun → state_in short ≡ begun →
    IfOk result (λ checked. MatchOption checked.differing (ServesAlike (λ old number line reply new. AnswersLine (state_in old) number line reply (state_in new)) whole short log (lines_in checked.log)) (λ _. lines_in checked.log ≡ physical_lines log)) →
    IfOk result (IsSafeLog begun log)
safe_log (Ok checked) whole short log begun whole_is short_is safe =
    let a : LiveLines → ℕ → List ℕ → List ℕ → LiveLines → Type 0 = λ old number line reply new. AnswersLine (state_in old) number line reply (state_in new) in
    subst (λ b. IsSafe AnswersLine b begun log (lines_in checked.log)) whole_is
    (subst (λ b. IsSafe AnswersLine (state_in whole) b log (lines_in checked.log)) short_is
    (safe_along state_in a AnswersLine (λ old number line reply new is. is) whole short log (lines_in checked.log) (safe_by a whole short log (lines_in checked.log) checked.differing safe)))
safe_log (Err e) whole short log begun whole_is short_is safe = tt
