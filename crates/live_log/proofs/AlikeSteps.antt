-- Questions that are answered alike, one after another.
use Rattle.live_log.proofs.Prelude.{◌≡◌, ℕ, ◌+◌, List, [], ◌∷◌, ◌++◌, drop, slice_get, Some, Result, Ok, Err, IfOk, sym, ap, subst, ◌∙◌, drop_more, get_or_from_slice_get, slice_get_within, AnswerAlike}

-- whatever answers the questions that are left alike leads to answers to all
pub record LeadsAlike {S : Type 0} (answers : S → ℕ → List ℕ → List ℕ → S → Type 0) (whole short : S) (all : List (List ℕ)) (whole_now short_now : S) (rest : List (List ℕ)) : Type 0 where
  pub leads : (whole_after short_after : S) → AnswerAlike answers whole_now short_now rest whole_after short_after → AnswerAlike answers whole short all whole_after short_after

alike_then : {S : Type 0} (answers : S → ℕ → List ℕ → List ℕ → S → Type 0) (lines more : List (List ℕ)) (whole short whole_mid short_mid whole_after short_after : S) →
    AnswerAlike answers whole short lines whole_mid short_mid → AnswerAlike answers whole_mid short_mid more whole_after short_after → AnswerAlike answers whole short (lines ++ more) whole_after short_after
alike_then answers [] more whole short whole_mid short_mid whole_after short_after (whole_is, short_is) rest =
    subst (λ w. AnswerAlike answers w short more whole_after short_after) whole_is (subst (λ s. AnswerAlike answers whole_mid s more whole_after short_after) short_is rest)
alike_then answers (line ∷ lines) more whole short whole_mid short_mid whole_after short_after (reply, other, whole_next, short_next, one, two, same, others) rest =
    (reply, other, whole_next, short_next, one, two, same, alike_then answers lines more whole_next short_next whole_mid short_mid whole_after short_after others rest)

pub alike_more : {S : Type 0} {answers : S → ℕ → List ℕ → List ℕ → S → Type 0} {whole short : S} {all : List (List ℕ)} (whole_now short_now whole_next short_next : S) (rest lines others : List (List ℕ)) →
    LeadsAlike answers whole short all whole_now short_now rest → rest ≡ lines ++ others → AnswerAlike answers whole_now short_now lines whole_next short_next → LeadsAlike answers whole short all whole_next short_next others
alike_more {answers = answers} whole_now short_now whole_next short_next rest lines others l is some = record {
  leads = λ whole_after short_after a. l.leads whole_after short_after
      (subst (λ ls. AnswerAlike answers whole_now short_now ls whole_after short_after) (sym is) (alike_then answers lines others whole_now short_now whole_next short_next whole_after short_after some a));
}

-- what was answered alike before, and what is after it, if that condition holds of its result
pub alike_after : {S X E : Type 0} (answers : S → ℕ → List ℕ → List ℕ → S → Type 0) (condition : X → Type 0) (lines more : List (List ℕ)) (result : Result X E) (whole short whole_mid short_mid whole_after short_after : S) →
    AnswerAlike answers whole short lines whole_mid short_mid →
    IfOk result (λ x. condition x → AnswerAlike answers whole_mid short_mid more whole_after short_after) →
    IfOk result (λ x. condition x → AnswerAlike answers whole short (lines ++ more) whole_after short_after)
alike_after answers condition lines more (Ok x) whole short whole_mid short_mid whole_after short_after some rest = λ holds. alike_then answers lines more whole short whole_mid short_mid whole_after short_after some (rest holds)
alike_after answers condition lines more (Err e) whole short whole_mid short_mid whole_after short_after some rest = tt

pub drop_place : {X : Type 0} (xs : List X) (i : ℕ) (x : X) → slice_get xs i ≡ Some x → drop i xs ≡ x ∷ drop (i + 1) xs
drop_place xs i x at = drop_more xs i x (slice_get_within xs i x at) ∙ ap (λ y. y ∷ drop (i + 1) xs) (get_or_from_slice_get xs i x x at)
