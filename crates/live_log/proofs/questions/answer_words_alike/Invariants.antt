use Rattle.live_log.proofs.Prelude.{List, ℕ, drop, map, texts, line_of}
use Rattle.live_log.proofs.AlikeSteps.{LeadsAlike}
use Rattle.live_log.proofs.questions.answer_words_alike.Given as goal

-- both services take the next line, and answered the questions so far alike
pub record Asked {A : Type 0} (is_ready : A → Type 0) (answers : A → ℕ → List ℕ → List ℕ → A → Type 0) (whole short whole_now short_now : A) (all rest : List (List ℕ)) : Type 0 where
  pub whole_ready : is_ready whole_now
  pub short_ready : is_ready short_now
  pub alike : LeadsAlike answers whole short all whole_now short_now rest

abbrev pub invariant-loop-words : goal.invariant-loop-words
invariant-loop-words g l = Asked g.A.Answers.is_ready g.A.Answers.answers l.initial.whole l.initial.short l.whole l.short (map (line_of l.name) (texts l.asked)) (map (line_of l.name) (texts (drop l.words-index l.asked)))
