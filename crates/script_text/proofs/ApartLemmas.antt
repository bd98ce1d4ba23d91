-- No two sessions of a threaded script have one name.
use Rattle.script_text.proofs.Prelude.{◌≡◌, ◌≢◌, ℕ, ◌+◌, List, [], ◌∷◌, arith, All, Ok, IfOk, IfSome, All-cons, All-nil, AllPairs-cons, bytes_eq-Decides, physical_lines, AreApart, Heard, Parts, Said, Within, heard_so_far, hears_in, nothing_said, threaded_from, threaded_of, with_input, goes_on, hears, Script}
use Rattle.std.specs.Prelude.{Some, None, Option}

-- no session has the name
abbrev Others : List ℕ → List Said → Type 0
Others name [] = Unit {0}
Others name (s ∷ said) = (name ≢ s.name) × Others name said

-- no two sessions have one name
abbrev pub Apart : List Said → Type 0
Apart [] = Unit {0}
Apart (s ∷ said) = Others s.name said × Apart said

others-more : (name : List ℕ) (said : List Said) (new bytes : List ℕ) → name ≢ new → Others name said → Others name (with_input said new bytes)
others-more name [] new bytes differs h = (differs, tt)
others-more name (s ∷ said) new bytes differs h = grind (arith, others-more name said new bytes differs h.1)

apart-more : (said : List Said) (new bytes : List ℕ) → Apart said → Apart (with_input said new bytes)
apart-more [] new bytes h = (tt, tt)
apart-more (s ∷ said) new bytes h = grind (arith, others-more, bytes_eq-Decides, apart-more said new bytes h.1)

line-apart : (within : Within) (parts : Parts) (line : List ℕ) → Apart parts.sessions → IfSome (hears_in within parts line) (λ next. Apart next.parts.sessions)
line-apart within parts line h = grind (arith, apart-more)

lines-apart : (number : ℕ) (h : Heard) (lines : List (List ℕ)) → Apart h.parts.sessions → IfOk (threaded_from number h lines) (λ parts. Apart parts.sessions)
lines-apart number h [] a = a
lines-apart number h (line ∷ lines) a = by_heard (hears h line) (line-apart h.within h.parts line a) (λ next b. lines-apart (number + 1) next lines b)
  where
    by_heard : (o : Option Heard) → IfSome o (λ next. Apart next.parts.sessions) → ((next : Heard) → Apart next.parts.sessions → IfOk (threaded_from (number + 1) next lines) (λ parts. Apart parts.sessions))
        → IfOk (goes_on number o (λ next. threaded_from (number + 1) next lines)) (λ parts. Apart parts.sessions)
    by_heard None s rest = tt
    by_heard (Some next) s rest = rest next s

others-all : (name : List ℕ) (said : List Said) → Others name said → All (λ s. name ≢ s.name) said
others-all name [] h = All-nil (λ (s : Said). name ≢ s.name)
others-all name (s ∷ said) h = All-cons (λ (s : Said). name ≢ s.name) s said h.0 (others-all name said h.1)

apart-pairs : (said : List Said) → Apart said → AreApart said
apart-pairs [] h = λ i j d below within. absurd (omega arith)
apart-pairs (s ∷ said) h = AllPairs-cons (λ (a b : Said). a.name ≢ b.name) s said (others-all s.name said h.0) (apart-pairs said h.1)

pub script-apart : (number : ℕ) (text : List ℕ) (parts : Parts) → threaded_of number text ≡ Ok parts → AreApart parts.sessions
script-apart number text parts e = grind (arith, apart-pairs, lines-apart number (heard_so_far nothing_said Script) (physical_lines text) tt)
