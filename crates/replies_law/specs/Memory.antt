-- What a reader of the output sees if memory ran out.
use Rattle.std.specs.Prelude.{ℕ, ◌≡◌, ⊤, List, [], ◌∷◌, ◌++◌, codes}
use Rattle.replies_law.specs.Prelude.{NoMemory, no_memory_text, Act, Operator, Session, Admit, Step, Put, outcome_text, refused_text, Telling}

-- the act is answered that memory ran out: `refused 1 NoMemory`, or for a step `nomemory`
abbrev pub RanOut : Act (List ℕ) → List ℕ → Type 0
RanOut (Session name line) text = text ≡ no_memory_text
RanOut (Operator (Admit name width)) text = text ≡ refused_text 1 (codes "NoMemory")
RanOut (Operator (Step name count)) text = (before : List ℕ) × (after : List ℕ) × (text ≡ before ++ outcome_text NoMemory ++ after)
RanOut (Operator (Put number)) text = text ≡ outcome_text NoMemory
RanOut act text = ⊥

-- no act is answered so
abbrev pub HaveMemory : List Telling → Type 0
HaveMemory [] = ⊤
HaveMemory (t ∷ ts) = (RanOut t.act t.text → ⊥) × HaveMemory ts
