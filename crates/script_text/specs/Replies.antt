-- What a script is answered, and its text.
use Rattle.std.specs.Prelude.{ℕ, List, [], ◌∷◌, ◌++◌, codes, map}
use Rattle.std.specs.List.{flat_map}
use Rattle.script_text.specs.declared.replies.RunReplies.{RunReplies}
use Rattle.script_text.specs.declared.replies.SessionReplies.{SessionReplies}

-- a name and the answers to its session
pub record Section : Type 0 where
  pub name : List ℕ
  pub text : List ℕ

abbrev pub section_of : SessionReplies → Section
section_of replies = record { name = replies.name.now; text = replies.text.items }

abbrev pub heading : List ℕ → List ℕ
heading name = codes "== " ++ name ++ 10 ∷ []

abbrev pub section_text : Section → List ℕ
section_text s = heading s.name ++ s.text

-- the operator's replies, then each name's in the order of their first lines
abbrev pub output_of : List ℕ → List Section → List ℕ
output_of operator sections = heading (codes "op") ++ operator ++ flat_map section_text sections

-- what is written of the answers to a script
abbrev pub run_text : RunReplies → List ℕ
run_text replies = output_of replies.operator.items (map section_of replies.sections.items)
