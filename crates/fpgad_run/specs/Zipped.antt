-- Private: how the sections are kept.
use Rattle.std.specs.Prelude.{ℕ, List, [], ◌∷◌}
use Rattle.fpgad_run.specs.Prelude.{MemorySink, sink_text, Section}

-- a name and a text each
abbrev pub named_sections : List (List ℕ) → List MemorySink → List Section
named_sections [] texts = []
named_sections (name ∷ names) [] = []
named_sections (name ∷ names) (text ∷ texts) = record { name = name; text = sink_text text } ∷ named_sections names texts
