-- How full a service is, as the operator is told.
use Rattle.std.specs.Prelude.{ℕ, ◌≡◌, ◌+◌, ◌-◌, List, [], ◌∷◌, ◌++◌, length, codes, decimal, Option, Some, None}
use Rattle.live_lines.specs.Prelude.{MAX_ADMISSIONS, History, ServiceState, live_of, CountAs, blank_word}

-- the line of a tenancy: its id and name, the entries of its journal, and the bytes of their texts
abbrev pub tenancy_text : ℕ → List ℕ → ℕ → ℕ → List ℕ
tenancy_text id name entries bytes = codes "tenancy" ++ blank_word (decimal id) ++ blank_word name ++ blank_word (decimal entries) ++ blank_word (decimal bytes) ++ 10 ∷ []

-- only a live tenancy has a line
abbrev pub IsRow : Option History → ℕ → List ℕ → List ℕ → Type 0
IsRow None id name text = text ≡ []
IsRow (Some h) id name text = (bytes : ℕ) × (text ≡ tenancy_text id name (length h.entries) bytes)

-- what a line of that number is answered: the number, how many more tenancies can be admitted, and
-- the lines of the tenancies by rising id. The names are those of all ids, newest first
abbrev pub AreFigures : ServiceState → ℕ → List (List ℕ) → List ℕ → Type 0
AreFigures service number [] text = text ≡ codes "served " ++ decimal number ++ codes "\nadmissions_left " ++ decimal (MAX_ADMISSIONS - length service.histories) ++ 10 ∷ []
AreFigures service number (newest ∷ older) text = (before : List ℕ) × (row : List ℕ) × AreFigures service number older before × IsRow (live_of service.histories (length older + 1)) (length older + 1) newest row × (text ≡ before ++ row)

-- private: the line of a tenancy was appended, if it is live. Its texts count as the bytes that it
-- says
abbrev pub AppendsRow : Option History → ℕ → List ℕ → List ℕ → List ℕ → Type 0
AppendsRow None id name before after = after ≡ before
AppendsRow (Some h) id name before after = (bytes : ℕ) × CountAs bytes h.entries × (after ≡ before ++ tenancy_text id name (length h.entries) bytes)

-- private: the lines that are of no tenancy
abbrev pub head_text : ℕ → ℕ → List ℕ
head_text number admitted = codes "served " ++ decimal number ++ codes "\nadmissions_left " ++ decimal (MAX_ADMISSIONS - admitted) ++ 10 ∷ []

-- private: such figures were appended
abbrev pub AppendsFigures : ServiceState → ℕ → List (List ℕ) → List ℕ → List ℕ → Type 0
AppendsFigures service number names before after = (text : List ℕ) × AreFigures service number names text × (after ≡ before ++ text)
