-- Files that tools read and write.
use Rattle.std.specs.Prelude.{ℕ, ◌≡◌, List, ◌++◌, Option, Some, None, IfSome, take, ⊤}
use Rattle.desk_common.specs.declared.paths.NewFile.{NewFile}

-- the bytes are those of the text, if it is known, up to that many
abbrev pub IsBeginning : Option (List ℕ) → ℕ → List ℕ → Type 0
IsBeginning known most bytes = IfSome known (λ text. bytes ≡ take most text)

-- bytes under a name of that kind in a folder
pub record NamedBytes : Type 0 where
  pub folder : List ℕ
  pub name : List ℕ
  pub kind : List ℕ
  pub bytes : List ℕ

-- those of a file to write
abbrev pub named : NewFile → NamedBytes
named new = record { folder = new.file.folder.now; name = new.file.name.now; kind = new.file.kind.now; bytes = new.bytes.now }

-- of two states of what was written, each as far as it is known: these files were written in
-- between, in this order, and no other
abbrev pub AreAdded : Option (List NamedBytes) → Option (List NamedBytes) → List NamedBytes → Type 0
AreAdded None new files = ⊤
AreAdded (Some before) None files = ⊥
AreAdded (Some before) (Some after) files = after ≡ before ++ files
