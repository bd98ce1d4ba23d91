-- The line that a log begins with.
use Rattle.std.specs.Prelude.{ℕ, ◌==◌, List, [], ◌∷◌, ◌++◌, codes, decimal, if◌then◌else◌}
use Rattle.std.specs.List.{concat}
use Rattle.live_run.specs.declared.options.Options.{Options}
use Rattle.live_run.specs.Sums.{sum_of}
use Rattle.live_run.specs.declared.options.TheConstants.{TENANT_MEMORY}

-- the sizes; the memory of a tenancy, if it isn't the usual one; and the architecture's sum
abbrev pub sizes_words : Options → List ℕ
sizes_words options = concat (codes "# fpgad_live --tracks " ∷ decimal options.tracks ∷ codes " --columns " ∷ decimal options.columns ∷ codes " --rows " ∷ decimal options.rows ∷ [])

abbrev pub memory_words : ℕ → List ℕ
memory_words memory = if memory == TENANT_MEMORY then [] else concat (codes " --tenant-memory " ∷ decimal memory ∷ [])

abbrev pub sum_words : List ℕ → List ℕ
sum_words architecture = concat (codes ", architecture " ∷ decimal (sum_of architecture) ∷ codes "\n" ∷ [])

-- the line of these options and of that architecture
abbrev pub heading : Options → List ℕ → List ℕ
heading options architecture = sizes_words options ++ (memory_words options.tenant_memory ++ sum_words architecture)
