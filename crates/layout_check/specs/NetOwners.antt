-- Private: what drives nets and how often they are read, by net.
use Rattle.std.specs.Prelude.{ℕ, ◌≡◌, ◌<◌, ◌==◌, List, ◌++◌, Some, count_by, length, min, slice_get, slice_index, slice_index_or}
use Rattle.layout_check.specs.Prelude.{Circuit, Latch, LookupTable, reads_of}
use Rattle.layout_check.specs.declared.owners.Owner.{Owner}
use Rattle.layout_check.specs.declared.owners.Owner.TheVariants.{Nothing, Table, Latch as LatchOwner}

-- what drives the net
abbrev pub owner_of : List Owner → ℕ → Owner
owner_of owners net = slice_index_or owners net Nothing

-- this number of the first tables and of the first latches own the nets that they drive, and
-- nothing else owns a net
pub record AreOwnersUpTo (circuit : Circuit) (count behind : ℕ) (owners : List Owner) : Type 0 where
  pub long : length owners ≡ length circuit.nets
  pub tables : (k : ℕ) (table : LookupTable) → k < count → slice_get circuit.tables k ≡ Some table → owner_of owners table.output ≡ Table k
  pub latches : (k : ℕ) (latch : Latch) → k < behind → slice_get circuit.latches k ≡ Some latch → owner_of owners latch.output ≡ LatchOwner k
  pub of_table : (net k : ℕ) → owner_of owners net ≡ Table k → (k < count) × (table : LookupTable) × (slice_get circuit.tables k ≡ Some table) × (table.output ≡ net)
  pub of_latch : (net k : ℕ) → owner_of owners net ≡ LatchOwner k → (k < behind) × (latch : Latch) × (slice_get circuit.latches k ≡ Some latch) × (latch.output ≡ net)

-- each table and each latch owns the net that it drives, and nothing else owns a net
abbrev pub AreOwners : Circuit → List Owner → Type 0
AreOwners circuit owners = AreOwnersUpTo circuit (length circuit.tables) (length circuit.latches) owners

-- these are the numbers of reads of each net, counted up to 255
abbrev pub AreCounts : List ℕ → List ℕ → Type 0
AreCounts reads counts = (net : ℕ) → net < length counts → slice_index counts net ≡ min 255 (count_by (λ read. read == net) reads)

-- the new counts are the old ones with these reads
pub record CountsOn (old more new : List ℕ) : Type 0 where
  pub long : length new ≡ length old
  pub counted : (reads : List ℕ) → AreCounts reads old → AreCounts (reads ++ more) new

-- these are what drives each net of the circuit, and how often it is read
pub record AreNets (circuit : Circuit) (owners : List Owner) (counts : List ℕ) : Type 0 where
  pub owned : AreOwners circuit owners
  pub counted : AreCounts (reads_of circuit) counts
  pub long : length counts ≡ length owners
