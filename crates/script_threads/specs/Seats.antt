-- Private: sessions that are seated.
use Rattle.std.specs.Prelude.{ℕ, ◌≡◌, ◌⊎◌, List, [], ◌∷◌, Option, Some, None, true, false, ⊤}
use Rattle.script_threads.specs.Prelude.{last_id, LeaseState, Marked, is_leased, Said}
use Rattle.script_threads.specs.Sessions.{Asked}

-- the lease of a session that is seated is its tenancy's, and has made no entry
abbrev pub HasLease : ℕ → Option LeaseState → Type 0
HasLease id None = ⊤
HasLease id (Some lease) = (lease.id ≡ id) × (lease.made ≡ 0)

-- a session of that id
abbrev pub asked_by : Said → ℕ → Asked
asked_by said id = record { name = said.name; input = said.input; id = id; live = true }

-- no lease was given
abbrev pub AreFree : List Marked → Type 0
AreFree marks = (id : ℕ) → is_leased marks id ≡ false

-- no lease is given except that tenancy's
abbrev pub GivesOneLease : List Marked → ℕ → List Marked → Type 0
GivesOneLease old id new = (other : ℕ) → is_leased new other ≡ true → (is_leased old other ≡ true) ⊎ (other ≡ id)

-- it is the last tenancy of one of the sessions' names
abbrev pub HasSeat : List (List ℕ) → List Said → ℕ → Type 0
HasSeat names [] id = ⊥
HasSeat names (s ∷ said) id = (id ≡ last_id names s.name) ⊎ HasSeat names said id
