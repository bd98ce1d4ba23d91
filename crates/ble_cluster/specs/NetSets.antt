-- Sets of nets.
use Rattle.std.specs.Prelude.{ℕ, ◌≡◌, ◌<◌, Bool, false, List, [], ◌∷◌, ◌++◌, All, length, slice_index_or, if◌then◌else◌}
use Rattle.ble_cluster.specs.Nets.{has}

-- the nets, with the net appended if it is new
abbrev pub with_net : List ℕ → ℕ → List ℕ
with_net nets net = if has nets net then nets else nets ++ net ∷ []

-- nets, each once, with numbers below a count
pub record NetsAmong : Type 0 where
  pub count : ℕ
  pub nets : List ℕ

-- the nets of the list are marked, and no others
pub record AreMarked (marks : List Bool) (nets : List ℕ) : Type 0 where
  pub marked : (net : ℕ) → net < length marks → slice_index_or marks net false ≡ has nets net
  pub within : All (λ net. net < length marks) nets
