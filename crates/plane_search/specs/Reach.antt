-- Private: a pass that finds what the least path of a graph costs.
use Rattle.std.proofs.Common.{◌≡◌, ℕ, ◌+◌, ◌<◌, ◌≤◌, ◌⊎◌, List, length, get_or}
use Rattle.std.specs.List.{Contains}
use Rattle.std.specs.Prelude.{◌*◌, sum_by}
use Rattle.plane_search.specs.Prelude.{Graph}
use Rattle.plane_search.specs.Walk.{CostsAtLeast, IsUnfit, AreNoCheaper}
use Rattle.plane_search.specs.declared.queue.Open.{Open}

-- Each place can be marked with each cost up to the limit.
pub record CanMark (places span limit : ℕ) (entered : List ℕ) : Type 0 where
  pub room : places ≤ length entered
  pub few : limit < span

-- The entry is one of a node, and each path over it costs at least its key.
pub record IsKeyed (g : Graph) (goal : ℕ) (item : Open ℕ) : Type 0 where
  pub within : item.place < g.count
  pub least : CostsAtLeast g goal item.key item.place item.cost

-- An entry of the node has this cost.
abbrev pub IsOpen : List (Open ℕ) → ℕ → ℕ → Type 0
IsOpen entries node cost = (item : Open ℕ) × Contains entries item × (item.place ≡ node) × (item.cost ≡ cost)

-- Each end of the node's edges is entered at the cost over the node or less, or is too dear.
abbrev pub IsFollowed : Graph → ℕ → ℕ → List ℕ → ℕ → ℕ → Type 0
IsFollowed g goal limit entered node cost = (end : ℕ) → Contains (g.ends node) end
    → IsUnfit g goal limit entered end (cost + g.cost end)

-- If no path from the starts costs less than the best, then none does over a node that was entered,
-- at the cost at which it was.
abbrev pub AreSound : Graph → ℕ → List ℕ → ℕ → ℕ → List ℕ → Type 0
AreSound g span starts goal best entered = AreNoCheaper g goal best starts → (node : ℕ) → node < g.count
    → get_or entered node 0 < span → CostsAtLeast g goal best node (get_or entered node 0)

-- A path from the starts costs at most this.
abbrev pub IsMet : Graph → List ℕ → ℕ → ℕ → Type 0
IsMet g starts goal cost = (best : ℕ) → AreNoCheaper g goal best starts → best ≤ cost

-- The limit is the first one, or was lowered below the cost of a path.
abbrev pub IsLimit : Graph → List ℕ → ℕ → ℕ → ℕ → Type 0
IsLimit g starts goal most limit = (limit ≡ most) ⊎ IsMet g starts goal (limit + 1)

-- The pass is under way: the edges of each node that was entered are followed, unless an entry for
-- it waits, or it is the one that is being followed. Costs from `span` on are not marked.
pub record IsReaching (g : Graph) (span : ℕ) (starts : List ℕ) (goal limit at : ℕ) (entered : List ℕ) (entries : List (Open ℕ)) : Type 0 where
  pub room : g.count ≤ length entered
  pub other : span ≤ get_or entered goal 0
  pub keyed : (item : Open ℕ) → Contains entries item → IsKeyed g goal item
  pub sound : (best : ℕ) → AreSound g span starts goal best entered
  pub done : (node : ℕ) → node < g.count → get_or entered node 0 < span
      → (IsOpen entries node (get_or entered node 0) ⊎ IsFollowed g goal limit entered node (get_or entered node 0)) ⊎ (node ≡ at)

-- Each start was entered, or is too dear.
abbrev pub AreBegun : Graph → List ℕ → ℕ → ℕ → List ℕ → Type 0
AreBegun g starts goal limit entered = (start : ℕ) → Contains starts start
    → IsUnfit g goal limit entered start 0

-- The pass may take the next entry.
pub record IsUnderWay (g : Graph) (span : ℕ) (starts : List ℕ) (goal most limit : ℕ) (entered : List ℕ) (entries : List (Open ℕ)) : Type 0 where
  pub begun : AreBegun g starts goal limit entered
  pub met : IsLimit g starts goal most limit
  pub reaching : IsReaching g span starts goal limit g.count entered entries

-- The pass follows the edges of an entry's node, and has followed the first ones.
pub record IsFollowing (g : Graph) (span : ℕ) (starts : List ℕ) (goal most limit : ℕ) (item : Open ℕ) (count : ℕ) (entered : List ℕ) (entries : List (Open ℕ)) : Type 0 where
  pub begun : AreBegun g starts goal limit entered
  pub met : IsLimit g starts goal most limit
  pub reaching : IsReaching g span starts goal limit item.place entered entries
  pub within : item.place < g.count
  pub here : get_or entered item.place 0 ≡ item.cost
  pub first : (k : ℕ) → k < count
      → IsUnfit g goal limit entered (get_or (g.ends item.place) k 0) (item.cost + g.cost (get_or (g.ends item.place) k 0))

-- falls with each entry that is taken, and rises with none that is added after its node is entered
abbrev pub measure_of : List ℕ → List (Open ℕ) → ℕ
measure_of entered entries = 2 * sum_by (λ (cost : ℕ). cost) entered + length entries

-- End number `k` of the node's edges.
pub record IsEnd (g : Graph) (node k end : ℕ) : Type 0 where
  pub within : k < length (g.ends node)
  pub is : get_or (g.ends node) k 0 ≡ end

-- Start number `k`.
pub record IsStart (starts : List ℕ) (k start : ℕ) : Type 0 where
  pub within : k < length starts
  pub is : get_or starts k 0 ≡ start

-- The first starts were entered, or are too dear.
pub record IsBeginning (g : Graph) (span : ℕ) (starts : List ℕ) (goal limit count : ℕ) (entered : List ℕ) (entries : List (Open ℕ)) : Type 0 where
  pub first : (k : ℕ) → k < count → IsUnfit g goal limit entered (get_or starts k 0) 0
  pub reaching : IsReaching g span starts goal limit g.count entered entries
