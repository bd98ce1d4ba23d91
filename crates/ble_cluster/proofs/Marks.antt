-- Marks of the nets of a set.
use Rattle.ble_cluster.proofs.Prelude.{◌≡◌, ℕ, ◌+◌, ◌<◌, ◌≤◌, Bool, true, false, List, [], length, drop, set, get_or, arith, get_or-set_same, get_or-set_other, length-set, drop_more, drop_all, get_or_past, has, AreMarked}

-- only nets from an index of the list on are marked
abbrev pub AreLeft : List ℕ → ℕ → List Bool → Type 0
AreLeft nets place marks = (net : ℕ) → get_or marks net false ≡ true → has (drop place nets) net ≡ true

-- at first all marked nets are in the list
pub left_none : (nets : List ℕ) (marks : List Bool) → AreMarked marks nets → AreLeft nets 0 marks
left_none nets marks marked net is = grind (arith, get_or_past)

-- a net is unmarked after its mark is removed
unmarked : (marks : List Bool) (net : ℕ) → get_or (set marks net false) net false ≡ false
unmarked marks net = grind (arith, get_or-set_same, get_or_past, length-set)

-- the mark of the next net is removed
pub left_more : (nets : List ℕ) (place : ℕ) (marks : List Bool) → place < length nets → AreLeft nets place marks → AreLeft nets (place + 1) (set marks (get_or nets place 0) false)
left_more nets place marks h left net is = grind (arith, unmarked, get_or-set_other, drop_more)

-- at the end no net is marked
pub left_all : (nets : List ℕ) (place : ℕ) (marks : List Bool) → length nets ≤ place → AreLeft nets place marks → AreMarked marks []
left_all nets place marks h left = grind (arith, drop_all)
