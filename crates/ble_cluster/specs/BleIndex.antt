-- Private: the BLEs of a circuit, by number and by net.
use Rattle.std.specs.Prelude.{ℕ, ◌+◌, ◌≡◌, ◌<◌, ◌≤◌, List, [], ◌∷◌, ◌++◌, All, length, slice_index_or}
use Rattle.ble_cluster.specs.Prelude.{MAX_NETS, Keyed, pairs_with}
use Rattle.ble_cluster.specs.Nets.{IsOnce, has}
use Rattle.ble_cluster.specs.Bles.{LogicElement, element_at}
use Rattle.ble_cluster.specs.Clusters.{nets_of}
use Rattle.ble_cluster.specs.FreeBles.{IsElement}

-- BLEs, and the number of nets that they are over
pub record BlesOver : Type 0 where
  pub elements : List LogicElement
  pub nets : ℕ

-- the numbers of nets and of BLEs are within their limits, and each BLE is lawful
pub record AreLawful (over : BlesOver) : Type 0 where
  pub few : over.nets ≤ MAX_NETS
  pub count : length over.elements ≤ MAX_NETS
  pub lawful : All (IsElement over.nets) over.elements

-- the BLEs that have the net, each once
pub record AreHaving (elements : List LogicElement) (net : ℕ) (row : List ℕ) : Type 0 where
  pub once : IsOnce row
  pub within : All (λ number. number < length elements) row
  pub listed : (number : ℕ) → number < length elements → has row number ≡ has (nets_of (element_at elements number)) net

-- the row of a net
abbrev pub row_at : List (List ℕ) → ℕ → List ℕ
row_at rows net = slice_index_or rows net []

-- the BLEs are lawful, and the row of each net holds the BLEs that have it
pub record AreElements (elements : List LogicElement) (rows : List (List ℕ)) : Type 0 where
  pub few : length rows ≤ MAX_NETS
  pub count : length elements ≤ MAX_NETS
  pub lawful : All (IsElement (length rows)) elements
  pub having : (net : ℕ) → net < length rows → AreHaving elements net (row_at rows net)

-- each of the nets of BLEs with the BLE's number, which is counted from `number`
abbrev pub pairs_from : ℕ → List LogicElement → List Keyed
pairs_from number [] = []
pairs_from number (element ∷ elements) = pairs_with number (nets_of element) ++ pairs_from (number + 1) elements
