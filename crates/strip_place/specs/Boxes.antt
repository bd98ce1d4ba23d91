-- Private: the bounding boxes of nets whose blocks are at points.
use Rattle.std.specs.Prelude.{ℕ, ◌≡◌, ◌≢◌, ◌+◌, ◌-◌, ◌*◌, ◌<◌, ◌≤◌, ◌^◌, ◌==◌, List, length, map, take, sum_by, slice_index, if◌then◌else◌}
use Rattle.std.specs.List.{slice_index_or}
use Rattle.strip_place.specs.declared.boxes.Move.{Move}
use Rattle.strip_place.specs.declared.net_box.NetBox.{NetBox}
use Rattle.strip_place.specs.Points.{Point}
use Rattle.strip_place.specs.declared.sides.Sides.{Sides}
use Rattle.strip_place.specs.Extents.{IsNear, count_at, mirrored_counts}
use Rattle.strip_place.specs.Nets.{AreNets, net_at}
use Rattle.strip_place.specs.Pass.{spread}
use Rattle.strip_place.specs.Sides.{farther_sides, nearer_sides, sum_of}

-- the columns, and the rows, of points
abbrev pub columns_at : List Point → List ℕ
columns_at points = map (λ point. point.x) points

abbrev pub rows_at : List Point → List ℕ
rows_at points = map (λ point. point.y) points

-- the number of blocks of the net in each column, and in each row
abbrev pub at_column : List Point → List ℕ → ℕ → ℕ
at_column points net = count_at (columns_at points) net

abbrev pub at_row : List Point → List ℕ → ℕ → ℕ
at_row points net = count_at (rows_at points) net

-- a box holds the nearest coordinates at each side, for these numbers of blocks in each column and
-- in each row
pub record IsBoxBy (columns rows : ℕ → ℕ) (box : NetBox) : Type 0 where
  pub left : IsNear columns box.left box.next_left
  pub right : IsNear (mirrored_counts columns) box.right box.next_right
  pub bottom : IsNear rows box.bottom box.next_bottom
  pub top : IsNear (mirrored_counts rows) box.top box.next_top
  pub columns_inside : (column : ℕ) → 65535 < column → columns column ≡ 0
  pub rows_inside : (row : ℕ) → 65535 < row → rows row ≡ 0

-- the box is that of the blocks of a net
abbrev pub IsBox : List Point → List ℕ → NetBox → Type 0
IsBox points net box = IsBoxBy (at_column points net) (at_row points net) box

-- the nearest distances of a box, and those that it keeps next to them
abbrev pub near_of : NetBox → Sides
near_of box = record { left = box.left; right = box.right; bottom = box.bottom; top = box.top }

abbrev pub next_of : NetBox → Sides
next_of box = record { left = box.next_left; right = box.next_right; bottom = box.next_bottom; top = box.next_top }

-- a box with these distances
abbrev pub box_of : Sides → Sides → NetBox
box_of near next = record {
  left = near.left;
  right = near.right;
  bottom = near.bottom;
  top = near.top;
  next_left = next.left;
  next_right = next.right;
  next_bottom = next.bottom;
  next_top = next.top;
}

-- the width plus the height
abbrev pub half_of : NetBox → ℕ
half_of box = 131070 - sum_of (near_of box)

-- the nearest distance after a block at distance `gone` is removed
abbrev pub rest : ℕ → ℕ → ℕ → ℕ
rest near next gone = if near == gone then next else near

-- the nearest distances at all sides after a block is removed
abbrev pub rest_of : NetBox → Sides → Sides
rest_of box gone = record {
  left = rest box.left box.next_left gone.left;
  right = rest box.right box.next_right gone.right;
  bottom = rest box.bottom box.next_bottom gone.bottom;
  top = rest box.top box.next_top gone.top;
}

-- the width plus the height after a block moves from one point to another
abbrev pub half_after : NetBox → Sides → Sides → ℕ
half_after box from to = 131070 - sum_of (nearer_sides (rest_of box from) to)

-- a box with one more block
abbrev pub with_block : NetBox → Sides → NetBox
with_block box block = box_of (nearer_sides block (near_of box)) (nearer_sides (next_of box) (farther_sides (near_of box) block))

-- a block at these distances is farther from each side than the two nearest that the box keeps
-- there
pub record IsDeep (box : NetBox) (block : Sides) : Type 0 where
  pub left : box.next_left < block.left
  pub right : box.next_right < block.right
  pub bottom : box.next_bottom < block.bottom
  pub top : box.next_top < block.top

-- the width plus the height of the box of a net whose blocks are at these points
abbrev pub reach_of : List Point → List ℕ → ℕ
reach_of points net = spread (map (slice_index (columns_at points)) net) + spread (map (slice_index (rows_at points)) net)

abbrev pub no_sides : Sides
no_sides = record { left = 0; right = 0; bottom = 0; top = 0 }

abbrev pub no_box : NetBox
no_box = box_of no_sides no_sides

abbrev pub box_at : List NetBox → ℕ → NetBox
box_at boxes number = slice_index_or boxes number no_box

-- the total length of the nets with these numbers: by their boxes, by their boxes after a block
-- moved, and by the points of their blocks
abbrev pub boxed_length : List NetBox → List ℕ → ℕ
boxed_length boxes numbers = sum_by (λ number. half_of (box_at boxes number)) numbers

abbrev pub length_after : List NetBox → Sides → Sides → List ℕ → ℕ
length_after boxes from to numbers = sum_by (λ number. half_after (box_at boxes number) from to) numbers

abbrev pub reached_length : List Point → List (List ℕ) → List ℕ → ℕ
reached_length points nets numbers = sum_by (λ number. reach_of points (net_at nets number)) numbers

-- the net with this number has this box, that of its blocks' points; the other boxes are unchanged
pub record IsRenewed (points : List Point) (net : List ℕ) (number : ℕ) (old new : List NetBox) (found : NetBox) : Type 0 where
  pub long : length new ≡ length old
  pub exact : IsBox points net found
  pub own : box_at new number ≡ found
  pub others : (other : ℕ) → other ≢ number → box_at new other ≡ box_at old other

-- of the nets with these numbers the first `count` have the boxes of their blocks' points, and this
-- total length
pub record AreRenewed (points : List Point) (nets : List (List ℕ)) (touched : List ℕ) (count : ℕ) (old new : List NetBox) (total : ℕ) : Type 0 where
  pub long : length new ≡ length old
  pub done : (k : ℕ) → k < count → IsBox points (net_at nets (slice_index touched k)) (box_at new (slice_index touched k))
  pub kept : (number : ℕ) → IsBox points (net_at nets number) (box_at old number) → IsBox points (net_at nets number) (box_at new number)
  pub others : (number : ℕ) → ((k : ℕ) → k < count → slice_index touched k ≢ number) → box_at new number ≡ box_at old number
  pub total_is : total ≡ reached_length points nets (take count touched)
  pub small : total ≤ 131072 * count

-- the nets of both lists have the boxes of their blocks' points, and this total length
pub record AreBothRenewed (points : List Point) (nets : List (List ℕ)) (first second : List ℕ) (old new : List NetBox) (total : ℕ) : Type 0 where
  pub long : length new ≡ length old
  pub firsts : (k : ℕ) → k < length first → IsBox points (net_at nets (slice_index first k)) (box_at new (slice_index first k))
  pub seconds : (k : ℕ) → k < length second → IsBox points (net_at nets (slice_index second k)) (box_at new (slice_index second k))
  pub others : (number : ℕ) → ((k : ℕ) → k < length first → slice_index first k ≢ number) → ((k : ℕ) → k < length second → slice_index second k ≢ number) → box_at new number ≡ box_at old number
  pub total_is : total ≡ reached_length points nets first + reached_length points nets second

-- the numbers are those of nets, and their count is within the limit
pub record AreFewOf (count : ℕ) (touched : List ℕ) : Type 0 where
  pub few : length touched < 2 ^ 14
  pub within : (k : ℕ) → k < length touched → slice_index touched k < count

-- no box is larger than the field
abbrev pub AreInside : List NetBox → Type 0
AreInside boxes = (number : ℕ) → number < length boxes → sum_of (near_of (box_at boxes number)) ≤ 131070

-- the lengths of these boxes can be summed in 64 bits
pub record CanSum (all : List NetBox) : Type 0 where
  pub few : length all < 2147483648
  pub boxes : AreInside all

-- the lengths of the boxes of these nets can be summed in 64 bits
pub record CanWeigh (all : List NetBox) (numbers : List ℕ) : Type 0 where
  pub touched : AreFewOf (length all) numbers
  pub boxes : AreInside all

-- each net has its box
pub record AreBoxes (points : List Point) (nets : List (List ℕ)) (boxes : List NetBox) : Type 0 where
  pub long : length boxes ≡ length nets
  pub exact : (number : ℕ) → number < length nets → IsBox points (net_at nets number) (box_at boxes number)

-- the number is in the list
abbrev pub IsAmong : List ℕ → ℕ → Type 0
IsAmong numbers number = (k : ℕ) × (k < length numbers) × (slice_index numbers k ≡ number)

-- the box of a net after one of its blocks moved: if another of its blocks moved back, so that the
-- net's number is among the others, the box is unchanged; otherwise, if the block was deep inside
-- the box, the new box is the old one with the block at its new point
pub record IsFollowed (points : List Point) (net others : List ℕ) (number : ℕ) (box : NetBox) (from to : Sides) : Type 0 where
  pub both : IsAmong others number → IsBox points net box
  pub alone : (IsAmong others number → ⊥) → IsDeep box from → IsBox points net (with_block box to)

-- the boxes of the nets with these numbers can be updated after a block of each of them moved
pub record CanRenew (points : List Point) (nets : List (List ℕ)) (numbers others : List ℕ) (boxes : List NetBox) (from to : Sides) : Type 0 where
  pub lawful : AreNets (length points) nets
  pub long : length boxes ≡ length nets
  pub touched : AreFewOf (length nets) numbers
  pub rising : (k j : ℕ) → k < j → j < length numbers → slice_index numbers k < slice_index numbers j
  pub follows : (k : ℕ) → k < length numbers →
      IsFollowed points (net_at nets (slice_index numbers k)) others (slice_index numbers k) (box_at boxes (slice_index numbers k)) from to

-- the boxes of the nets on both lists can be updated
pub record AreTouchedBy (points : List Point) (nets : List (List ℕ)) (one two : List ℕ) (boxes : List NetBox) (made : Move) : Type 0 where
  pub first : CanRenew points nets one two boxes made.from made.to
  pub second : CanRenew points nets two one boxes made.to made.from
