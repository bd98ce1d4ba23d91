-- The distances nearest to a side, as blocks are added and as they move.
use Rattle.strip_place.proofs.Prelude.{◌≡◌, ℕ, ◌+◌, ◌-◌, ◌<◌, ◌≤◌, cond, eqb, ap, ◌∙◌, ◌⊎◌, inl, inr, arith, max, min, cases_lt, nat_tests, NetBox, Point, HasCome, IsNear, IsReach, mirrored_counts, IsBoxBy, with_block, sides_of}

-- the nearest distances of the first blocks
pub record IsNearSoFar (at_each : ℕ → ℕ) (with_block near next : ℕ) : Type 0 where
  pub near_inside : near ≤ 65535
  pub next_inside : next ≤ 65535
  pub some : 0 < with_block → 0 < at_each near
  pub below : (coordinate : ℕ) → coordinate < near → at_each coordinate ≡ 0
  pub again : (next ≡ 65535) ⊎ (cond {A = ℕ} (eqb near next) 1 0 < at_each next)
  pub start : with_block ≡ 0 → near ≡ 65535

pub near_more : (old new : ℕ → ℕ) (with_block near next value : ℕ) → value ≤ 65535 → ((c : ℕ) → c ≤ 65535 → new c ≡ old c + cond (eqb value c) 1 0) → IsNearSoFar old with_block near next → IsNearSoFar new (with_block + 1) (min value near) (min next (max near value))
near_more old new with_block near next value small more so_far = grind (arith, nat_tests)

-- one more block, as seen from the other side
pub more_mirrored : (old new : ℕ → ℕ) (value : ℕ) → value ≤ 65535 → ((c : ℕ) → new c ≡ old c + cond (eqb value c) 1 0) → (c : ℕ) → c ≤ 65535 → mirrored_counts new c ≡ mirrored_counts old c + cond (eqb (65535 - value) c) 1 0
more_mirrored old new value small more c inside = (let each = more (65535 - c) in grind (arith, nat_tests, each))

-- the extent between the nearest distances of two sides
pub reach_between : (at_each : ℕ → ℕ) (left left_next right right_next : ℕ) → IsNear at_each left left_next → IsNear (mirrored_counts at_each) right right_next → ((c : ℕ) → 65535 < c → at_each c ≡ 0) → IsReach at_each left (65535 - right)
reach_between at_each left left_next right right_next low high inside = record {
  low_some = low.some;
  high_some = high.some;
  below = low.below;
  above = λ c lt. past c lt (cases_lt 65535 c);
}
  where
    past : (c : ℕ) → 65535 - right < c → (65535 < c) ⊎ (c ≤ 65535) → at_each c ≡ 0
    past c lt (inl off) = inside c off
    past c lt (inr le) =
        let e : c ≡ 65535 - (65535 - c) = omega arith in
        let fits = high.near_inside in
        ap at_each e ∙ high.below (65535 - c) (omega arith)

-- the ends of the extent are in order
pub reach_ordered : (at_each : ℕ → ℕ) (low high : ℕ) → IsReach at_each low high → low ≤ high
reach_ordered at_each low high is = grind arith

-- a block arrived and the others are unchanged, as seen from the other side
pub come_mirrored : (old new : ℕ → ℕ) (from to : ℕ) → from ≤ 65535 → to ≤ 65535 → HasCome old new from to → HasCome (mirrored_counts old) (mirrored_counts new) (65535 - from) (65535 - to)
come_mirrored old new from to from_inside to_inside come = grind arith

-- the nearest distance after a block left is still occupied
pub still_there : (old new : ℕ → ℕ) (from to near next : ℕ) → to ≤ 65535 → IsNear old near next → HasCome old new from to → 0 < new (min (cond {A = ℕ} (eqb near from) next near) to)
still_there old new from to near next small is come = grind (arith, nat_tests)

-- the box of the first blocks
pub record IsBoxSoFar (columns rows : ℕ → ℕ) (count : ℕ) (box : NetBox) : Type 0 where
  pub left : IsNearSoFar columns count box.left box.next_left
  pub right : IsNearSoFar (mirrored_counts columns) count box.right box.next_right
  pub bottom : IsNearSoFar rows count box.bottom box.next_bottom
  pub top : IsNearSoFar (mirrored_counts rows) count box.top box.next_top
  pub columns_inside : (column : ℕ) → 65535 < column → columns column ≡ 0
  pub rows_inside : (row : ℕ) → 65535 < row → rows row ≡ 0

pub box_more : (columns new_columns rows new_rows : ℕ → ℕ) (count : ℕ) (box : NetBox) (block : Point) → block.x ≤ 65535 → block.y ≤ 65535 → ((c : ℕ) → new_columns c ≡ columns c + cond (eqb block.x c) 1 0) → ((c : ℕ) → new_rows c ≡ rows c + cond (eqb block.y c) 1 0) → IsBoxSoFar columns rows count box → IsBoxSoFar new_columns new_rows (count + 1) (with_block box (sides_of block))
box_more columns new_columns rows new_rows count box block x_small y_small across up so_far = record {
  left = near_more columns new_columns count box.left box.next_left block.x x_small (λ c inside. across c) so_far.left;
  right = near_more (mirrored_counts columns) (mirrored_counts new_columns) count box.right box.next_right (65535 - block.x) (omega arith) (more_mirrored columns new_columns block.x x_small across) so_far.right;
  bottom = near_more rows new_rows count box.bottom box.next_bottom block.y y_small (λ c inside. up c) so_far.bottom;
  top = near_more (mirrored_counts rows) (mirrored_counts new_rows) count box.top box.next_top (65535 - block.y) (omega arith) (more_mirrored rows new_rows block.y y_small up) so_far.top;
  columns_inside = λ c past. (let each = across c in let off = so_far.columns_inside c past in grind (arith, nat_tests, each, off));
  rows_inside = λ c past. (let each = up c in let off = so_far.rows_inside c past in grind (arith, nat_tests, each, off));
}

pub box_all : (columns rows : ℕ → ℕ) (count : ℕ) (box : NetBox) → 0 < count → IsBoxSoFar columns rows count box → IsBoxBy columns rows box
box_all columns rows count box some so_far = search arith
