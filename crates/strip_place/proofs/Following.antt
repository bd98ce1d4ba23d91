-- Bounding boxes of nets one of whose blocks moves.
use Rattle.strip_place.proofs.Prelude.{◌≡◌, ◌≢◌, ℕ, ◌+◌, ◌-◌, ◌<◌, ◌≤◌, cond, eqb, List, length, map, get_or, refl, sym, ◌∙◌, ◌⊎◌, inl, inr, arith, max, min, nat_tests, NetBox, Point, AreBoxes, AreRenewed, CanRenew, IsAmong, IsBoxBy, IsDeep, IsFollowed, at_column, at_row, box_at, with_block, HasMoved, IsNear, count_at, mirrored_counts, AreTouched, net_at, times_on, Sides, sides_of, no_point, point_at}
use Rattle.strip_place.proofs.Ends.{swapped_once}
use Rattle.strip_place.proofs.Lengths.{is_in}
use Rattle.strip_place.proofs.Swaps.{AreExchanged, box_counts, none_on, same_each, swapped, x_of, y_of}

-- a block that was farther than the two nearest moves
near_moved : (old new : ℕ → ℕ) (near next from to : ℕ) → next < from → to ≤ 65535 → 0 < old from → ((c : ℕ) → c ≤ 65535 → new c + cond {A = ℕ} (eqb from c) 1 0 ≡ old c + cond (eqb to c) 1 0) → IsNear old near next → IsNear new (min to near) (min next (max near to))
near_moved old new near next from to deep small stood each is = search (nat_tests, arith)

-- a block that was farther than the two nearest moves, as seen from the other side
near_moved_mirrored : (old new : ℕ → ℕ) (near next from to : ℕ) → next < 65535 - from → from ≤ 65535 → to ≤ 65535 → HasMoved old new from to → IsNear (mirrored_counts old) near next → IsNear (mirrored_counts new) (min (65535 - to) near) (min next (max near (65535 - to)))
near_moved_mirrored old new near next from to deep from_inside to_inside moved is = search (nat_tests, arith)

-- a move can be undone
moved_back : (old new : ℕ → ℕ) (from to : ℕ) → HasMoved old new from to → HasMoved new old to from
moved_back old new from to moved = grind arith

-- a box that is extended to the block's new point
box_moved : (columns new_columns rows new_rows : ℕ → ℕ) (box : NetBox) (from to : Point) → from.x ≤ 65535 → from.y ≤ 65535 → to.x ≤ 65535 → to.y ≤ 65535 → HasMoved columns new_columns from.x to.x → HasMoved rows new_rows from.y to.y → IsDeep box (sides_of from) → IsBoxBy columns rows box
    → IsBoxBy new_columns new_rows (with_block box (sides_of to))
box_moved columns new_columns rows new_rows box from to from_x from_y to_x to_y across along deep is = record {
  left = near_moved columns new_columns box.left box.next_left from.x to.x deep.left to_x across.stood (λ c inside. across.each c) is.left;
  right = near_moved_mirrored columns new_columns box.right box.next_right from.x to.x deep.right from_x to_x across is.right;
  bottom = near_moved rows new_rows box.bottom box.next_bottom from.y to.y deep.bottom to_y along.stood (λ c inside. along.each c) is.bottom;
  top = near_moved_mirrored rows new_rows box.top box.next_top from.y to.y deep.top from_y to_y along is.top;
  columns_inside = λ c past. (let each = across.each c in let off = is.columns_inside c past in grind (arith, nat_tests, each, off));
  rows_inside = λ c past. (let each = along.each c in let off = is.rows_inside c past in grind (arith, nat_tests, each, off));
}

-- two blocks changed places: the boxes of the nets of one of them, for the move and for the move
-- back
module _ (old new : List Point) (nets : List (List ℕ)) (block other : ℕ) (from to : Point) (are : AreExchanged old new block other from to)
    (there : (number : ℕ) → number < length nets → 0 < times_on other (net_at nets number) → point_at old other ≡ to) (first second : List ℕ) (mine : AreTouched nets block first) (theirs : AreTouched nets other second)
    (from_x : from.x ≤ 65535) (from_y : from.y ≤ 65535) (to_x : to.x ≤ 65535) (to_y : to.y ≤ 65535) where
  same : (f : Point → ℕ) → f no_point ≡ 0 → (k : ℕ) → k < length first → IsAmong second (get_or first k 0) → (c : ℕ) → count_at (map f new) (net_at nets (get_or first k 0)) c ≡ count_at (map f old) (net_at nets (get_or first k 0)) c
  same f none k lt found = same_each f none old new block other from to (net_at nets (get_or first k 0)) are (there (get_or first k 0) (mine.within k lt)) (mine.on k lt ∙ sym (rw found.2 at (theirs.on found.0 found.1)))

  moves : (f : Point → ℕ) → f no_point ≡ 0 → (k : ℕ) → k < length first → (IsAmong second (get_or first k 0) → ⊥) → HasMoved (count_at (map f old) (net_at nets (get_or first k 0))) (count_at (map f new) (net_at nets (get_or first k 0))) (f from) (f to)
  moves f none k lt off =
      swapped_once (map f old) (map f new) block other (f from) (f to) (net_at nets (get_or first k 0)) (swapped f none old new block other from to are) (mine.on k lt)
      (none_on nets other second (get_or first k 0) theirs (mine.within k lt) (λ j l e. off (j, l, e)))

  pub followed_there : (boxes : List NetBox) → AreBoxes old nets boxes → (k : ℕ) → k < length first → IsFollowed new (net_at nets (get_or first k 0)) second (get_or first k 0) (box_at boxes (get_or first k 0)) (sides_of from) (sides_of to)
  followed_there boxes exact k lt =
      let net = net_at nets (get_or first k 0) in
      let box = box_at boxes (get_or first k 0) in
      let is = exact.exact (get_or first k 0) (mine.within k lt) in
      record {
        both = λ found. box_counts (at_column old net) (at_column new net) (at_row old net) (at_row new net) box (same x_of refl k lt found) (same y_of refl k lt found) is;
        alone = λ off deep. box_moved (at_column old net) (at_column new net) (at_row old net) (at_row new net) box from to from_x from_y to_x to_y (moves x_of refl k lt off) (moves y_of refl k lt off) deep is;
      }

  pub followed_back : (boxes : List NetBox) → AreBoxes new nets boxes → (k : ℕ) → k < length first → IsFollowed old (net_at nets (get_or first k 0)) second (get_or first k 0) (box_at boxes (get_or first k 0)) (sides_of to) (sides_of from)
  followed_back boxes exact k lt =
      let net = net_at nets (get_or first k 0) in
      let box = box_at boxes (get_or first k 0) in
      let is = exact.exact (get_or first k 0) (mine.within k lt) in
      record {
        both = λ found. box_counts (at_column new net) (at_column old net) (at_row new net) (at_row old net) box (λ c. sym (same x_of refl k lt found c)) (λ c. sym (same y_of refl k lt found c)) is;
        alone = λ off deep. box_moved (at_column new net) (at_column old net) (at_row new net) (at_row old net) box to from to_x to_y from_x from_y
            (moved_back (at_column old net) (at_column new net) from.x to.x (moves x_of refl k lt off)) (moved_back (at_row old net) (at_row new net) from.y to.y (moves y_of refl k lt off)) deep is;
      }

-- the first ones were updated, and the number of another net comes later
pub later : (numbers : List ℕ) (count : ℕ) → ((k j : ℕ) → k < j → j < length numbers → get_or numbers k 0 < get_or numbers j 0) → count < length numbers → (k : ℕ) → k < count → get_or numbers k 0 ≢ get_or numbers count 0
later numbers count rising lt k below e = absurd (omega (arith, rising k count below lt, e))

-- once the boxes of the first list are updated, those of the second can be
pub renewed_first : (points : List Point) (nets : List (List ℕ)) (one two : List ℕ) (old new : List NetBox) (total : ℕ) (from to : Sides) → AreRenewed points nets one (length one) old new total → CanRenew points nets two one old from to → CanRenew points nets two one new from to
renewed_first points nets one two old new total from to renewed can = record {
  lawful = can.lawful;
  long = renewed.long ∙ can.long;
  touched = can.touched;
  rising = can.rising;
  follows = λ k lt. by k lt (is_in one (get_or two k 0));
}
  where
    by : (k : ℕ) → k < length two → ((j : ℕ) × (j < length one) × (get_or one j 0 ≡ get_or two k 0)) ⊎ ((j : ℕ) → j < length one → get_or one j 0 ≢ get_or two k 0) → IsFollowed points (net_at nets (get_or two k 0)) one (get_or two k 0) (box_at new (get_or two k 0)) from to
    by k lt (inl found) = record { both = λ again. rw found.2 at (renewed.done found.0 found.1); alone = λ off deep. absurd (off found) }
    by k lt (inr off) = rw (renewed.others (get_or two k 0) off) (can.follows k lt)
