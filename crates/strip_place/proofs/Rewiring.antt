-- Nets two of whose blocks change places.
use Rattle.strip_place.proofs.Prelude.{◌≡◌, ◌≢◌, ℕ, ◌+◌, ◌<◌, ◌≤◌, true, false, List, [], ◌∷◌, ◌++◌, length, take, drop, set, get_or, refl, sym, ap, ◌∙◌, ◌⊎◌, inl, inr, arith, get_or-set_same, get_or-set_other, length-set, nat_le, sum_by, nat_tests, cases_eq, ext_get_or, take-append-le, take_all, NetBox, Point, AreTouched, net_at, times_on, AreBothRenewed, AreFewOf, AreTouchedBy, IsFollowed, box_at, boxed_length, length_after, near_of, reach_of, reached_length, sides_of, sum_of, IsOnNone, IsWired, Wiring, no_point, point_at, points_after}
use Rattle.strip_place.proofs.Following.{followed_back, followed_there}
use Rattle.strip_place.proofs.Lengths.{box_sum}
use Rattle.strip_place.proofs.Swaps.{exchanged_back, exchanged_points, grows, least_after, renewed_again, renewed_boxes}
use Rattle.strip_place.proofs.Touches.{touched_few}

abbrev pub wiring_of : List (List ℕ) → List Point → Wiring
wiring_of nets points = record { nets = nets; points = points }

-- a list that is lent and written as a whole
pub whole_back : (count : ℕ) (new old : List NetBox) → length new ≡ count → take count (new ++ drop (length new) old) ≡ new
whole_back count new old long = grind (arith, take-append-le, take_all)

-- the nets of a board on which two blocks change places
module _ (nets touching : List (List ℕ)) (points : List Point) (boxes : List NetBox) (block other : ℕ) (there : Point) (first second : List ℕ)
    (wired : IsWired nets touching points boxes) (within : block < length points) (inside : other < length points) (differs : block ≢ other)
    (stood : (point_at points other ≡ there) ⊎ IsOnNone nets other) (first_is : get_or touching block [] ≡ first) (second_is : get_or touching other [] ≡ second) where
  mine : AreTouched nets block first
  mine = rw first_is at (wired.touched block within)

  theirs : AreTouched nets other second
  theirs = rw second_is at (wired.touched other inside)

  known : (point_at points other ≡ there) ⊎ IsOnNone nets other → (number : ℕ) → number < length nets → 0 < times_on other (net_at nets number) → point_at points other ≡ there
  known (inl e) number lt some = e
  known (inr none) number lt some = absurd (omega (arith, none number lt))

  -- the nets that each of the two is on
  pub few_first : AreFewOf (length nets) first
  few_first = record { few = omega (arith, touched_few nets block first mine, wired.lawful.few); within = mine.within }

  pub few_second : AreFewOf (length nets) second
  few_second = record { few = omega (arith, touched_few nets other second theirs, wired.lawful.few); within = theirs.within }

  -- they will be at least as long as their boxes say
  module _ (here_x : (point_at points block).x ≤ 65535) (here_y : (point_at points block).y ≤ 65535) (there_x : there.x ≤ 65535) (there_y : there.y ≤ 65535) where
    pub least_first : length_after boxes (sides_of (point_at points block)) (sides_of there) first ≤ reached_length (points_after points block other there) nets first
    least_first = least_after points (points_after points block other there) nets first block other (point_at points block) there boxes (exchanged_points points block other there within inside differs) wired.lawful mine wired.exact (known stood) here_x here_y there_x there_y

    pub least_second : length_after boxes (sides_of there) (sides_of (point_at points block)) second ≤ reached_length (points_after points block other there) nets second
    least_second = by stood
      where
        none_by : (second : List ℕ) → ((k : ℕ) → k < length second → ⊥) → length_after boxes (sides_of there) (sides_of (point_at points block)) second ≤ reached_length (points_after points block other there) nets second
        none_by [] none = omega arith
        none_by (number ∷ second) none = absurd (none 0 (omega arith))

        by : (point_at points other ≡ there) ⊎ IsOnNone nets other → length_after boxes (sides_of there) (sides_of (point_at points block)) second ≤ reached_length (points_after points block other there) nets second
        by (inl e) = least_after points (points_after points block other there) nets second other block there (point_at points block) boxes (exchanged_back points (points_after points block other there) block other (point_at points block) there e (exchanged_points points block other there within inside differs)) wired.lawful theirs wired.exact (λ number lt some. refl) there_x there_y here_x here_y
        by (inr none) = none_by second (λ k lt. (let on = theirs.on k lt in let off = none (get_or second k 0) (theirs.within k lt) in absurd (omega arith)))

  after_long : length (points_after points block other there) ≡ length points
  after_long = length-set (set points block there) other (point_at points block) ∙ length-set points block there

  pub wired_after : (told : List NetBox) (total : ℕ) → AreBothRenewed (points_after points block other there) nets first second boxes told total → IsWired nets touching (points_after points block other there) told
  wired_after told total renewed = record {
    blocks = wired.blocks ∙ sym after_long;
    lawful = rw after_long wired.lawful;
    touched = λ who lt. wired.touched who (omega (arith, after_long));
    exact = renewed_boxes points (points_after points block other there) nets first second block other (point_at points block) there boxes told total (exchanged_points points block other there within inside differs) mine theirs wired.exact (known stood) renewed;
  }

  pub wired_again : (told last : List NetBox) (total again : ℕ) → AreBothRenewed (points_after points block other there) nets first second boxes told total → AreBothRenewed points nets first second told last again → IsWired nets touching points last
  wired_again told last total again once twice = record {
    blocks = wired.blocks;
    lawful = wired.lawful;
    touched = wired.touched;
    exact = renewed_again points (points_after points block other there) nets first second boxes told last total again wired.exact once twice;
  }

  -- the boxes of the two blocks' nets can be updated, for the move and for the move back
  module _ (here_x : (point_at points block).x ≤ 65535) (here_y : (point_at points block).y ≤ 65535) (there_x : there.x ≤ 65535) (there_y : there.y ≤ 65535) where
    stands : (k : ℕ) → k < length second → point_at points other ≡ there
    stands k lt = known stood (get_or second k 0) (theirs.within k lt) (omega (arith, theirs.on k lt))

    second_there : (k : ℕ) → k < length second → IsFollowed (points_after points block other there) (net_at nets (get_or second k 0)) first (get_or second k 0) (box_at boxes (get_or second k 0)) (sides_of there) (sides_of (point_at points block))
    second_there k lt =
        followed_there points (points_after points block other there) nets other block there (point_at points block)
        (exchanged_back points (points_after points block other there) block other (point_at points block) there (stands k lt) (exchanged_points points block other there within inside differs))
        (λ number l some. refl) second first theirs mine there_x there_y here_x here_y boxes wired.exact k lt

    second_back : (told : List NetBox) (total : ℕ) → AreBothRenewed (points_after points block other there) nets first second boxes told total → (k : ℕ) → k < length second
        → IsFollowed points (net_at nets (get_or second k 0)) first (get_or second k 0) (box_at told (get_or second k 0)) (sides_of (point_at points block)) (sides_of there)
    second_back told total renewed k lt =
        followed_back points (points_after points block other there) nets other block there (point_at points block)
        (exchanged_back points (points_after points block other there) block other (point_at points block) there (stands k lt) (exchanged_points points block other there within inside differs))
        (λ number l some. refl) second first theirs mine there_x there_y here_x here_y told (wired_after told total renewed).exact k lt

    pub touched_there : AreTouchedBy (points_after points block other there) nets first second boxes (record { from = sides_of (point_at points block); to = sides_of there })
    touched_there = record {
      first = record {
        lawful = rw after_long wired.lawful;
        long = wired.exact.long;
        touched = few_first;
        rising = mine.rising;
        follows = followed_there points (points_after points block other there) nets block other (point_at points block) there (exchanged_points points block other there within inside differs) (known stood) first second mine theirs here_x here_y there_x there_y boxes wired.exact;
      };
      second = record { lawful = rw after_long wired.lawful; long = wired.exact.long; touched = few_second; rising = theirs.rising; follows = second_there };
    }

    pub touched_back : (told : List NetBox) (total : ℕ) → AreBothRenewed (points_after points block other there) nets first second boxes told total → AreTouchedBy points nets first second told (record { from = sides_of there; to = sides_of (point_at points block) })
    touched_back told total renewed = record {
      first = record {
        lawful = wired.lawful;
        long = renewed.long ∙ wired.exact.long;
        touched = few_first;
        rising = mine.rising;
        follows = followed_back points (points_after points block other there) nets block other (point_at points block) there (exchanged_points points block other there within inside differs) (known stood) first second mine theirs here_x here_y there_x there_y told (wired_after told total renewed).exact;
      };
      second = record { lawful = wired.lawful; long = renewed.long ∙ wired.exact.long; touched = few_second; rising = theirs.rising; follows = second_back told total renewed };
    }

  pub fits_is : (allowance : ℕ) → nat_le (reached_length (points_after points block other there) nets first + reached_length (points_after points block other there) nets second) (boxed_length boxes first + boxed_length boxes second + allowance)
      ≡ nat_le (sum_by (reach_of (points_after points block other there)) nets) (sum_by (reach_of points) nets + allowance)
  fits_is allowance = grows points (points_after points block other there) nets first second block other (point_at points block) there allowance boxes (exchanged_points points block other there within inside differs) wired.lawful mine theirs wired.exact (known stood)

  -- the half perimeter of a box is at most that of the field
  pub sums_small : (lent : List NetBox) → lent ≡ boxes → (number : ℕ) → number < length lent → sum_of (near_of (box_at lent number)) ≤ 131070
  sums_small lent same number lt =
      rw same (box_sum points (net_at nets number) (box_at boxes number) (wired.exact.exact number (omega (arith, ap length same, wired.exact.long))))

  -- the decision by the lengths is that of the definition
  pub kept_is : (allowance before total : ℕ) → before ≡ boxed_length boxes first + boxed_length boxes second → total ≡ reached_length (points_after points block other there) nets first + reached_length (points_after points block other there) nets second → total ≤ before + allowance
      → true ≡ nat_le (sum_by (reach_of (points_after points block other there)) nets) (sum_by (reach_of points) nets + allowance)
  kept_is allowance before total before_is total_is le =
      le_true (reached_length (points_after points block other there) nets first + reached_length (points_after points block other there) nets second) (boxed_length boxes first + boxed_length boxes second + allowance) (omega (arith, before_is, total_is, le)) ∙ fits_is allowance
    where
      le_true : (a b : ℕ) → a ≤ b → true ≡ nat_le a b
      le_true a b le = grind (arith, nat_tests)

  pub grown_is : (allowance before total : ℕ) → before ≡ boxed_length boxes first + boxed_length boxes second → total ≤ reached_length (points_after points block other there) nets first + reached_length (points_after points block other there) nets second → before + allowance < total
      → false ≡ nat_le (sum_by (reach_of (points_after points block other there)) nets) (sum_by (reach_of points) nets + allowance)
  grown_is allowance before total before_is total_is lt =
      le_false (reached_length (points_after points block other there) nets first + reached_length (points_after points block other there) nets second) (boxed_length boxes first + boxed_length boxes second + allowance) (omega (arith, before_is, total_is, lt)) ∙ fits_is allowance
    where
      le_false : (a b : ℕ) → b < a → false ≡ nat_le a b
      le_false a b lt = grind (arith, nat_tests)

-- points that are written and then restored
pub points_back : (points : List Point) (block other : ℕ) (there : Point) → block ≢ other → set (set (points_after points block other there) block (point_at points block)) other (point_at points other) ≡ points
points_back points block other there differs = ext_get_or no_point (set (set (points_after points block other there) block (point_at points block)) other (point_at points other)) points long (λ k lt. by k (omega (arith, long)) (cases_eq k other) (cases_eq k block))
  where
    long_two : length (points_after points block other there) ≡ length points
    long_two = length-set (set points block there) other (point_at points block) ∙ length-set points block there

    long_three : length (set (points_after points block other there) block (point_at points block)) ≡ length points
    long_three = length-set (points_after points block other there) block (point_at points block) ∙ long_two

    long : length (set (set (points_after points block other there) block (point_at points block)) other (point_at points other)) ≡ length points
    long = length-set (set (points_after points block other there) block (point_at points block)) other (point_at points other) ∙ long_three

    by : (k : ℕ) → k < length points → (k ≡ other) ⊎ (k ≡ other → ⊥) → (k ≡ block) ⊎ (k ≡ block → ⊥) → get_or (set (set (points_after points block other there) block (point_at points block)) other (point_at points other)) k no_point ≡ get_or points k no_point
    by k lt (inl e) any =
        ap (λ n. get_or (set (set (points_after points block other there) block (point_at points block)) other (point_at points other)) n no_point) e
        ∙ get_or-set_same (set (points_after points block other there) block (point_at points block)) other (point_at points other) no_point (omega (arith, long_three))
        ∙ ap (λ n. get_or points n no_point) (sym e)
    by k lt (inr ne) (inl e) =
        get_or-set_other (set (points_after points block other there) block (point_at points block)) other k (point_at points other) no_point ne
        ∙ ap (λ n. get_or (set (points_after points block other there) block (point_at points block)) n no_point) e
        ∙ get_or-set_same (points_after points block other there) block (point_at points block) no_point (omega (arith, long_two))
        ∙ ap (λ n. get_or points n no_point) (sym e)
    by k lt (inr ne) (inr nor) =
        get_or-set_other (set (points_after points block other there) block (point_at points block)) other k (point_at points other) no_point ne
        ∙ get_or-set_other (points_after points block other there) block k (point_at points block) no_point nor
        ∙ get_or-set_other (set points block there) other k (point_at points block) no_point ne
        ∙ get_or-set_other points block k there no_point nor
