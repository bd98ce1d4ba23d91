-- Two blocks that change places, and the bounding boxes of their nets.
use Rattle.strip_place.proofs.Prelude.{◌≡◌, ◌≢◌, ℕ, ◌+◌, ◌<◌, ◌≤◌, cond, eqb, List, [], ◌∷◌, ◌++◌, length, get_or, map, refl, sym, ap, subst, ◌∙◌, ◌⊎◌, inl, inr, arith, get_or-set_same, get_or-set_other, length-set, nat_le, sum_by, get_or_append_left, get_or_push, length_push, take_all, sum_by_more, cases_eq, nat_tests, NetBox, Point, HasCome, count_at, sides_of, AreNets, AreTouched, net_at, times_on, AreBothRenewed, AreBoxes, AreRenewed, IsBox, IsBoxBy, IsRenewed, boxed_length, box_at, half_after, half_of, length_after, no_box, reach_of, reached_length, no_point, point_at, points_after}
use Rattle.strip_place.proofs.Ends.{HaveSwapped, coordinate_at, counted, swapped_once, swapped_same}
use Rattle.strip_place.proofs.Lengths.{box_reach, boxed_is, is_in, lengths_grow, reach_least, sum_le}

-- the first `count` nets have their boxes
pub record AreBoxesSoFar (points : List Point) (nets : List (List ℕ)) (count : ℕ) (boxes : List NetBox) : Type 0 where
  pub long : length boxes ≡ count
  pub exact : (number : ℕ) → number < count → IsBox points (net_at nets number) (box_at boxes number)

pub boxes_none : (points : List Point) (nets : List (List ℕ)) (boxes : List NetBox) → boxes ≡ [] → AreBoxesSoFar points nets 0 boxes
boxes_none points nets boxes none = record { long = ap length none; exact = λ number lt. absurd (omega arith) }

pub boxes_more : (points : List Point) (nets : List (List ℕ)) (count : ℕ) (boxes : List NetBox) (box : NetBox) → AreBoxesSoFar points nets count boxes → IsBox points (net_at nets count) box → AreBoxesSoFar points nets (count + 1) (boxes ++ box ∷ [])
boxes_more points nets count boxes box so_far here =
    let none : NetBox = no_box in
    record {
      long = omega (arith, length_push boxes box, so_far.long);
      exact = λ number lt. elim (cases_eq number count) [
        | inl e ↦ rw e (rw (get_or_push boxes box none count so_far.long) here)
        | inr ne ↦ (let inside : number < length boxes = omega (arith, so_far.long) in rw (get_or_append_left boxes (box ∷ []) none number inside) (so_far.exact number (omega arith)))
      ];
    }

pub boxes_all : (points : List Point) (nets : List (List ℕ)) (count : ℕ) (boxes : List NetBox) → count ≡ length nets → AreBoxesSoFar points nets count boxes → AreBoxes points nets boxes
boxes_all points nets count boxes all so_far = grind arith

pub renewed_more : (points : List Point) (nets : List (List ℕ)) (touched : List ℕ) (count number : ℕ) (old new last : List NetBox) (found : NetBox) (total more : ℕ) → count < length touched → number ≡ get_or touched count 0 → 0 < length (net_at nets number)
    → IsRenewed points (net_at nets number) number new last found → more ≡ total + half_of found → AreRenewed points nets touched count old new total → AreRenewed points nets touched (count + 1) old last more
renewed_more points nets touched count number old new last found total more lt at some once sum so_far = record {
  long = once.long ∙ so_far.long;
  done = λ k below. elim (cases_eq (get_or touched k 0) number) [
    | inl e ↦ rw e exact
    | inr ne ↦ rw (once.others (get_or touched k 0) ne) (so_far.done k (earlier k below ne (cases_eq k count)))
  ];
  kept = λ other was. elim (cases_eq other number) [
    | inl e ↦ rw e exact
    | inr ne ↦ rw (once.others other ne) (so_far.kept other was)
  ];
  others = λ other off. once.others other (λ e. off count (omega arith) (sym at ∙ sym e)) ∙ so_far.others other (λ k below. off k (omega arith));
  total_is =
      (let reach = box_reach points (net_at nets number) found some once.exact in
      let all = sum_by_more (λ number. reach_of points (net_at nets number)) touched count 0 lt in
      let there : reach_of points (net_at nets number) ≡ reach_of points (net_at nets (get_or touched count 0)) = ap (λ n. reach_of points (net_at nets n)) at in
      omega (arith, sum, so_far.total_is, reach, all, there));
  small = omega (arith, sum, so_far.small);
}
  where
    earlier : (k : ℕ) → k < count + 1 → (get_or touched k 0 ≡ number → ⊥) → (k ≡ count) ⊎ (k ≡ count → ⊥) → k < count
    earlier k below ne (inl e) = absurd (ne (ap (λ j. get_or touched j 0) e ∙ sym at))
    earlier k below ne (inr other) = omega arith

    exact : IsBox points (net_at nets number) (box_at last number)
    exact = subst (IsBox points (net_at nets number)) (sym once.own) once.exact

-- the boxes of both lists are updated
pub both_renewed : (points : List Point) (nets : List (List ℕ)) (first second : List ℕ) (old mid new : List NetBox) (one two : ℕ) → AreRenewed points nets first (length first) old mid one → AreRenewed points nets second (length second) mid new two → AreBothRenewed points nets first second old new (one + two)
both_renewed points nets first second old mid new one two firsts seconds = record {
  long = seconds.long ∙ firsts.long;
  firsts = λ k lt. seconds.kept (get_or first k 0) (firsts.done k lt);
  seconds = seconds.done;
  others = λ number off not. seconds.others number not ∙ firsts.others number off;
  total_is = (grind (arith, take_all));
}

-- a block moved from one point to another, and the other block to where the first was
pub record AreExchanged (old new : List Point) (block other : ℕ) (from to : Point) : Type 0 where
  pub differs : block ≢ other
  pub stood : point_at old block ≡ from
  pub gone : point_at new block ≡ to
  pub back : point_at new other ≡ from
  pub kept : (k : ℕ) → k ≢ block → k ≢ other → point_at new k ≡ point_at old k

pub exchanged_points : (points : List Point) (block other : ℕ) (there : Point) → block < length points → other < length points → block ≢ other → AreExchanged points (points_after points block other there) block other (point_at points block) there
exchanged_points points block other there within inside differs = grind (arith, get_or-set_other, get_or-set_same, length-set)

pub exchanged_back : (old new : List Point) (block other : ℕ) (from to : Point) → point_at old other ≡ to → AreExchanged old new block other from to → AreExchanged old new other block to from
exchanged_back old new block other from to there are = grind arith

pub swapped : (f : Point → ℕ) → f no_point ≡ 0 → (old new : List Point) (block other : ℕ) (from to : Point) → AreExchanged old new block other from to → HaveSwapped (map f old) (map f new) block other (f from) (f to)
swapped f none old new block other from to are = grind (arith, coordinate_at)

abbrev pub x_of : Point → ℕ
x_of point = point.x

abbrev pub y_of : Point → ℕ
y_of point = point.y

-- on a net with both blocks or neither, each coordinate has as many blocks as before
pub same_each : (f : Point → ℕ) → f no_point ≡ 0 → (old new : List Point) (block other : ℕ) (from to : Point) (net : List ℕ) → AreExchanged old new block other from to → (0 < times_on other net → point_at old other ≡ to) → times_on block net ≡ times_on other net → (c : ℕ) → count_at (map f new) net c ≡ count_at (map f old) net c
same_each f none old new block other from to net are there alike =
    swapped_same (map f old) (map f new) block other (f from) (f to) net (swapped f none old new block other from to are) (λ some. coordinate_at f old other none ∙ ap f (there some)) alike

-- a box is unchanged if the numbers of blocks are
pub box_counts : (columns new_columns rows new_rows : ℕ → ℕ) (box : NetBox) → ((c : ℕ) → new_columns c ≡ columns c) → ((c : ℕ) → new_rows c ≡ rows c) → IsBoxBy columns rows box → IsBoxBy new_columns new_rows box
box_counts columns new_columns rows new_rows box across along is = search arith

box_same : (old new : List Point) (block other : ℕ) (from to : Point) (net : List ℕ) (box : NetBox) → AreExchanged old new block other from to → (0 < times_on other net → point_at old other ≡ to) → times_on block net ≡ times_on other net → IsBox old net box → IsBox new net box
box_same old new block other from to net box are there alike is = search (box_counts, same_each, arith)

-- a block arrived on a net that doesn't have the other
come_at : (f : Point → ℕ) → f no_point ≡ 0 → (old new : List Point) (block other : ℕ) (from to : Point) (net : List ℕ) → AreExchanged old new block other from to → (0 < times_on other net → point_at old other ≡ to) → times_on block net ≡ 1 → times_on other net ≤ 1 → HasCome (count_at (map f old) net) (count_at (map f new) net) (f from) (f to)
come_at f none old new block other from to net are there once few = record {
  arrived = counted (map f new) block (f to) net (coordinate_at f new block none ∙ ap f are.gone) (omega arith);
  kept = λ c inside some. kept c some (cases_eq (times_on other net) 0);
}
  where
    kept : (c : ℕ) → cond {A = ℕ} (eqb (f from) c) 1 0 < count_at (map f old) net c → (times_on other net ≡ 0) ⊎ (times_on other net ≡ 0 → ⊥) → 0 < count_at (map f new) net c
    kept c some (inl off) = (let each = (swapped_once (map f old) (map f new) block other (f from) (f to) net (swapped f none old new block other from to are) once off).each c in omega (arith, each, some))
    kept c some (inr on) = (let same = same_each f none old new block other from to net are there (omega arith) c in omega (arith, same, some))

-- nets are at least as long as the bounds that their boxes give for a move
pub least_after : (old new : List Point) (nets : List (List ℕ)) (touched : List ℕ) (block other : ℕ) (from to : Point) (boxes : List NetBox) → AreExchanged old new block other from to → AreNets (length old) nets → AreTouched nets block touched → AreBoxes old nets boxes
    → ((number : ℕ) → number < length nets → 0 < times_on other (net_at nets number) → point_at old other ≡ to) → from.x ≤ 65535 → from.y ≤ 65535 → to.x ≤ 65535 → to.y ≤ 65535
    → length_after boxes (sides_of from) (sides_of to) touched ≤ reached_length new nets touched
least_after old new nets touched block other from to boxes are lawful mine exact there from_x from_y to_x to_y =
    sum_le (λ number. half_after (box_at boxes number) (sides_of from) (sides_of to)) (λ number. reach_of new (net_at nets number)) touched
    (λ k lt. (let number = get_or touched k 0 in
    let within = mine.within k lt in
    reach_least old new (net_at nets number) (box_at boxes number) from to (exact.exact number within) from_x from_y to_x to_y
    (come_at x_of refl old new block other from to (net_at nets number) are (there number within) (mine.on k lt) (lawful.once number other within))
    (come_at y_of refl old new block other from to (net_at nets number) are (there number within) (mine.on k lt) (lawful.once number other within))))

-- a block is not on a net that isn't among the nets that it touches
pub none_on : (nets : List (List ℕ)) (who : ℕ) (touched : List ℕ) (number : ℕ) → AreTouched nets who touched → number < length nets → ((k : ℕ) → k < length touched → get_or touched k 0 ≢ number) → times_on who (net_at nets number) ≡ 0
none_on nets who touched number is lt off = grind arith

-- all boxes are exact once those of the two blocks' nets are updated
pub renewed_boxes : (old new : List Point) (nets : List (List ℕ)) (first second : List ℕ) (block other : ℕ) (from to : Point) (boxes told : List NetBox) (total : ℕ) → AreExchanged old new block other from to → AreTouched nets block first → AreTouched nets other second → AreBoxes old nets boxes
    → ((number : ℕ) → number < length nets → 0 < times_on other (net_at nets number) → point_at old other ≡ to) → AreBothRenewed new nets first second boxes told total → AreBoxes new nets told
renewed_boxes old new nets first second block other from to boxes told total are mine theirs exact there renewed = record {
  long = renewed.long ∙ exact.long;
  exact = λ number lt. by number lt (is_in first number) (is_in second number);
}
  where
    by : (number : ℕ) → number < length nets → ((k : ℕ) × (k < length first) × (get_or first k 0 ≡ number)) ⊎ ((k : ℕ) → k < length first → get_or first k 0 ≢ number) → ((k : ℕ) × (k < length second) × (get_or second k 0 ≡ number)) ⊎ ((k : ℕ) → k < length second → get_or second k 0 ≢ number) → IsBox new (net_at nets number) (box_at told number)
    by number lt (inl found) any = rw found.2 at (renewed.firsts found.0 found.1)
    by number lt (inr off) (inl found) = rw found.2 at (renewed.seconds found.0 found.1)
    by number lt (inr off) (inr not) =
        let alike : times_on block (net_at nets number) ≡ times_on other (net_at nets number) = none_on nets block first number mine lt off ∙ sym (none_on nets other second number theirs lt not) in
        rw (renewed.others number off not) (box_same old new block other from to (net_at nets number) (box_at boxes number) are (there number lt) alike (exact.exact number lt))

-- all boxes are exact again once those of the two blocks' nets are updated twice
pub renewed_again : (old new : List Point) (nets : List (List ℕ)) (first second : List ℕ) (boxes told last : List NetBox) (total again : ℕ) → AreBoxes old nets boxes → AreBothRenewed new nets first second boxes told total → AreBothRenewed old nets first second told last again → AreBoxes old nets last
renewed_again old new nets first second boxes told last total again exact once twice = record {
  long = twice.long ∙ once.long ∙ exact.long;
  exact = λ number lt. by number lt (is_in first number) (is_in second number);
}
  where
    by : (number : ℕ) → number < length nets → ((k : ℕ) × (k < length first) × (get_or first k 0 ≡ number)) ⊎ ((k : ℕ) → k < length first → get_or first k 0 ≢ number) → ((k : ℕ) × (k < length second) × (get_or second k 0 ≡ number)) ⊎ ((k : ℕ) → k < length second → get_or second k 0 ≢ number) → IsBox old (net_at nets number) (box_at last number)
    by number lt (inl found) any = rw found.2 at (twice.firsts found.0 found.1)
    by number lt (inr off) (inl found) = rw found.2 at (twice.seconds found.0 found.1)
    by number lt (inr off) (inr not) = rw (twice.others number off not, once.others number off not) (exact.exact number lt)

-- the nets of the two blocks grow by as much as all nets do
pub grows : (old new : List Point) (nets : List (List ℕ)) (first second : List ℕ) (block other : ℕ) (from to : Point) (allowance : ℕ) (boxes : List NetBox) → AreExchanged old new block other from to → AreNets (length old) nets → AreTouched nets block first → AreTouched nets other second → AreBoxes old nets boxes
    → ((number : ℕ) → number < length nets → 0 < times_on other (net_at nets number) → point_at old other ≡ to)
    → nat_le (reached_length new nets first + reached_length new nets second) (boxed_length boxes first + boxed_length boxes second + allowance) ≡ nat_le (sum_by (reach_of new) nets) (sum_by (reach_of old) nets + allowance)
grows old new nets first second block other from to allowance boxes are lawful mine theirs exact there =
    shifted (reached_length new nets first + reached_length new nets second) (boxed_length boxes first + boxed_length boxes second) (sum_by (reach_of new) nets) (sum_by (reach_of old) nets)
    (let all = lengths_grow nets (reach_of old) (reach_of new) first second mine.rising theirs.rising mine.within theirs.within alike same in
    let one = boxed_is old nets boxes first lawful exact mine.within in
    let two = boxed_is old nets boxes second lawful exact theirs.within in
    omega (arith, all, one, two))
  where
    shifted : (after before new_total old_total : ℕ) → new_total + before ≡ old_total + after → nat_le after (before + allowance) ≡ nat_le new_total (old_total + allowance)
    shifted after before new_total old_total e = grind (arith, nat_tests)

    stays : (number : ℕ) → number < length nets → times_on block (net_at nets number) ≡ times_on other (net_at nets number) → reach_of old (net_at nets number) ≡ reach_of new (net_at nets number)
    stays number lt alike =
        let box = box_at boxes number in
        let was = exact.exact number lt in
        sym (box_reach old (net_at nets number) box (lawful.some number lt) was)
        ∙ box_reach new (net_at nets number) box (lawful.some number lt) (box_same old new block other from to (net_at nets number) box are (there number lt) alike was)

    alike : (number : ℕ) → number < length nets → ((k : ℕ) × (k < length first) × (get_or first k 0 ≡ number)) → ((k : ℕ) × (k < length second) × (get_or second k 0 ≡ number)) → reach_of old (net_at nets number) ≡ reach_of new (net_at nets number)
    alike number lt a b =
        let one : times_on block (net_at nets number) ≡ 1 = rw a.2 at (mine.on a.0 a.1) in
        let two : times_on other (net_at nets number) ≡ 1 = rw b.2 at (theirs.on b.0 b.1) in
        stays number lt (one ∙ sym two)

    same : (number : ℕ) → number < length nets → ((k : ℕ) → k < length first → get_or first k 0 ≢ number) → ((k : ℕ) → k < length second → get_or second k 0 ≢ number) → reach_of old (net_at nets number) ≡ reach_of new (net_at nets number)
    same number lt off not = stays number lt (none_on nets block first number mine lt off ∙ sym (none_on nets other second number theirs lt not))
