-- Hops by number.
use Rattle.layout_check.proofs.Prelude.{◌≡◌, ◌≢◌, ℕ, zero, suc, ◌+◌, ◌<◌, ◌≤◌, Bool, true, false, not, ◌&&◌, List, [], ◌∷◌, map, set, get_or, length, replicate, cond, eqb, sym, ap, refl, ◌∙◌, subst, arith, inl, inr, ◌⊎◌, All, Contains, MatchBool, count_by, below_more, cases_eq, false≢true, get_or-set_same, get_or-set_other, length-set, get_or_default, Contains-get_or, All-get_or, from_map, to_map, IsClear, IsSetOf, is_in, AreOneWay, AreReached, HasKept, IsClosed, Reaches, here, onward}
use Rattle.layout_check.proofs.Stamps.{added, after_adding, is_within, kept, one_less}

abbrev pub hop_at : List (ℕ × ℕ) → ℕ → ℕ × ℕ
hop_at hops k = get_or hops k (0, 0)

-- the first hops have been entered: each node that is entered has its predecessor
pub record AreEntered (hops : List (ℕ × ℕ)) (root count n : ℕ) (entered : List Bool) (parents : List ℕ) : Type 0 where
  pub long : length entered ≡ count
  pub room : length parents ≡ count
  pub forward : (k : ℕ) → k < n → (is_in entered (hop_at hops k).1 ≡ true) × (get_or parents (hop_at hops k).1 0 ≡ (hop_at hops k).0) × ((hop_at hops k).1 ≢ root)
  pub back : (node : ℕ) → is_in entered node ≡ true → Contains hops (get_or parents node 0, node)

-- the first hops have been followed
pub record AreFollowed (hops : List (ℕ × ℕ)) (n : ℕ) (old reached : List Bool) (has_grown : Bool) : Type 0 where
  pub long : length reached ≡ length old
  pub kept : HasKept old reached
  pub sound : (root : ℕ) → AreReached hops root old → AreReached hops root reached
  pub fewer : count_by not reached + cond has_grown 1 0 ≤ count_by not old
  pub closed : has_grown ≡ false → (k : ℕ) → k < n → is_in reached (hop_at hops k).0 ≡ true → is_in reached (hop_at hops k).1 ≡ true

-- one more hop that leads to a new node
pub followed_new : (hops : List (ℕ × ℕ)) (n : ℕ) (old reached : List Bool) (has_grown : Bool) → AreFollowed hops n old reached has_grown → n < length hops → (hop_at hops n).1 < length reached →
    is_in reached (hop_at hops n).0 ≡ true → is_in reached (hop_at hops n).1 ≡ false → AreFollowed hops (n + 1) old (set reached (hop_at hops n).1 true) true
followed_new hops n old reached has_grown so small within from to = record {
  long = length-set reached (hop_at hops n).1 true ∙ so.long;
  kept = λ node is. kept reached (hop_at hops n).1 node (so.kept node is);
  sound = λ root were node is. by root (so.sound root were) node (after_adding reached (hop_at hops n).1 node is);
  fewer = (let less = one_less reached (hop_at hops n).1 within to in let few = so.fewer in omega (arith, less, few));
  closed = λ not_so. absurd (false≢true (sym not_so));
}
  where
    by : (root : ℕ) → AreReached hops root reached → (node : ℕ) → (node ≡ (hop_at hops n).1) ⊎ (is_in reached node ≡ true) → Reaches hops root node
    by root all node (inl e) = subst (λ at. Reaches hops root at) (sym e) (onward (hop_at hops n).0 (hop_at hops n).1 (all (hop_at hops n).0 from) (Contains-get_or hops n (0, 0) small))
    by root all node (inr is) = all node is

-- one more hop that leads to no new node
pub followed_old : (hops : List (ℕ × ℕ)) (n : ℕ) (old reached : List Bool) (has_grown : Bool) → AreFollowed hops n old reached has_grown →
    (is_in reached (hop_at hops n).0 ≡ true → is_in reached (hop_at hops n).1 ≡ true) → AreFollowed hops (n + 1) old reached has_grown
followed_old hops n old reached has_grown so last = grind arith

-- one more hop
pub followed_more : (hops : List (ℕ × ℕ)) (n : ℕ) (old reached : List Bool) (has_grown : Bool) → AreFollowed hops n old reached has_grown → n < length hops → (hop_at hops n).1 < length reached →
    (adds : Bool) → adds ≡ (is_in reached (hop_at hops n).0 && not (is_in reached (hop_at hops n).1)) → (new : List Bool) → new ≡ cond adds (set reached (hop_at hops n).1 true) reached →
    (grown : Bool) → grown ≡ cond adds true has_grown → AreFollowed hops (n + 1) old new grown
followed_more hops n old reached has_grown so small within adds is new new_is grown grown_is =
    subst (λ marks. AreFollowed hops (n + 1) old marks grown) (sym new_is)
    (subst (λ g. AreFollowed hops (n + 1) old (cond adds (set reached (hop_at hops n).1 true) reached) g) (sym grown_is) (by adds is (is_in reached (hop_at hops n).0) refl (is_in reached (hop_at hops n).1) refl))
  where
    by : (adds : Bool) → adds ≡ (is_in reached (hop_at hops n).0 && not (is_in reached (hop_at hops n).1)) → (a : Bool) → is_in reached (hop_at hops n).0 ≡ a → (b : Bool) → is_in reached (hop_at hops n).1 ≡ b →
        AreFollowed hops (n + 1) old (cond adds (set reached (hop_at hops n).1 true) reached) (cond adds true has_grown)
    by true is true from false to = followed_new hops n old reached has_grown so small within from to
    by true is true from true to = absurd (false≢true (sym (is ∙ ap (λ x. x && not (is_in reached (hop_at hops n).1)) from ∙ ap not to)))
    by true is false from b to = absurd (false≢true (sym (is ∙ ap (λ x. x && not (is_in reached (hop_at hops n).1)) from)))
    by false is true from false to = absurd (false≢true (is ∙ ap (λ x. x && not (is_in reached (hop_at hops n).1)) from ∙ ap not to))
    by false is true from true to = followed_old hops n old reached has_grown so (λ _. to)
    by false is false from b to = followed_old hops n old reached has_grown so (λ yes. absurd (false≢true (sym from ∙ yes)))

-- all hops have been followed
pub followed_all : (hops : List (ℕ × ℕ)) (n : ℕ) (old reached : List Bool) (has_grown : Bool) → length hops ≤ n → AreFollowed hops n old reached has_grown → MatchBool has_grown (count_by not reached < count_by not old) (IsClosed hops reached)
followed_all hops n old reached true end so = let few = so.fewer in omega (arith, few)
followed_all hops n old reached false end so = λ a b c is.
    let at = so.closed refl c.0 (let small = c.1 in omega (arith, small, end)) in
    let e : hop_at hops c.0 ≡ (a, b) = sym (get_or_default hops c.0 (a, b) (0, 0) c.1) ∙ c.2 in
    subst (λ (hop : ℕ × ℕ). is_in reached hop.0 ≡ true → is_in reached hop.1 ≡ true) e at is

-- the nodes that hops lead to from the root are being found
pub record IsUnderWay (hops : List (ℕ × ℕ)) (root count : ℕ) (reached : List Bool) (has_grown : Bool) : Type 0 where
  pub long : length reached ≡ count
  pub root_in : is_in reached root ≡ true
  pub sound : AreReached hops root reached
  pub closed : has_grown ≡ false → IsClosed hops reached

-- the first numbers are in the set, and no others
pub record AreMarked (numbers : List ℕ) (count n : ℕ) (marks : List Bool) : Type 0 where
  pub long : length marks ≡ count
  pub forward : (k : ℕ) → k < n → is_in marks (get_or numbers k 0) ≡ true
  pub back : (number : ℕ) → is_in marks number ≡ true → Contains numbers number

-- the root alone
pub with_root : (hops : List (ℕ × ℕ)) (root : ℕ) (marks : List Bool) → IsClear marks → root < length marks → IsUnderWay hops root (length (set marks root true)) (set marks root true) true
with_root hops root marks clear small = record {
  long = refl;
  root_in = added marks root small;
  sound = λ node is. by node (after_adding marks root node is);
  closed = λ not_so. absurd (false≢true (sym not_so));
}
  where
    by : (node : ℕ) → (node ≡ root) ⊎ (is_in marks node ≡ true) → Reaches hops root node
    by node (inl e) = subst (λ at. Reaches hops root at) (sym e) here
    by node (inr is) = absurd (false≢true (sym (clear node) ∙ is))

-- the first nodes of the first hops are in the set, and no others
pub record AreStarts (hops : List (ℕ × ℕ)) (count n : ℕ) (marks : List Bool) : Type 0 where
  pub long : length marks ≡ count
  pub forward : (k : ℕ) → k < n → is_in marks (hop_at hops k).0 ≡ true
  pub back : (number : ℕ) → is_in marks number ≡ true → (k : ℕ) × (k < length hops) × ((hop_at hops k).0 ≡ number)

pub starts_all : (hops : List (ℕ × ℕ)) (count n : ℕ) (marks : List Bool) → length hops ≤ n → AreStarts hops count n marks → IsSetOf (map (λ hop. hop.0) hops) marks
starts_all hops count n marks end so = λ number. (
  (λ is. let q = so.back number is in subst (λ k. Contains (map (λ (hop : ℕ × ℕ). hop.0) hops) k) q.2 (to_map (λ (hop : ℕ × ℕ). hop.0) hops (hop_at hops q.0) (Contains-get_or hops q.0 (0, 0) q.1))),
  (λ c.
      let q = from_map (λ (hop : ℕ × ℕ). hop.0) hops number c in
      let e : hop_at hops q.1.0 ≡ q.0 = sym (get_or_default hops q.1.0 q.0 (0, 0) q.1.1) ∙ q.1.2 in
      subst (λ k. is_in marks k ≡ true) (ap (λ (hop : ℕ × ℕ). hop.0) e ∙ q.2) (so.forward q.1.0 (let small = q.1.1 in omega (arith, small, end)))),
)

-- the first nodes have been counted, once each
pub record AreUsed (nodes : List ℕ) (count n : ℕ) (old : List ℕ) (marks : List Bool) (uses : List ℕ) : Type 0 where
  pub marked : AreMarked nodes count n marks
  pub room : length uses ≡ length old
  pub counted : (k : ℕ) → k < length old → get_or uses k 0 ≡ get_or old k 0 + cond {A = ℕ} (is_in marks k) 1 0
