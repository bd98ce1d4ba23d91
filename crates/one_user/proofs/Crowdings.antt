-- The choice of the most overused nodes, one after another.
use Rattle.one_user.proofs.Prelude.{ℕ, ◌≡◌, ◌+◌, ◌<◌, ◌≤◌, ◌⊎◌, inl, inr, Bool, List, [], ◌∷◌, ◌++◌, Option, Some, None, length, arith, refl, subst, All-push, Contains-append_left, Contains-append_right, all_pairs_push, All, AllPairs, Contains, IfSome, nat_le, AreMostOverused, ComesBefore, IsAfterLast, IsNextMostOverused, IsOverused}

by_test : (a b : ℕ) (test : Bool) → nat_le a b ≡ test → (a ≤ b) ⊎ (b < a)
by_test a b test is = grind arith

pub le_or_lt : (a b : ℕ) → (a ≤ b) ⊎ (b < a)
le_or_lt a b = by_test a b (nat_le a b) refl

module _ (over : ℕ → ℕ) where
  before_trans : (a b c : ℕ) → ComesBefore over a b → ComesBefore over b c → ComesBefore over a c
  before_trans a b c h1 h2 = grind arith

  below_next : (node count : ℕ) → node < count + 1 → node ≤ count
  below_next node count l = omega (arith, l)

  -- ---- the search for the next node

  pub next_none : (last : Option ℕ) → IsNextMostOverused over 0 last None
  next_none last = λ node is after. absurd (omega (arith, is.0))

  -- ---- the nodes that are listed so far

  -- they are the first ones in order, up to the last
  pub record AreFirst (count : ℕ) (last : Option ℕ) (nodes : List ℕ) : Type 0 where
    pub within : IfSome last (λ node. node < count)
    pub overused : All (IsOverused over count) nodes
    pub in_order : AllPairs (ComesBefore over) nodes
    pub before : (node : ℕ) → IsAfterLast over last node → All (λ told. ComesBefore over told node) nodes
    pub others : (node : ℕ) → IsOverused over count node → Contains nodes node ⊎ IsAfterLast over last node

  pub first_none : (count : ℕ) → AreFirst count None []
  first_none count = grind arith

  pub first_more : (count : ℕ) (last : Option ℕ) (nodes : List ℕ) (next : ℕ) → AreFirst count last nodes → IsNextMostOverused over count last (Some next) → AreFirst count (Some next) (nodes ++ next ∷ [])
  first_more count last nodes next first is = record {
    within = is.0.0;
    overused = All-push (IsOverused over count) nodes next first.overused is.0;
    in_order = all_pairs_push (ComesBefore over) nodes next first.in_order (first.before next is.1);
    before = λ node after. All-push (λ told. ComesBefore over told node) nodes next (λ k d l. before_trans _ next node (first.before next is.1 k d l) after) after;
    others = λ node over_it. elim (first.others node over_it) [
      | inl told ↦ inl (Contains-append_left nodes (next ∷ []) node told)
      | inr after ↦ elim (is.2 node over_it after) [
        | inl e ↦ inl (subst (Contains (nodes ++ next ∷ [])) e (Contains-append_right nodes (next ∷ []) next (0, omega arith, refl)))
        | inr later ↦ inr later
      ]
    ];
  }

  -- no node is left
  pub all_told : (count limit : ℕ) (last : Option ℕ) (nodes : List ℕ) → AreFirst count last nodes → length nodes ≤ limit → IsNextMostOverused over count last None → AreMostOverused over count limit nodes
  all_told count limit last nodes first few none = grind arith

  -- as many as the limit are listed
  pub many_told : (count limit : ℕ) (last : Option ℕ) (nodes : List ℕ) → AreFirst count last nodes → length nodes ≡ limit → AreMostOverused over count limit nodes
  many_told count limit last nodes first many = grind arith
