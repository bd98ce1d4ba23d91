-- Resources in node order, each once.
use Rattle.job_state.proofs.Prelude.{ℕ, ◌≡◌, ◌+◌, ◌-◌, ◌<◌, ◌≤◌, inl, inr, Bool, true, false, ◌||◌, List, [], ◌∷◌, ◌++◌, length, take, get_or, arith, refl, sym, ap, subst, ◌∙◌, AllPairs, cases_eq, nat_tests, length_push, get_or_push, get_or_default, take_all, list_any_more, list_any-append, list_any_at, all_pairs_push, ResourceKind, Resource, IsEarlier, has, is_same, resource_rank, IsInOrder, ListsAll}

same_kind : (a b : ResourceKind) → resource_rank a ≡ resource_rank b → a ≡ b
same_kind a b e = grind arith

abbrev make : ℕ → ResourceKind → ℕ → ℕ → Resource
make x kind y n = record { x = x; kind = kind; y = y; n = n }

of_parts : (a b : Resource) → a.x ≡ b.x → resource_rank a.kind ≡ resource_rank b.kind → a.y ≡ b.y → a.n ≡ b.n → a ≡ b
of_parts a b x kind y n = ap (λ t. make t a.kind a.y a.n) x ∙ (ap (λ t. make b.x t a.y a.n) (same_kind a.kind b.kind kind) ∙ (ap (λ t. make b.x b.kind t a.n) y ∙ ap (λ t. make b.x b.kind b.y t) n))

-- `is_same` is equality
pub same_is : (a b : Resource) → is_same a b ≡ true → a ≡ b
same_is a b is = of_parts a b (grind (arith, nat_tests)) (grind (arith, nat_tests)) (grind (arith, nat_tests)) (grind (arith, nat_tests))

pub is_itself : (a : Resource) → is_same a a ≡ true
is_itself a = grind (arith, nat_tests)

pub earlier_trans : (a b c : Resource) → IsEarlier a b → IsEarlier b c → IsEarlier a c
earlier_trans a b c p q = grind (arith, p, q)

-- of two resources, neither of which is before the other: they are equal
pub neither : (a b : Resource) → (IsEarlier a b → ⊥) → (IsEarlier b a → ⊥) → a ≡ b
neither a b p q = search arith

-- the part of the resources that is listed so far
pub record ListsBelow (sorted : List Resource) (index : ℕ) (list : List Resource) : Type 0 where
  pub in_order : AllPairs IsEarlier list
  pub exact : (resource : Resource) → has list resource ≡ has (take index sorted) resource
  pub some : 0 < index → 0 < length list
  pub few : length list ≤ index
  pub last : (d : Resource) → 0 < index → get_or list (length list - 1) d ≡ get_or sorted (index - 1) d

pub lists_none : (sorted : List Resource) → ListsBelow sorted 0 []
lists_none sorted = record { in_order = λ i j d less below. absurd (omega (arith, below)); exact = λ resource. refl; some = λ less. absurd (omega (arith, less)); few = omega arith; last = λ d less. absurd (omega (arith, less)) }

pub lists_all : (sorted list : List Resource) → ListsBelow sorted (length sorted) list → ListsAll sorted list
lists_all sorted list below = grind (arith, take_all)

-- all of a list in order are before whatever is after its last
before_next : (list : List Resource) (next : Resource) → AllPairs IsEarlier list → ((d : Resource) → 0 < length list → IsEarlier (get_or list (length list - 1) d) next) → (k : ℕ) (d : Resource) → k < length list → IsEarlier (get_or list k d) next
before_next list next pairs last k d less =
    elim (cases_eq k (length list - 1)) [
      | inl e ↦ subst (λ t. IsEarlier (get_or list t d) next) (sym e) (last d (omega (arith, less)))
      | inr other ↦ earlier_trans _ _ _ (pairs k (length list - 1) d (omega (arith, less, other)) (omega (arith, less))) (last d (omega (arith, less)))
    ]

or_none : (b c : Bool) → (b || (c || false)) ≡ (b || c)
or_none b c = grind arith

-- one more resource is listed, and one more is passed
has_more : (sorted list : List Resource) (index : ℕ) (d resource : Resource) → index < length sorted → has list resource ≡ has (take index sorted) resource → has (list ++ get_or sorted index d ∷ []) resource ≡ has (take (index + 1) sorted) resource
has_more sorted list index d resource less e = grind (arith, list_any-append, list_any_more (is_same resource) sorted index d less)

-- the next one is listed if it is the first, or if it is after the last
pub lists_more : (sorted list : List Resource) (index : ℕ) (d : Resource) → ListsBelow sorted index list → index < length sorted →
    (0 < index → IsEarlier (get_or sorted (index - 1) d) (get_or sorted index d)) → ListsBelow sorted (index + 1) (list ++ get_or sorted index d ∷ [])
lists_more sorted list index d below less behind =
    let next = get_or sorted index d in
    record {
      in_order = all_pairs_push IsEarlier list next below.in_order (before_next list next below.in_order
          (λ e some. (let positive : 0 < index = omega (arith, some, below.few) in
          let last : get_or list (length list - 1) e ≡ get_or sorted (index - 1) d = below.last e positive ∙ get_or_default sorted (index - 1) e d (omega (arith, less)) in
          subst (λ (t : Resource). IsEarlier t next) (sym last) (behind positive))));
      exact = λ resource. has_more sorted list index d resource less (below.exact resource);
      some = λ positive. omega (arith, length_push list next);
      few = omega (arith, length_push list next, below.few);
      last = λ e positive. get_or_push list next e (length (list ++ next ∷ []) - 1) (omega (arith, length_push list next)) ∙ (get_or_default sorted index d e less ∙ ap (λ k. get_or sorted k e) (omega arith));
    }

-- `or` with something already true changes nothing
or_there : (b c : Bool) → (c ≡ true → b ≡ true) → (b || c) ≡ b
or_there b c there = grind arith

-- and it is left out if it equals the last one listed
pub lists_same : (sorted list : List Resource) (index : ℕ) (d : Resource) → IsInOrder sorted → ListsBelow sorted index list → index < length sorted → 0 < index →
    (IsEarlier (get_or sorted (index - 1) d) (get_or sorted index d) → ⊥) → ListsBelow sorted (index + 1) list
lists_same sorted list index d up below less positive behind =
    let place : index - 1 + 1 ≡ index = omega (arith, positive) in
    let again : get_or sorted (index - 1) d ≡ get_or sorted index d =
    neither (get_or sorted (index - 1) d) (get_or sorted index d) behind (subst (λ k. IsEarlier (get_or sorted k d) (get_or sorted (index - 1) d) → ⊥) place (up (index - 1) d (omega (arith, less, positive)))) in
    record {
      in_order = below.in_order;
      exact = λ resource. below.exact resource ∙ sym (list_any_more (is_same resource) sorted index d less ∙ or_there (has (take index sorted) resource) (is_same resource (get_or sorted index d))
          (λ same. sym (below.exact resource) ∙ list_any_at (is_same resource) list (length list - 1) d (omega (arith, below.some positive))
          (ap (is_same resource) (below.last d positive ∙ again) ∙ same)));
      some = λ later. below.some positive;
      few = omega (arith, below.few);
      last = λ e later. below.last e positive ∙ (get_or_default sorted (index - 1) e d (omega (arith, less)) ∙ (again ∙ (get_or_default sorted index d e less ∙ ap (λ k. get_or sorted k e) (omega arith))));
    }
