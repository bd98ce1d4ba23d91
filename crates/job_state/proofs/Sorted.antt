-- A sorted list of resources is in node order.
use Rattle.job_state.proofs.Prelude.{ℕ, ◌≡◌, ◌+◌, ◌<◌, ◌⊎◌, true, List, get_or, arith, refl, sym, ap, ◌∙◌, lt-ltb, le-ltb, eq-eqb, IsSorted, Ordering, Less, Equal, is_lt, nat_cmp, ordering_then, false≢true, cmp-value as kind_cmp, Resource, ResourceKind, IsEarlier, resource_rank, IsInOrder}
use Rattle.rr_graph.specs.contracts.resource.ResourceOrd.TheImpl.{cmp-value as resource_cmp}

by_rank : (a b : ResourceKind) → kind_cmp.it a b ≡ nat_cmp (resource_rank a) (resource_rank b)
by_rank a b = grind arith

abbrev by_field : Resource → Resource → Ordering
by_field a b = ordering_then (nat_cmp a.x b.x) (ordering_then (kind_cmp.it a.kind b.kind) (ordering_then (nat_cmp a.y b.y) (nat_cmp a.n b.n)))

by_fields : (a b : Resource) → resource_cmp.it a b ≡ by_field a b
by_fields a b = refl

less : (m n : ℕ) → m < n → nat_cmp m n ≡ Less
less m n lt = rw (lt-ltb m n lt) refl

equal : (m n : ℕ) → m ≡ n → nat_cmp m n ≡ Equal
equal m n e = rw e (rw (le-ltb n n (omega arith), eq-eqb n n refl) refl)

lower : (m n : ℕ) (rest : Ordering) → (m < n) ⊎ ((m ≡ n) × (is_lt rest ≡ true)) → is_lt (ordering_then (nat_cmp m n) rest) ≡ true
lower m n rest h1 = grind arith

last_lower : (m n : ℕ) → m < n → is_lt (nat_cmp m n) ≡ true
last_lower m n lt = rw (less m n lt) refl

field_lower : (a b : Resource) → IsEarlier a b → is_lt (by_field a b) ≡ true
field_lower a b earlier = grind (arith, lower, last_lower)

pub in_order : (list : List Resource) → IsSorted resource_cmp.it list → IsInOrder list
in_order list sorted k d within earlier = false≢true (sym (sorted k d (omega arith) within) ∙ (ap is_lt (by_fields (get_or list (k + 1) d) (get_or list k d)) ∙ field_lower (get_or list (k + 1) d) (get_or list k d) earlier))
