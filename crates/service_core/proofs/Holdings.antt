-- Membership in lists of resources, also after a move by the strip's offset.
use Rattle.service_core.proofs.Prelude.{◌≡◌, ℕ, ◌-◌, List, [], ◌∷◌, get_or, map, ◌&&◌, ◌||◌, nat_le, Bool, true, false, Option, refl, sym, ap, ◌∙◌, subst, arith, All, if◌then◌else◌, nat_tests, false≢true, All-head, All-tail, list_any_at, Resource, has, is_same, moved_resource, AreOwned, Owners, owner_of, same_resource}

-- the resource moved a number of columns to the left
abbrev pub moved_left : ℕ → Resource → Resource
moved_left columns resource = record resource { x = resource.x - columns }

and_false : (a : Bool) → (a && false) ≡ false
and_false a = grind arith

same_moved : (o : ℕ) (r x : Resource) → is_same r (moved_resource o x) ≡ (nat_le o r.x && is_same (moved_left o r) x)
same_moved o r x = grind (arith, nat_tests)

pub has-moved : (o : ℕ) (xs : List Resource) (r : Resource) → has (map (moved_resource o) xs) r ≡ (nat_le o r.x && has xs (moved_left o r))
has-moved o [] r = sym (and_false (nat_le o r.x))
has-moved o (x ∷ xs) r = grind (arith, same_moved, has-moved o xs r)

-- lists with equal members have equal members after the move
pub moved_same : (o : ℕ) (xs ys : List Resource) → ((r : Resource) → has xs r ≡ has ys r) → (r : Resource) → has (map (moved_resource o) xs) r ≡ has (map (moved_resource o) ys) r
moved_same o xs ys same r = has-moved o xs r ∙ (ap (λ b. nat_le o r.x && b) (same (moved_left o r)) ∙ sym (has-moved o ys r))

-- what holds of all resources of a list holds of each member
pub has_all : (P : Resource → Type 0) (xs : List Resource) (r : Resource) → All P xs → has xs r ≡ true → P r
has_all P [] r all is = absurd (false≢true is)
has_all P (x ∷ xs) r all is =
    elim (is_same r x) as (λ b. is_same r x ≡ b → (b || has xs r) ≡ true → P r) [
      | true ↦ λ e h. subst P (sym (same_resource r x e)) (All-head P x xs all)
      | false ↦ λ e h. has_all P xs r (All-tail P x xs all) h
    ] refl is

is_same-self : (r : Resource) → is_same r r ≡ true
is_same-self r = grind (arith, nat_tests)

pub all_had : (P : Resource → Type 0) (xs : List Resource) → ((r : Resource) → has xs r ≡ true → P r) → All P xs
all_had P xs each = λ i d lt. each (get_or xs i d) (list_any_at (is_same (get_or xs i d)) xs i d lt (is_same-self (get_or xs i d)))

-- a change of owners depends only on the members of the list
pub owned_same : (old new : Owners) (xs ys : List Resource) (owner : Option ℕ) → ((r : Resource) → has xs r ≡ has ys r) → AreOwned old xs owner new → AreOwned old ys owner new
owned_same old new xs ys owner same owned = (owned.0, λ r. owned.1 r ∙ ap (λ b. if b then owner else owner_of old r) (same r))
