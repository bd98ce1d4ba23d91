-- Owned nodes, their order and their strips.
use Rattle.device_lines.proofs.Prelude.{◌≡◌, ℕ, suc, ◌+◌, ◌<◌, ◌≤◌, List, [], ◌∷◌, map, get_or, find, Bool, true, false, not, cond, eqb, Option, Some, None, refl, sym, ap, ◌∙◌, arith, All, MatchBool, ◌&&◌, ◌||◌, ◌==◌, ◌⊎◌, nat_lt, nat_le, option_map, is_some, option_map_or, and_parts, eqb-true, false≢true, nat_tests, Resource, ResourceKind, Opin, Ipin, ChanX, ChanY, Pad, IsEarlier, resource_rank, OwnedResource, Tenancy, listed_of, owned_node, IsInStrip, IsOwners, is_chan_y, is_earlier, is_in_strip, is_owners}
use Rattle.std.specs.Prelude.{position}
use Rattle.device_lines.proofs.ListLemmas.{find_mapped, none_passes}

-- the test of node order, of columns, ranks, rows and numbers
four : (a b c d e f g h : ℕ) (t : Bool) →
    MatchBool t ((a < b) ⊎ ((a ≡ b) × ((c < d) ⊎ ((c ≡ d) × ((e < f) ⊎ ((e ≡ f) × (g < h))))))) (((a < b) ⊎ ((a ≡ b) × ((c < d) ⊎ ((c ≡ d) × ((e < f) ⊎ ((e ≡ f) × (g < h))))))) → ⊥) →
    t ≡ (nat_lt a b || ((a == b) && (nat_lt c d || ((c == d) && (nat_lt e f || ((e == f) && nat_lt g h))))))
four a b c d e f g h true is = grind (arith, nat_tests, is)
four a b c d e f g h false is = grind (arith, nat_tests, is)

pub earlier_is : (t : Bool) (x y : Resource) → MatchBool t (IsEarlier x y) (IsEarlier x y → ⊥) → t ≡ is_earlier x y
earlier_is t x y is = four x.x y.x (resource_rank x.kind) (resource_rank y.kind) x.y y.y x.n y.n t is

chan_y : (kind : ResourceKind) → is_chan_y kind ≡ true → kind ≡ ChanY
chan_y ChanY is = refl
chan_y ChanX is = absurd (false≢true is)
chan_y Opin is = absurd (false≢true is)
chan_y Ipin is = absurd (false≢true is)
chan_y Pad is = absurd (false≢true is)

strip_is : (node : Resource) (t : Tenancy) → is_in_strip node (listed_of t) ≡ true → IsInStrip t node
strip_is node t is = by (nat_lt t.offset node.x && nat_le node.x (t.offset + t.width)) refl is
  where
    by : (b : Bool) → (nat_lt t.offset node.x && nat_le node.x (t.offset + t.width)) ≡ b → (b || (is_chan_y node.kind && (node.x == t.offset))) ≡ true → IsInStrip t node
    by true e all =
        let parts = and_parts (nat_lt t.offset node.x) (nat_le node.x (t.offset + t.width)) e in
        let low : t.offset < node.x = grind (arith, nat_tests, parts.0) in
        let high : node.x ≤ t.offset + t.width = grind (arith, nat_tests, parts.1) in
        (omega (arith, low), high, λ same. absurd (omega (arith, low, same)))
    by false e all =
        let parts = and_parts (is_chan_y node.kind) (node.x == t.offset) all in
        let same : node.x ≡ t.offset = eqb-true node.x t.offset parts.1 in
        (omega (arith, same), omega (arith, same), λ at. chan_y node.kind parts.0)

owner_is : (ts : List Tenancy) (one : OwnedResource) → is_owners (map listed_of ts) (owned_node one) ≡ true → IsOwners ts one
owner_is [] one is = absurd (false≢true is)
owner_is (t ∷ ts) one is = by (eqb t.id one.owner) refl is (owner_is ts one)
  where
    by : (b : Bool) → eqb t.id one.owner ≡ b → option_map_or (is_in_strip one.node) (cond b (Some (listed_of t)) (find (λ l. l.id == one.owner) (map listed_of ts))) false ≡ true → (is_owners (map listed_of ts) (owned_node one) ≡ true → IsOwners ts one) → IsOwners (t ∷ ts) one
    by true e strip more = (t, ((0, omega arith, refl), eqb-true t.id one.owner e, strip_is one.node t strip))
    by false e rest more =
        let found = more rest in
        (found.0, ((suc found.1.0.0, omega (arith, found.1.0.1), found.1.0.2), found.1.1, found.1.2))

pub owners_are : (ts : List Tenancy) (ones : List OwnedResource) → None ≡ position (λ one. not (is_owners (map listed_of ts) (owned_node one))) ones → All (IsOwners ts) ones
owners_are ts ones none = λ k d inside. owner_is ts (get_or ones k d) (back (is_owners (map listed_of ts) (owned_node (get_or ones k d))) (none_passes (λ one. not (is_owners (map listed_of ts) (owned_node one))) ones none k d inside))
  where
    back : (b : Bool) → not b ≡ false → b ≡ true
    back true e = refl
    back false e = absurd (false≢true (sym e))

-- the owner's strip, by the tenancy that is found
pub owner_found : (ts : List Tenancy) (one : OwnedResource) (found : Option Tenancy) → found ≡ find (λ t. t.id == one.owner) ts → option_map_or (is_in_strip one.node) (option_map listed_of found) false ≡ is_owners (map listed_of ts) (owned_node one)
owner_found ts one found is = ap (λ o. option_map_or (is_in_strip one.node) o false) (ap (option_map listed_of) is ∙ sym (find_mapped (λ l. l.id == one.owner) listed_of ts))

pub found_some : (ts : List Tenancy) (id : ℕ) (found : Option Tenancy) → found ≡ find (λ t. t.id == id) ts → is_some found ≡ is_some (find (λ l. l.id == id) (map listed_of ts))
found_some ts id found is = by found is
  where
    lifted : (o : Option Tenancy) → is_some o ≡ is_some (option_map listed_of o)
    lifted None = refl
    lifted (Some t) = refl

    by : (o : Option Tenancy) → o ≡ find (λ t. t.id == id) ts → is_some o ≡ is_some (find (λ l. l.id == id) (map listed_of ts))
    by o e = lifted o ∙ ap is_some (ap (option_map listed_of) e ∙ sym (find_mapped (λ l. l.id == id) listed_of ts))
