-- The nodes of a device are in a small box, so a list of them in node order is short.
use Rattle.device_law.proofs.Prelude.{◌≡◌, ℕ, zero, suc, ◌+◌, ◌*◌, ◌^◌, ◌<◌, ◌≤◌, true, List, [], ◌∷◌, length, refl, sym, ap, ◌∙◌, subst, arith, All, AllPairs, and_parts, leb-true, ltb-true, All-head, All-tail, Resource, ResourceKind, IsEarlier, resource_rank, Owned, Device, IsDevice, is_within, is_on, is_on_by, is_pad_on, is_pin_on, size_of}
use Rattle.std.specs.Prelude.{nat_le}
use Rattle.device_law.proofs.Each.{Each, each-weaken}

pub record InBox (r : Resource) : Type 0 where
  pub column : r.x ≤ 256
  pub row : r.y ≤ 65
  pub number : r.n < 256

module _ (device : Device) (known : IsDevice device) where
  within : (place count most : ℕ) → count ≤ most → is_within place count ≡ true → place ≤ most
  within place count most few is = let both = and_parts (nat_le 1 place) (nat_le place count) is in let high = leb-true place count both.1 in omega (arith, high, few)

  pad_in : (r : Resource) → is_pad_on (size_of device known) r ≡ true → InBox r
  pad_in r is = grind arith

  pin_in : (r : Resource) → is_pin_on (size_of device known) r ≡ true → InBox r
  pin_in r is = grind (arith, pad_in, ltb-true)

  kind_in : (kind : ResourceKind) (r : Resource) → is_on_by kind (size_of device known) r ≡ true → InBox r
  kind_in kind r is = grind (arith, pin_in, pad_in)

  pub in_box : (r : Resource) → is_on (size_of device known) r ≡ true → InBox r
  in_box r is = kind_in r.kind r is

-- the number of a node in the box
abbrev code : Resource → ℕ
code r = ((r.x * 5 + resource_rank r.kind) * 66 + r.y) * 256 + r.n

rank_few : (kind : ResourceKind) → resource_rank kind ≤ 4
rank_few kind = grind arith

code_few : (r : Resource) → InBox r → code r < 21711360
code_few r box = let rank = rank_few r.kind in let x = box.column in let y = box.row in let n = box.number in omega (arith, rank, x, y, n)

code_rises : (a b : Resource) → InBox a → IsEarlier a b → code a < code b
code_rises a b box h2 = grind arith

pub each_of : {X : Type 0} (P : X → Type 0) (xs : List X) → All P xs → Each P xs
each_of P [] all = tt
each_of P (x ∷ xs) all = (All-head P x xs all, each_of P xs (All-tail P x xs all))

rising : (owners : List Owned) (low : ℕ) → low ≤ 21711360 → AllPairs (λ a b. IsEarlier a.resource b.resource) owners → Each (λ (o : Owned). InBox o.resource) owners → Each (λ (o : Owned). low ≤ code o.resource) owners → low + length owners ≤ 21711360
rising [] low few order boxes above = omega (arith, few)
rising (o ∷ owners) low few order boxes above =
    let here = code_few o.resource boxes.0 in
    let mine = above.0 in
    let later : Each (λ (p : Owned). IsEarlier o.resource p.resource) owners = each_of (λ (p : Owned). IsEarlier o.resource p.resource) owners (λ k d within. order zero (suc k) d (omega arith) (omega (arith, within))) in
    let rest = rising owners (low + 1) (omega (arith, here, mine)) (λ i j d below within. order (suc i) (suc j) d (omega (arith, below)) (omega (arith, within))) boxes.1
    (each-weaken (λ (p : Owned). IsEarlier o.resource p.resource) (λ (p : Owned). low + 1 ≤ code p.resource) (λ p after. let more = code_rises o.resource p.resource boxes.0 after in omega (arith, more, mine)) owners later) in
    omega (arith, rest)

none_below : (owners : List Owned) → Each (λ (o : Owned). 0 ≤ code o.resource) owners
none_below [] = tt
none_below (o ∷ owners) = (omega arith, none_below owners)

pub owners_few : (owners : List Owned) → AllPairs (λ a b. IsEarlier a.resource b.resource) owners → Each (λ (o : Owned). InBox o.resource) owners → length owners < 2 ^ 32
owners_few owners order boxes = let few = rising owners 0 (omega arith) order boxes (none_below owners) in omega (arith, few)
