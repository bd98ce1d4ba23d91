-- The order of keys.
use Rattle.kept_places.proofs.Prelude.{ℕ, ◌≡◌, Bool, true, false, List, [], ◌∷◌, refl, sym, ap, ◌∙◌, arith, Ordering, Less, Equal, Greater, is_lt, eq_by_cmp, nat_cmp, ordering_then, IsTotalOrder, slice_cmp, on_texts, nat_cmp-IsAntisymmetric, slice_cmp-IsAntisymmetric, BlockKey, key_order, kind_number, BlockKind, cmp-value as key_cmp, KeptPlace, entry_of, key_of}
use Rattle.cluster.specs.declared.block.BlockKey.{BlockKey as Key}
use Rattle.cluster.specs.contracts.block.BlockKindOrd.TheImpl.{cmp-value as kind_cmp}
use Rattle.kept_places.specs.contracts.table.KeptPlaceOrd.TheImpl.{cmp-value as place_cmp}

-- the kind and the name in one list
abbrev key_text : BlockKey → List ℕ
key_text key = kind_number key.kind ∷ key.name

pub key_total : IsTotalOrder key_order
key_total = on_texts key_text

same_kind : (a b : BlockKind) → kind_number a ≡ kind_number b → a ≡ b
same_kind a b e = grind arith

abbrev make : BlockKind → List ℕ → BlockKey
make kind name = record { kind = kind; name = name }

-- keys that compare as equal are equal
pub key_same : (a b : BlockKey) → key_order a b ≡ Equal → a ≡ b
key_same a b e =
    let texts : key_text a ≡ key_text b = slice_cmp-IsAntisymmetric nat_cmp-IsAntisymmetric (key_text a) (key_text b) e in
    let kinds : kind_number a.kind ≡ kind_number b.kind = cc in
    let names : a.name ≡ b.name = cc in
    ap (λ kind. make kind a.name) (same_kind a.kind b.kind kinds) ∙ ap (make b.kind) names

by_number : (a b : BlockKind) → kind_cmp.it a b ≡ nat_cmp (kind_number a) (kind_number b)
by_number a b = grind arith

lower : (a rest : Ordering) → a ≡ Less → is_lt (ordering_then a rest) ≡ true
lower a rest e = rw e refl

-- the program's order of keys is that of the specification
pub by_key : (a b : Key) → key_cmp.it a b ≡ key_order (key_of a) (key_of b)
by_key a b = ap (λ (r : Ordering). ordering_then r (slice_cmp nat_cmp a.name.now b.name.now)) (by_number a.kind b.kind)

-- an entry with a lesser key comes before one with a greater key
pub before : (a b : KeptPlace) → key_order (entry_of a).0 (entry_of b).0 ≡ Less → is_lt (place_cmp.it a b) ≡ true
before a b e = grind (arith, by_number)
