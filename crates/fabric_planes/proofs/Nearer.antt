-- Along an edge between wires, the distance from another wire falls by at most one.
use Rattle.fabric_planes.proofs.Prelude.{◌≡◌, ℕ, ◌+◌, ◌≤◌, ◌⊎◌, refl, arith, true, ◌==◌, ◌&&◌, and_from, cases_Bool, eqb-true, eq-eqb, Arch, Strip, NodeKind, ChanX, ChanY, Node, rank_of, IsWire, joins, crosses, is_next, west_of, east_of, south_of, north_of, apart_from, ends_apart, is_same_wire, wires_apart}

-- ---- where wires meet

pub record IsCrossing (across up : Node) : Type 0 where
  pub x : (up.x ≡ across.x) ⊎ (up.x + 1 ≡ across.x)
  pub y : (up.y ≡ across.y) ⊎ (up.y ≡ across.y + 1)

pub crossing : (across up : Node) → crosses across up ≡ true → IsCrossing across up
crossing across up h = grind arith

-- ---- distances

-- the distances of two wires' ends from a box: they differ by at most one
falls_level : (a b : Node) (w e s n : ℕ) → ((a.n == b.n) && ((a.y == b.y) && is_next a.x b.x)) ≡ true → apart_from ChanX a.x a.y w e s n ≤ 1 + apart_from ChanX b.x b.y w e s n
falls_level a b w e s n h = grind arith

falls_upright : (a b : Node) (w e s n : ℕ) → ((a.n == b.n) && ((a.x == b.x) && is_next a.y b.y)) ≡ true → apart_from ChanY a.x a.y w e s n ≤ 1 + apart_from ChanY b.x b.y w e s n
falls_upright a b w e s n h = grind arith

falls_crossing : (a b : Node) (w e s n : ℕ) → crosses a b ≡ true → apart_from ChanX a.x a.y w e s n ≤ 1 + apart_from ChanY b.x b.y w e s n
falls_crossing a b w e s n h = grind arith

falls_back : (a b : Node) (w e s n : ℕ) → crosses b a ≡ true → apart_from ChanY a.x a.y w e s n ≤ 1 + apart_from ChanX b.x b.y w e s n
falls_back a b w e s n h = grind arith

apart_falls : (arch : Arch) (strip : Strip) (ka kb : NodeKind) (a b : Node) (w e s n : ℕ) → IsWire ka → IsWire kb → joins arch strip ka kb a b ≡ true → apart_from ka a.x a.y w e s n ≤ 1 + apart_from kb b.x b.y w e s n
apart_falls arch strip ka kb a b w e s n wa wb h = grind (arith, falls_level, falls_crossing, falls_back, falls_upright)

touch : (arch : Arch) (strip : Strip) (ka kb : NodeKind) (a b : Node) → IsWire ka → IsWire kb → joins arch strip ka kb a b ≡ true → ends_apart ka a.x a.y kb b.x b.y ≡ 0
touch arch strip ka kb a b wa wb h = grind (arith, crossing)

-- ---- numbers of wires

-- the same wire, by the fields of its node
pub same_parts : (ka : NodeKind) (xa ya : ℕ) (kb : NodeKind) (xb yb : ℕ) → is_same_wire ka xa ya kb xb yb ≡ true → (ka ≡ kb) × (xa ≡ xb) × (ya ≡ yb)
same_parts ka xa ya kb xb yb h = grind (arith, eqb-true)

pub no_wires : (a : Node) → wires_apart a a ≡ 0
no_wires a = rw (and_from (rank_of a.kind == rank_of a.kind) ((a.x == a.x) && (a.y == a.y)) (eq-eqb (rank_of a.kind) (rank_of a.kind) refl) (and_from (a.x == a.x) (a.y == a.y) (eq-eqb a.x a.x refl) (eq-eqb a.y a.y refl))) refl

pub wires_fall : (arch : Arch) (strip : Strip) (a b c : Node) → IsWire a.kind → IsWire b.kind → joins arch strip a.kind b.kind a b ≡ true → wires_apart a c ≤ 1 + wires_apart b c
wires_fall arch strip a b c wa wb h = grind (arith, same_parts, cases_Bool (is_same_wire b.kind b.x b.y c.kind c.x c.y), touch arch strip a.kind b.kind a b wa wb h, apart_falls arch strip a.kind b.kind a b (west_of c.kind c.x) (east_of c.x) (south_of c.kind c.y) (north_of c.y) wa wb h)
