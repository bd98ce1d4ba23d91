-- What the tables of distances tell of places.
use Rattle.fabric_planes.proofs.Prelude.{◌≡◌, ℕ, ◌+◌, ◌-◌, ◌*◌, ◌<◌, ◌≤◌, length, take, drop, min, ap, ◌∙◌, arith, ◌==◌, slice_index, lt-ltb, le-leb, le-ltb, div-mul-add, mod-mul-add, mul-le, get_or-map-range_with_len, length-map-range_with_len, get_or-take, get_or-drop, NodeKind, Source, Sink, Opin, Ipin, ChanX, ChanY, IsWire, Basis, make_node, Target, Level, Upright, Block, south_of, wires_by, MOST_FAR, wires_to, far_at, far_table, shift_of, IsPlaced, IsTarget, IsTargetAt, target_at, target_offset, index_from, band_of, level_at, upright_at, stride_of, in_column, place_of, place_count}
use Rattle.fabric_planes.proofs.Offsets.{place_below}

-- ---- a move of both wires

-- along the columns
up_moved : (ka kb : NodeKind) (x u k : ℕ) → IsWire ka → IsWire kb → u ≤ k → (south_of kb k - (x + k - u + 1)) + (south_of ka (x + k - u) - (k + 1)) ≡ (south_of kb u - (x + 1)) + (south_of ka x - (u + 1))
up_moved ka kb x u k wa wb l = grind arith

same_moved : (x u k : ℕ) → u ≤ k → (x + k - u == k) ≡ (x == u)
same_moved x u k l = grind arith

pub wires_moved : (ka kb : NodeKind) (x y u v k b : ℕ) → IsWire ka → IsWire kb → u ≤ k → v ≤ b → wires_by ka (x + k - u) (y + b - v) kb k b ≡ wires_by ka x y kb u v
wires_moved ka kb x y u v k b wa wb lu lv = grind (arith, same_moved, up_moved)

to_moved : (target : Target) (ka : NodeKind) (x y u v k b : ℕ) → IsWire ka → u ≤ k → v ≤ b → IsPlaced target u v → wires_to target ka (x + k - u) (y + b - v) k b ≡ wires_to target ka x y u v
to_moved Level ka x y u v k b wa lu lv p = wires_moved ka ChanX x y u v k b wa tt lu lv
to_moved Upright ka x y u v k b wa lu lv p = wires_moved ka ChanY x y u v k b wa tt lu lv
to_moved Block ka x y u v k b wa lu lv p = grind (arith, wires_moved ka ChanX x y u v k b wa tt lu lv, wires_moved ka ChanX x y u (v - 1) k (b - 1) wa tt lu (omega (arith, lv)), wires_moved ka ChanY x y u v k b wa tt lu lv, wires_moved ka ChanY x y (u - 1) v (k - 1) b wa tt (omega (arith, lu)) lv)

-- ---- entries

-- the offset at which the entries for wires of this direction begin
abbrev row_of : NodeKind → ℕ → ℕ
row_of ChanX band = band
row_of _ band = 3 * band

entry_moved : (target : Target) (ka : NodeKind) (x y u v k band : ℕ) → IsWire ka → u ≤ k → y + 2 ≤ band → v < band → IsPlaced target u v → far_at target k band (x + k - u) (y + row_of ka band - v) ≡ min MOST_FAR (wires_to target ka x y u v)
entry_moved target ka x y u v k band w lu ly lv p = grind (arith, lt-ltb, to_moved, le-ltb)

entry_at : (target : Target) (k band stride c r : ℕ) → r < stride → c ≤ 2 * k → slice_index (far_table target k band stride) (c * stride + r) ≡ far_at target k band c r
entry_at target k band stride c r lr lc = grind (arith, get_or-map-range_with_len, div-mul-add, mod-mul-add, mul-le (c + 1) stride (2 * k + 1) stride (omega (arith, lc)) (omega arith), div-mul-add c stride r lr, mod-mul-add c stride r lr)

module _ (basis : Basis) where
  abbrev K : ℕ
  K = basis.strip.width + 3

  -- the offset of a wire among those of its direction
  abbrev start_of : NodeKind → ℕ
  start_of ChanX = level_at basis
  start_of _ = upright_at basis

  columns : (x u : ℕ) → u + 1 ≤ K → (x + 2) * stride_of basis + K * stride_of basis ≡ (x + K - u) * stride_of basis + (u + 2) * stride_of basis
  columns x u lu =
      let s : ℕ = stride_of basis in
      let n : x + 2 + K ≡ x + K - u + (u + 2) = omega (arith, lu) in
      let e : (x + 2) * s + K * s ≡ (x + 2 + K) * s = grind arith in
      let f : (x + K - u + (u + 2)) * s ≡ (x + K - u) * s + (u + 2) * s = grind arith in
      e ∙ (ap (λ (v : ℕ). v * s) n ∙ f)

  target_few : (target : Target) → target_offset basis target + band_of basis ≤ stride_of basis
  target_few target = grind arith

  pub target_low : (target : Target) (u v : ℕ) → IsTarget basis target u v → target_at basis target u v < place_count basis
  target_low target u v t = place_below basis u (target_offset basis target + v) t.x (omega (arith, target_few target, t.y))

  -- the target's place is below the column that the entry of place 0 is for
  below : (u : ℕ) → u + 3 ≤ K → (u + 3) * stride_of basis ≤ K * stride_of basis
  below u lu = mul-le (u + 3) (stride_of basis) K (stride_of basis) lu (omega arith)

  next : (u : ℕ) → (u + 3) * stride_of basis ≡ (u + 2) * stride_of basis + stride_of basis
  next u = grind arith

  index_is : (target : Target) (ka : NodeKind) (x y u v : ℕ) → IsWire ka → u + 3 ≤ K → y + 2 ≤ band_of basis → v < band_of basis
      → index_from basis target (in_column basis x (start_of ka + y)) (target_at basis target u v) ≡ (x + K - u) * stride_of basis + (y + row_of ka (band_of basis) - v)
  index_is target Source x y u v w lu ly lv = absurd w
  index_is target Sink x y u v w lu ly lv = absurd w
  index_is target Opin x y u v w lu ly lv = absurd w
  index_is target Ipin x y u v w lu ly lv = absurd w
  index_is Level ChanX x y u v w lu ly lv = let e = columns x u (omega (arith, lu)) in omega (arith, e, below u lu, next u, ly, lv)
  index_is Level ChanY x y u v w lu ly lv = let e = columns x u (omega (arith, lu)) in omega (arith, e, below u lu, next u, ly, lv)
  index_is Upright ChanX x y u v w lu ly lv = let e = columns x u (omega (arith, lu)) in omega (arith, e, below u lu, next u, ly, lv)
  index_is Upright ChanY x y u v w lu ly lv = let e = columns x u (omega (arith, lu)) in omega (arith, e, below u lu, next u, ly, lv)
  index_is Block ChanX x y u v w lu ly lv = let e = columns x u (omega (arith, lu)) in omega (arith, e, below u lu, next u, ly, lv)
  index_is Block ChanY x y u v w lu ly lv = let e = columns x u (omega (arith, lu)) in omega (arith, e, below u lu, next u, ly, lv)

  row_few : (ka : NodeKind) (y v : ℕ) → IsWire ka → y + 2 ≤ band_of basis → y + row_of ka (band_of basis) - v < stride_of basis
  row_few ka y v w ly = grind arith

  -- the table tells the distance of each wire
  pub far_told : (target : Target) (ka : NodeKind) (x y n u v : ℕ) → IsWire ka → x ≤ basis.strip.width → y ≤ basis.strip.rows → u ≤ basis.strip.width → v ≤ basis.strip.rows + 1 → IsPlaced target u v
      → slice_index (far_table target K (band_of basis) (stride_of basis)) (index_from basis target (place_of basis (make_node x ka y n)) (target_at basis target u v)) ≡ min MOST_FAR (wires_to target ka x y u v)
  far_told target ka x y n u v w lx ly lu lv p = grind (arith, entry_at, row_few, entry_moved, index_is target ka x y u v w (omega (arith, lu)) (omega (arith, ly)) (omega (arith, lv)), entry_at target K (band_of basis) (stride_of basis) (x + K - u) (y + row_of ka (band_of basis) - v) (row_few ka y v w (omega (arith, ly))) (omega (arith, lx)), row_few ka y v w (omega (arith, ly)), entry_moved target ka x y u v K (band_of basis) w (omega (arith, lu)) (omega (arith, ly)) (omega (arith, lv)) p)

  -- the part of the table for a target's place
  pub part_within : (target : Target) (place first : ℕ) → place < place_count basis → first ≡ place_count basis + shift_of target (band_of basis) - place → first + place_count basis ≤ length (far_table target K (band_of basis) (stride_of basis))
  part_within target place first b e = grind (arith, length-map-range_with_len)

  pub part_told : (target : Target) (place first count u v : ℕ) (ka : NodeKind) (x y n : ℕ) → first ≡ place_count basis + shift_of target (band_of basis) - place → count ≡ place_count basis → IsTargetAt basis target place u v
      → IsWire ka → x ≤ basis.strip.width → y ≤ basis.strip.rows → place_of basis (make_node x ka y n) < place_count basis
      → slice_index (take (first + count - first) (drop first (far_table target K (band_of basis) (stride_of basis)))) (place_of basis (make_node x ka y n)) ≡ min MOST_FAR (wires_to target ka x y u v)
  part_told target place first count u v ka x y n e many t w lx ly b = grind (arith, get_or-take, get_or-drop, far_told target ka x y n u v w lx ly t.x t.y t.placed)

  -- the table tells nothing of the places of pins
  pin_index : (target : Target) (x u v o : ℕ) → u + 3 ≤ K → v < band_of basis → o < level_at basis
      → (x + K - u - 1) * stride_of basis + (o + 5 * band_of basis - v) ≡ index_from basis target (in_column basis x o) (target_at basis target u v)
  pin_index target x u v o lu lv lo =
      let s : ℕ = stride_of basis in
      let n : x + K - u ≡ x + K - u - 1 + 1 = omega (arith, lu) in
      let f : (x + K - u - 1 + 1) * s ≡ (x + K - u - 1) * s + s = grind arith in
      let e : (x + 2) * s + K * s ≡ (x + K - u - 1) * s + s + (u + 2) * s = columns x u (omega (arith, lu)) ∙ ap (λ (v : ℕ). v + (u + 2) * s) (ap (λ (v : ℕ). v * s) n ∙ f) in
      by_target target e
    where
      by_target : (target : Target) → (x + 2) * stride_of basis + K * stride_of basis ≡ (x + K - u - 1) * stride_of basis + stride_of basis + (u + 2) * stride_of basis
          → (x + K - u - 1) * stride_of basis + (o + 5 * band_of basis - v) ≡ index_from basis target (in_column basis x o) (target_at basis target u v)
      by_target Level e = omega (arith, e, below u lu, next u, lv, lo)
      by_target Upright e = omega (arith, e, below u lu, next u, lv, lo)
      by_target Block e = omega (arith, e, below u lu, next u, lv, lo)

  pub nothing_told : (target : Target) (x u v o : ℕ) → x ≤ basis.strip.width → u ≤ basis.strip.width → v ≤ basis.strip.rows + 1 → o + band_of basis < level_at basis
      → slice_index (far_table target K (band_of basis) (stride_of basis)) (index_from basis target (in_column basis x o) (target_at basis target u v)) ≡ 0
  nothing_told target x u v o lx lu lv lo = grind (arith, entry_at, le-leb, pin_index target x u v o (omega (arith, lu)) (omega (arith, lv)) (omega (arith, lo)), entry_at target K (band_of basis) (stride_of basis) (x + K - u - 1) (o + 5 * band_of basis - v) (omega (arith, lo)) (omega (arith, lx)), le-leb (4 * band_of basis) (o + 5 * band_of basis - v) (omega (arith, lv)))

  pub part_nothing : (target : Target) (place first count u v x o : ℕ) → first ≡ place_count basis + shift_of target (band_of basis) - place → count ≡ place_count basis → IsTargetAt basis target place u v
      → x ≤ basis.strip.width → o + band_of basis < level_at basis → in_column basis x o < place_count basis
      → slice_index (take (first + count - first) (drop first (far_table target K (band_of basis) (stride_of basis)))) (in_column basis x o) ≡ 0
  part_nothing target place first count u v x o e many t lx lo b = grind (arith, get_or-take, get_or-drop, nothing_told target x u v o lx t.x t.y lo)
