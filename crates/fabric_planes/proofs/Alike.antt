-- Nodes whose edges lead to the same places, but for a shift: wires of other tracks and columns,
-- and pins of other columns.
use Rattle.fabric_planes.proofs.Prelude.{◌≡◌, ℕ, ◌+◌, ◌-◌, ◌*◌, ◌<◌, ◌≤◌, ◌⊎◌, List, [], ◌∷◌, length, get_or, map, refl, sym, ap, ◌∙◌, subst, inl, inr, arith, true, ◌==◌, Contains, IsStrictlyIncreasing, le-leb, nat_tests, length-map, get_or-map, Contains-get_or, mul-le, map-map, Arch, Strip, NodeKind, Ipin, Node, IsWire, is_node, is_chan_y, is_together, joins, node_at_offset, Basis, IsBasis, graph_of, make_node, columns_right, joins_moved, IsNear, joins_reached, reached_near, same_rising, View, shown_ends, seen_from, row_of, base_of, Terminals, stride_of, place_of, shows}
use Rattle.fabric_planes.proofs.Found.{same_offset}
use Rattle.fabric_planes.proofs.PlaneEnds.{end_back, end_shown, shown_rise}
use Rattle.fabric_planes.proofs.Members.{in_map, map_in}
use Rattle.fabric_planes.proofs.Strips.{offset_few, together_parts}

-- ---- lists

-- numbers that are lowered and raised still rise
rises_moved : (xs : List ℕ) (b c : ℕ) → IsStrictlyIncreasing xs → ((v : ℕ) → Contains xs v → b ≤ v) → IsStrictlyIncreasing (map (λ v. v - b + c) xs)
rises_moved xs b c rises low k few =
    let f : ℕ → ℕ = λ (v : ℕ). v - b + c in
    let long : k + 1 < length xs = omega (arith, few, length-map xs f) in
    let first : b ≤ get_or xs k 0 = low (get_or xs k 0) (Contains-get_or xs k 0 (omega (arith, long))) in
    let less : get_or xs k 0 < get_or xs (k + 1) 0 = rises k long in
    omega (arith, get_or-map f xs k 0 0 (omega (arith, long)), get_or-map f xs (k + 1) 0 0 long, first, less)

raised_back : (c : ℕ) (xs : List ℕ) → map (λ v. v - c) (map (λ v. v + c) xs) ≡ xs
raised_back c [] = refl
raised_back c (x ∷ xs) = grind (arith, raised_back c xs)

-- ---- the geometry

-- a wire leads to wires and to input pins
leads_on : (arch : Arch) (strip : Strip) (ka kb : NodeKind) (a b : Node) → IsWire ka → joins arch strip ka kb a b ≡ true → IsWire kb ⊎ (kb ≡ Ipin)
leads_on arch strip ka kb a b w h = grind arith

pin_left : (ka kb : NodeKind) → (IsWire ka → ⊥) → (columns_right kb ka ≡ 0) ⊎ (is_chan_y kb ≡ true)
pin_left ka kb pin = grind arith

same_moved : (d m n : ℕ) → (m + d == n + d) ≡ (m == n)
same_moved d m n = grind (arith, nat_tests)

pub not_moved : (d : ℕ) (p : Node) → d ≡ 0 → node_at_offset d p ≡ p
not_moved d p e = let x : p.x + d ≡ p.x = omega (arith, e) in ap (λ (x : ℕ). make_node x p.kind p.y p.n) x

-- the wire of another track
abbrev pub on_track : ℕ → Node → Node
on_track n p = make_node p.x p.kind p.y n

-- the track of a wire that is shown
track_of : (strip : Strip) (t : Terminals) (track : ℕ) (kind : NodeKind) (p : Node) → IsWire kind → shows strip t track kind p ≡ true → p.n ≡ track
track_of strip t track kind p w s = grind arith

module _ {basis : Basis} (is : IsBasis basis) where
  abbrev node : ℕ → Node
  node = (graph_of basis).node

  -- what is shown at the ends of a node's edges
  pub record IsEnd (t : Terminals) (track i : ℕ) (b : Node) : Type 0 where
    pub there : is_node basis.arch basis.strip b ≡ true
    pub joined : joins basis.arch basis.strip (node i).kind b.kind (node i) b ≡ true
    pub shown : shows basis.strip t track b.kind b ≡ true

  -- the ends of both are at the same places, less a base for each
  pub record AreAlike (t u : Terminals) (k m i j b c : ℕ) : Type 0 where
    pub into : (p : Node) → IsEnd t k i p → (b ≤ place_of basis p) × (q : Node) × IsEnd u m j q × (place_of basis q + b ≡ place_of basis p + c)
    pub back : (q : Node) → IsEnd u m j q → (p : Node) × IsEnd t k i p × (place_of basis q + b ≡ place_of basis p + c)

  pub moved_row : (t u : Terminals) (k m i j b c : ℕ) → i < (graph_of basis).count → j < (graph_of basis).count → AreAlike t u k m i j b c → map (λ v. v + c) (map (λ v. v - b) (shown_ends basis t k i)) ≡ shown_ends basis u m j
  moved_row t u k m i j b c within after are =
      let xs = shown_ends basis t k i in
      let ys = shown_ends basis u m j in
      let f : ℕ → ℕ = λ (v : ℕ). v - b + c in
      let low : (v : ℕ) → Contains xs v → b ≤ v = λ v h.
      let s = end_shown is t i within k v h in
      subst (λ (w : ℕ). b ≤ w) s.is_at (are.into (node s.end) (record { there = s.there; joined = s.joined; shown = s.shown })).0 in
      map-map (λ v. v + c) (λ v. v - b) xs
      ∙ same_rising (map f xs) ys (rises_moved xs b c (shown_rise is t i within k) low) (shown_rise is u j after m)
      (λ v h.
      let found = map_in f v xs h in
      let s = end_shown is t i within k found.0 found.1 in
      let to = are.into (node s.end) (record { there = s.there; joined = s.joined; shown = s.shown }) in
      let e : place_of basis to.1 ≡ v = omega (arith, to.0, to.3, s.is_at, found.2) in
      subst (Contains ys) e (end_back is u j after m to.1 to.2.there to.2.joined to.2.shown))
      (λ v h.
      let s = end_shown is u j after m v h in
      let from = are.back (node s.end) (record { there = s.there; joined = s.joined; shown = s.shown }) in
      let p = from.0 in
      let low = (are.into p from.1).0 in
      let e : f (place_of basis p) ≡ v = omega (arith, low, from.2, s.is_at) in
      subst (Contains (map f xs)) e (in_map f (place_of basis p) xs (end_back is t i within k p from.1.there from.1.joined from.1.shown)))

  row_is : (view : View) (i : ℕ) → row_of basis view i ≡ map (λ v. v - base_of basis i) (shown_ends basis (seen_from view.node) view.track i)
  unfolding shown_ends
  row_is view i = refl

  pub wire_row_moved : (view : View) (u : Terminals) (m i j : ℕ) → i < (graph_of basis).count → j < (graph_of basis).count → AreAlike (seen_from view.node) u view.track m i j (base_of basis i) (base_of basis j)
      → map (λ v. v + base_of basis j) (row_of basis view i) ≡ shown_ends basis u m j
  wire_row_moved view u m i j within after are = ap (map (λ (v : ℕ). v + base_of basis j)) (row_is view i) ∙ moved_row (seen_from view.node) u view.track m i j (base_of basis i) (base_of basis j) within after are

  pub same_row : (view other : View) (i j : ℕ) → i < (graph_of basis).count → j < (graph_of basis).count → AreAlike (seen_from view.node) (seen_from other.node) view.track other.track i j (base_of basis i) (base_of basis j)
      → row_of basis view i ≡ row_of basis other j
  same_row view other i j within after are = cc (raised_back (base_of basis j) (row_of basis view i), wire_row_moved view (seen_from other.node) other.track i j within after are, row_is other j)

  -- ---- places

  near : (i : ℕ) (p : Node) → joins basis.arch basis.strip (node i).kind p.kind (node i) p ≡ true → IsNear (node i) p
  near i p h = reached_near (node i).kind p.kind (node i) p (joins_reached basis.arch basis.strip (node i).kind p.kind (node i) p refl refl h)

  base_low : (i : ℕ) → i < (graph_of basis).count → (p : Node) → IsNear (node i) p → base_of basis i ≤ place_of basis p
  base_low i within p n =
      let s : ℕ = stride_of basis in
      let m : ((node i).x + 1) * s ≤ (p.x + 2) * s = mul-le ((node i).x + 1) s (p.x + 2) s (omega (arith, n.left)) (omega arith) in
      let e : ((node i).x + 2) * s ≡ ((node i).x + 1) * s + s = grind arith in
      omega (arith, offset_few is i within, m, e)

  base_high : (i : ℕ) → 2 * stride_of basis ≤ place_of basis (node i)
  base_high i = let e : ((node i).x + 2) * stride_of basis ≡ (node i).x * stride_of basis + 2 * stride_of basis = grind arith in omega (arith, e)

  -- ---- columns

  node_fits : (d : ℕ) (p : Node) → p.x + d ≤ basis.strip.width → (1 ≤ p.x) ⊎ (is_chan_y p.kind ≡ true) → is_node basis.arch basis.strip (node_at_offset d p) ≡ is_node basis.arch basis.strip p
  node_fits d p few which = grind (arith, le-leb)

  pub node_moved : (d : ℕ) (p : Node) → 1 ≤ p.x → p.x + d ≤ basis.strip.width → is_node basis.arch basis.strip (node_at_offset d p) ≡ is_node basis.arch basis.strip p
  node_moved d p some few = node_fits d p few (inl some)

  pub place_moved : (d : ℕ) (p : Node) → place_of basis (node_at_offset d p) ≡ place_of basis p + d * stride_of basis
  place_moved d p = grind arith

  module _ (t u : Terminals) (k m i j d : ℕ) (within : i < (graph_of basis).count) (to : node j ≡ node_at_offset d (node i)) where
    IsJoined : Node → Type 0
    IsJoined p = joins basis.arch basis.strip (node i).kind p.kind (node i) p ≡ true

    Fits : Node → Type 0
    Fits p = is_node basis.arch basis.strip (node_at_offset d p) ≡ is_node basis.arch basis.strip p

    IsShownAlike : Node → Type 0
    IsShownAlike p = shows basis.strip u m p.kind (node_at_offset d p) ≡ shows basis.strip t k p.kind p

    joins_to : (p : Node) → joins basis.arch basis.strip (node j).kind p.kind (node j) (node_at_offset d p) ≡ joins basis.arch basis.strip (node i).kind p.kind (node i) p
    joins_to p = ap (λ (v : Node). joins basis.arch basis.strip v.kind p.kind v (node_at_offset d p)) to ∙ joins_moved basis.arch basis.strip d (node i).kind p.kind (node i) p

    -- a node in another column, where what it leads to is
    moved_alike : (d ≡ 0) ⊎ (1 ≤ (node i).x) → ((p : Node) → IsJoined p → Fits p) → ((p : Node) → IsJoined p → IsShownAlike p) → AreAlike t u k m i j (base_of basis i) (base_of basis j)
    unfolding IsJoined Fits IsShownAlike
    moved_alike some fits shown =
        let bases : base_of basis j ≡ base_of basis i + d * stride_of basis = omega (arith, ap (λ (v : Node). place_of basis v) to, place_moved d (node i), base_high i) in
        record {
          into = λ p e. (
            base_low i within p (near i p e.joined),
            node_at_offset d p,
            record { there = fits p e.joined ∙ e.there; joined = joins_to p ∙ e.joined; shown = shown p e.joined ∙ e.shown },
            omega (arith, place_moved d p, bases),
          );
          back = λ q e.
              let x : (node j).x ≡ (node i).x + d = ap (λ (v : Node). v.x) to in
              let p : Node = make_node (q.x - d) q.kind q.y q.n in
              let n = near j q e.joined in
              let enough : d ≤ q.x = elim some [ inl none ↦ omega (arith, none) | inr right ↦ omega (arith, n.left, x, right) ] in
              let same : q.x - d + d ≡ q.x = omega (arith, enough) in
              let is_q : node_at_offset d p ≡ q = ap (λ (x : ℕ). make_node x q.kind q.y q.n) same in
              let end = subst (IsEnd u m j) (sym is_q) e in
              let joined = sym (joins_to p) ∙ end.joined in
              (p, record { there = sym (fits p joined) ∙ end.there; joined = joined; shown = sym (shown p joined) ∙ end.shown }, omega (arith, place_moved d p, ap (λ (v : Node). place_of basis v) is_q, bases));
        }

    -- a pin in another column
    pub pins_alike : (IsWire (node i).kind → ⊥) → 1 ≤ (node i).x → (node i).x + d ≤ basis.strip.width → ((p : Node) → joins basis.arch basis.strip (node i).kind p.kind (node i) p ≡ true → shows basis.strip u m p.kind (node_at_offset d p) ≡ shows basis.strip t k p.kind p)
        → AreAlike t u k m i j (base_of basis i) (base_of basis j)
    unfolding IsJoined Fits IsShownAlike
    pins_alike pin some few shown = grind (arith, moved_alike, joins_reached, node_fits, pin_left)

  module _ (t u : Terminals) (track i j d : ℕ) (within : i < (graph_of basis).count) (wire : IsWire (node i).kind) (to : node j ≡ node_at_offset d (node i)) (sinks : u.sink ≡ node_at_offset d t.sink) where
    shows_moved : (kind : NodeKind) (p : Node) → IsWire kind ⊎ (kind ≡ Ipin) → shows basis.strip u track kind (node_at_offset d p) ≡ shows basis.strip t track kind p
    shows_moved kind p k = grind arith

    -- a wire in another column, where both have the same neighbours
    pub columns_alike : (d ≡ 0) ⊎ ((2 ≤ (node i).x) × ((node i).x + d < basis.strip.width)) → AreAlike t u track track i j (base_of basis i) (base_of basis j)
    unfolding IsJoined Fits IsShownAlike
    columns_alike inner = moved_alike t u track track i j d within to (elim inner [ inl none ↦ inl none | inr some ↦ inr (omega (arith, some.0)) ])
        (λ p h.
        let n = near i p h in
        elim inner [
          | inl none ↦ ap (is_node basis.arch basis.strip) (not_moved d p none)
          | inr some ↦ node_fits d p (omega (arith, n.right, some.1)) (inl (omega (arith, n.left, some.0)))
        ])
        (λ p h. shows_moved p.kind p (leads_on basis.arch basis.strip (node i).kind p.kind (node i) p wire h))

  -- ---- tracks

  module _ (t : Terminals) (track i j : ℕ) (within : i < (graph_of basis).count) (after : j < (graph_of basis).count) (few : track < basis.arch.tracks) (wire : IsWire (node i).kind) (first : (node i).n ≡ 0) (to : node j ≡ on_track track (node i)) where
    place_on : (n : ℕ) (p : Node) → IsWire p.kind → place_of basis (on_track n p) ≡ place_of basis p
    place_on n p w = ap (λ (o : ℕ). (p.x + 2) * stride_of basis + o) (same_offset basis p.kind p.x p.y n p.n w)

    -- a wire that meets the one meets the other on its track
    end_on : (u v : Terminals) (n m a b : ℕ) → node a ≡ on_track n (node i) → node b ≡ on_track m (node i) → m < basis.arch.tracks → (p : Node) → IsWire p.kind → IsEnd u n a p → IsEnd v m b (on_track m p)
    end_on u v n m a b from at low p w e = search arith

    own_track : node i ≡ on_track 0 (node i)
    own_track = ap (make_node (node i).x (node i).kind (node i).y) first

    -- a wire of another track that meets no pins
    pub tracks_alike : ((q : Node) → IsEnd t track j q → q.kind ≡ Ipin → ⊥) → AreAlike (seen_from (node_at_offset 2 (node i))) t 0 track i j (base_of basis i) (base_of basis j)
    tracks_alike no_pins =
        let view : Terminals = seen_from (node_at_offset 2 (node i)) in
        let same : base_of basis j ≡ base_of basis i = omega (arith, ap (λ (v : Node). place_of basis v) to, place_on track (node i) wire) in
        let kind : IsWire (node j).kind = subst (λ (v : Node). IsWire v.kind) (sym to) wire in
        record {
          into = λ p e.
              let n = near i p e.joined in
              elim (leads_on basis.arch basis.strip (node i).kind p.kind (node i) p wire e.joined) [
                | inl w ↦ (base_low i within p n, on_track track p, end_on view t 0 track i j own_track to few p w e, omega (arith, place_on track p w, same))
                | inr pin ↦
                    let together : is_together basis.strip p (node_at_offset 2 (node i)) ≡ true = subst (λ (k : NodeKind). shows basis.strip view 0 k p ≡ true) pin e.shown in
                    absurd (omega (arith, n.right, (together_parts basis.strip p (node_at_offset 2 (node i)) together).0))
              ];
          back = λ q e. elim (leads_on basis.arch basis.strip (node j).kind q.kind (node j) q kind e.joined) [
            | inl w ↦ (on_track 0 q, end_on t view track 0 j i to own_track is.arch.tracks.0 q w e, omega (arith, place_on 0 q w, same))
            | inr pin ↦ absurd (no_pins q e pin)
          ];
        }
