-- What is found in a plane, and the best path so far.
use Rattle.plane_search.proofs.Prelude.{◌≡◌, ◌≢◌, ℕ, ◌+◌, ◌-◌, ◌^◌, ◌<◌, ◌≤◌, ◌⊎◌, List, [], ◌∷◌, get_or, map, arith, ◌∙◌, inl, inr, sym, ap, subst, Contains, nat_cmp, ordering_then, ordering_reverse, slice_cmp, Ordering, Less, Greater, nat_list_cmp_total, Contains-get_or, IsPath, cost_of, path_cmp, HasNoPath, Path, Family, IsPlane, IsPlaneBound, IsRivalBound, IsKnown, HoldsNothingLess, IsLeastOfTrack, AreStarts, places_of, AreListed, HoldsNone, HoldsNothingBeyond, IsNoLater, Improves, IsLeastOn, IsLeastIn, HasNoneWithin, AreNoCheaper, AreOrderedStarts, Start}
use Rattle.std.proofs.Common.{All}
use Rattle.plane_search.proofs.Order.{path_cmp_total, less_under, not_less_dearer, not_less_then}
use Rattle.plane_search.proofs.Embedding.{path_whole, cost_whole, cmp_whole}
use Rattle.plane_search.proofs.Sorting.{place_from}

-- ---- the starts of a plane

module _ {f : Family} {track most : ℕ} {starts : List Start} (are : AreStarts f track most starts) where
  pub among : (x : ℕ) → Contains (places_of starts) x → Contains (f.entries track) x
  among x c = let r = place_from starts x c in subst (λ (v : ℕ). Contains (f.entries track) v) r.2 (are.among r.0 r.1)

  pub among_path : (path : List ℕ) → IsPath (f.plane track) (places_of starts) f.exit path → IsPath (f.plane track) (f.entries track) f.exit path
  among_path [] p = p
  among_path (x ∷ xs) p = (among x p.0, p.1)

  -- the plane's nodes
  pub among_nodes : IsPlane f track → All (λ (x : ℕ). x < (f.plane track).count) (places_of starts)
  among_nodes plane k d l = omega (arith, plane.count, (plane.entries_there (get_or (places_of starts) k d) (among (get_or (places_of starts) k d) (Contains-get_or (places_of starts) k d l))).within)

  -- no path from them is cheaper than the plane's bound
  pub none_below : (bound : ℕ) → IsPlaneBound f track bound → AreNoCheaper (f.plane track) f.exit bound (places_of starts)
  none_below bound h start c rest leads = omega (arith, h (start ∷ rest) (among start c, leads))

  -- a path of the plane begins at one of them, or is dear
  cases : (path : List ℕ) → IsPath (f.plane track) (f.entries track) f.exit path → IsPath (f.plane track) (places_of starts) f.exit path ⊎ ((most < 2 ^ 64 - 1) × (most < cost_of (f.plane track) path))
  cases [] p = absurd p
  cases (x ∷ xs) p = elim (are.all x p.0) [
    | inl c ↦ inl (c, p.1)
    | inr far ↦ inr (far.few, far.more xs p.1)
  ]

  -- What is the least of those from the starts is the least of the plane, if no other can be less.
  pub on_all : (path : Path) → IsLeastOn f track (places_of starts) path → (path.cost ≤ most) ⊎ (2 ^ 64 - 1 ≤ most) → IsLeastOn f track (f.entries track) path
  on_all path on cheap = record {
    least = record {
      found = among_path path.nodes.items on.least.found;
      least = λ other o. elim (cases other o) [
        | inl p ↦ on.least.least other p
        | inr dear ↦ not_less_dearer (f.plane track) other path.nodes.items (omega (arith, dear.0, dear.1, on.cost, cheap))
      ];
    };
    cost = on.cost;
  }

  pub none_of_all : 2 ^ 64 - 1 ≤ most → HasNoPath (f.plane track) (places_of starts) f.exit → HoldsNone f track
  none_of_all all none path p = elim (cases path p) [
    | inl q ↦ none path q
    | inr dear ↦ absurd (omega (arith, all, dear.0))
  ]

-- Listed starts are ones that a search can use.
pub ordered : {f : Family} {track most : ℕ} {starts : List Start} → IsPlane f track → AreListed f track most starts → AreOrderedStarts (f.plane track) f.exit starts
ordered plane listed = record { within = among_nodes listed.are plane; bounded = listed.are.bounded; rising = listed.rising }

-- a limit below all paths
pub none_within : (f : Family) (track : ℕ) (most bound : ℕ) (starts : List ℕ) → AreNoCheaper (f.plane track) f.exit bound starts → most < bound → HasNoneWithin f track starts most
none_within f track most bound starts cheap l = grind arith

-- ---- a path of a plane, in the whole graph

module _ {f : Family} {track : ℕ} (plane : IsPlane f track) where
  pub numbered : (starts : List ℕ) → ((path : List ℕ) → IsPath (f.plane track) starts f.exit path → IsPath (f.plane track) (f.entries track) f.exit path) → (places nodes : Path) → IsLeastOn f track starts places → nodes.cost ≡ places.cost
      → nodes.nodes.items ≡ map (f.number track) places.nodes.items → IsLeastIn f track starts nodes
  numbered starts own places nodes on cost is =
      let p = own places.nodes.items on.least.found in
      let sum : nodes.cost ≡ cost_of f.whole (map (f.number track) places.nodes.items) = cost ∙ on.cost ∙ sym (cost_whole plane places.nodes.items p) in
      record {
        known = record {
          is_path = subst (λ (q : List ℕ). IsPath f.whole f.starts f.goal q) (sym is) (path_whole plane places.nodes.items p);
          cost = subst (λ (q : List ℕ). nodes.cost ≡ cost_of f.whole q) (sym is) sum;
        };
        least = λ path o. subst (λ (q : List ℕ). path_cmp f.whole (map (f.number track) path) q ≢ Less) (sym is)
            (λ less. on.least.least path o (sym (cmp_whole plane path places.nodes.items (own path o) p) ∙ less));
      }

  -- the least path of a plane
  pub of_track : track < f.tracks → (places nodes : Path) → IsLeastOn f track (f.entries track) places → nodes.cost ≡ places.cost → nodes.nodes.items ≡ map (f.number track) places.nodes.items → IsLeastOfTrack f track nodes
  of_track within places nodes on cost is =
      let least = numbered (f.entries track) (λ path p. p) places nodes on cost is in
      record { within = within; known = least.known; least = least.least }

  -- ---- what can be less

  module _ (path : Path) (known : IsKnown f path) where
    -- a path of the plane that is as dear, and doesn't come before
    not_less : (other : List ℕ) → IsPath (f.plane track) (f.entries track) f.exit other → path.cost ≤ cost_of (f.plane track) other
        → (path.cost ≡ cost_of (f.plane track) other → slice_cmp nat_cmp (map (f.number track) other) path.nodes.items ≢ Less)
        → path_cmp f.whole (map (f.number track) other) path.nodes.items ≢ Less
    not_less other o le h =
        not_less_then (cost_of f.whole (map (f.number track) other)) (cost_of f.whole path.nodes.items) (slice_cmp nat_cmp (map (f.number track) other) path.nodes.items)
        (omega (arith, le, known.cost, cost_whole plane other o)) (λ same. h (omega (arith, same, known.cost, cost_whole plane other o)))

    pub dearer : HoldsNothingBeyond f track path.nodes.items path.cost
    dearer other o more = not_less other o (omega (arith, more)) (λ e. absurd (omega (arith, e, more)))

    -- If the bound is that of rivals, nothing that costs as much is less.
    pub tied : (cost rival : ℕ) (nodes : List ℕ) → IsRivalBound f track nodes rival → IsNoLater cost nodes path → path.cost ≡ cost → path.cost < rival → (other : List ℕ) → IsPath (f.plane track) (f.entries track) f.exit other
        → path.cost ≤ cost_of (f.plane track) other → path_cmp f.whole (map (f.number track) other) path.nodes.items ≢ Less
    tied cost rival nodes bound later same l other o le =
        not_less other o le (λ e less.
        let first : slice_cmp nat_cmp (map (f.number track) other) nodes ≡ Less = less_under nat_list_cmp_total (map (f.number track) other) path.nodes.items nodes less (later.order same) in
        absurd (omega (arith, bound other o first, e, l)))

    pub no_tie : (cost rival most : ℕ) (nodes : List ℕ) → IsRivalBound f track nodes rival → IsNoLater cost nodes path → path.cost ≡ cost → path.cost < rival → path.cost ≤ most + 1 → HoldsNothingBeyond f track path.nodes.items most
    no_tie cost rival most nodes bound later same l low other o more = tied cost rival nodes bound later same l other o (omega (arith, low, more))

    pub nothing_less : (bound most : ℕ) → IsPlaneBound f track bound → most < bound → HoldsNothingBeyond f track path.nodes.items most → HoldsNothingLess f track path.nodes.items
    nothing_less bound most h l beyond other o = beyond other o (omega (arith, h other o, l))

  -- ---- one more plane

  module _ {most : ℕ} {starts : List Start} (are : AreStarts f track most starts) (path : Path) (known : IsKnown f path) (beyond : HoldsNothingBeyond f track path.nodes.items most) where
    pub none_found : HasNoneWithin f track (places_of starts) most → HoldsNothingLess f track path.nodes.items
    none_found none other o = elim (cases are other o) [
      | inl p ↦ beyond other o (none other p)
      | inr dear ↦ beyond other o dear.1
    ]

    module _ (found : Path) (least : IsLeastIn f track (places_of starts) found) where
      pub less_by : ordering_then (nat_cmp found.cost path.cost) (slice_cmp nat_cmp found.nodes.items path.nodes.items) ≡ path_cmp f.whole found.nodes.items path.nodes.items
      less_by = (λ i. ordering_then (nat_cmp (least.known.cost i) (known.cost i)) (slice_cmp nat_cmp found.nodes.items path.nodes.items))

      pub here_if_less : path_cmp f.whole found.nodes.items path.nodes.items ≡ Less → HoldsNothingLess f track found.nodes.items
      here_if_less under other o = elim (cases are other o) [
        | inl p ↦ least.least other p
        | inr dear ↦ λ e. beyond other o dear.1 ((path_cmp_total f.whole).trans (map (f.number track) other) found.nodes.items path.nodes.items e under)
      ]

      pub here_if_not : (path_cmp f.whole found.nodes.items path.nodes.items ≡ Less → ⊥) → HoldsNothingLess f track path.nodes.items
      here_if_not over other o = elim (cases are other o) [
        | inl p ↦ λ e. least.least other p (less_under (path_cmp_total f.whole) (map (f.number track) other) path.nodes.items found.nodes.items e over)
        | inr dear ↦ beyond other o dear.1
      ]

-- ---- the best path so far

less_not_greater : Less ≡ Greater → ⊥
less_not_greater e = cc

-- Nodes do not come before themselves.
pub not_before : (xs : List ℕ) → slice_cmp nat_cmp xs xs ≢ Less
not_before xs less = less_not_greater (sym less ∙ nat_list_cmp_total.antisymm xs xs ∙ ap ordering_reverse less)

-- the known path itself
pub is_no_later : (path : Path) → IsNoLater path.cost path.nodes.items path
is_no_later path = record { cheap = omega arith; order = λ e. not_before path.nodes.items }

-- The path stays.
pub stays : {f : Family} {track cost : ℕ} {nodes : List ℕ} (path : Path) → IsKnown f path → IsNoLater cost nodes path → HoldsNothingLess f track path.nodes.items → Improves f track cost nodes path path
stays path known later here = record { known = known; later = later; here = here; still = λ other h. h }

then_less : (a b : ℕ) (o : Ordering) → ordering_then (nat_cmp a b) o ≡ Less → (a ≤ b) × (a ≡ b → o ≡ Less)
then_less a b o e = grind arith

-- A lesser path takes its place.
pub gets_less : {f : Family} {track cost : ℕ} {nodes : List ℕ} (path found : Path) → IsKnown f found → IsNoLater cost nodes path → HoldsNothingLess f track found.nodes.items
    → ordering_then (nat_cmp found.cost path.cost) (slice_cmp nat_cmp found.nodes.items path.nodes.items) ≡ Less → path_cmp f.whole found.nodes.items path.nodes.items ≡ Less
    → Improves f track cost nodes path found
gets_less {f} {track} {cost} {nodes} path found known later here less under =
    let t = then_less found.cost path.cost (slice_cmp nat_cmp found.nodes.items path.nodes.items) less in
    record {
      known = known;
      later = record {
        cheap = omega (arith, t.0, later.cheap);
        order = λ e before.
            let same : found.cost ≡ path.cost = omega (arith, e, t.0, later.cheap) in
            later.order (omega (arith, same, e)) (nat_list_cmp_total.trans nodes found.nodes.items path.nodes.items before (t.1 same));
      };
      here = here;
      still = λ other h q o e. h q o ((path_cmp_total f.whole).trans (map (f.number other) q) found.nodes.items path.nodes.items e under);
    }
