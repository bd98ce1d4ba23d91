-- If blocks are on different sites of their kinds, they have different places of their kinds.
use Rattle.strip_place.proofs.Prelude.{◌≡◌, ◌≢◌, ℕ, ◌-◌, ◌⊎◌, inl, inr, ◌<◌, ◌≤◌, List, length, map, get_or, sym, ◌∙◌, subst, arith, Contains, AllPairs, get_or-map, get_or-append_right, get_or_append_left, length-map, Contains-get_or, cases_lt, cases_order, Cluster, PackedCircuit, blocks_of, Strip, Kind, Logic, Pad, Place, place_at, places_of, kind_of, task_of, sites_of, first_site, site_place, IsSiteFor, AreDistinct, AreOneToOne, ArePlaced, block_at}
use Rattle.strip_place.proofs.Starts.{length-sites_of}

-- a site's place is the one of its kind with the site's number in that kind
pub place_is : (strip : Strip) (kind : Kind) (site : ℕ) → IsSiteFor strip kind site → site_place strip site ≡ get_or (places_of strip kind) (site - first_site strip kind) (place_at 0 0 0)
unfolding sites_of
place_is strip kind site is = grind (arith, get_or_append_left, get_or-append_right)

among : (strip : Strip) (kind : Kind) (site : ℕ) → IsSiteFor strip kind site → Contains (places_of strip kind) (site_place strip site)
among strip kind site is = grind (arith, place_is strip kind site is, Contains-get_or (places_of strip kind) (site - first_site strip kind) (place_at 0 0 0) (omega (arith, is.from, is.below)))

-- two sites of one kind have different places
pub same_site : (strip : Strip) (kind : Kind) (site other : ℕ) → AllPairs (λ place next. place ≢ next) (places_of strip kind) → IsSiteFor strip kind site → IsSiteFor strip kind other → site_place strip site ≡ site_place strip other → site ≡ other
same_site strip kind site other apart is there same = by (cases_order site other)
  where
    places : get_or (places_of strip kind) (site - first_site strip kind) (place_at 0 0 0) ≡ get_or (places_of strip kind) (other - first_site strip kind) (place_at 0 0 0)
    places = sym (place_is strip kind site is) ∙ same ∙ place_is strip kind other there

    by : (site ≡ other) ⊎ ((site < other) ⊎ (other < site)) → site ≡ other
    by (inl e) = e
    by (inr (inl less)) = absurd (apart (site - first_site strip kind) (other - first_site strip kind) (place_at 0 0 0) (omega (arith, is.from)) (omega (arith, there.from, there.below)) places)
    by (inr (inr more)) = absurd (apart (other - first_site strip kind) (site - first_site strip kind) (place_at 0 0 0) (omega (arith, there.from)) (omega (arith, is.from, is.below)) (sym places))

module _ (strip : Strip) (apart : (kind : Kind) → AllPairs (λ place other. place ≢ other) (places_of strip kind)) (kinds_apart : (place : Place) → Contains (places_of strip Logic) place → Contains (places_of strip Pad) place → ⊥) where
  -- two sites of any kinds have different places
  one_site : (kind next : Kind) (site other : ℕ) → IsSiteFor strip kind site → IsSiteFor strip next other → site_place strip site ≡ site_place strip other → site ≡ other
  one_site Logic Logic site other is there same = same_site strip Logic site other (apart Logic) is there same
  one_site Pad Pad site other is there same = same_site strip Pad site other (apart Pad) is there same
  one_site Logic Pad site other is there same = absurd (kinds_apart (site_place strip other) (subst (Contains (places_of strip Logic)) same (among strip Logic site is)) (among strip Pad other there))
  one_site Pad Logic site other is there same = absurd (kinds_apart (site_place strip site) (subst (Contains (places_of strip Logic)) (sym same) (among strip Logic other there)) (among strip Pad site is))

  -- no two sites have the same place
  pub distinct_by : AreDistinct strip
  distinct_by site other lt within same = by (cases_lt site (length (places_of strip Logic))) (cases_lt other (length (places_of strip Logic)))
    where
      logic : (s : ℕ) → s < length (places_of strip Logic) → IsSiteFor strip Logic s
      logic s less = record { from = omega arith; below = omega (arith, less) }

      pad : (s : ℕ) → s < length (sites_of strip) → length (places_of strip Logic) ≤ s → IsSiteFor strip Pad s
      pad s less past = record { from = past; below = omega (arith, less, length-sites_of strip) }

      by : (site < length (places_of strip Logic)) ⊎ (length (places_of strip Logic) ≤ site) → (other < length (places_of strip Logic)) ⊎ (length (places_of strip Logic) ≤ other) → site ≡ other
      by (inl a) (inl b) = one_site Logic Logic site other (logic site a) (logic other b) same
      by (inl a) (inr b) = one_site Logic Pad site other (logic site a) (pad other within b) same
      by (inr a) (inl b) = one_site Pad Logic site other (pad site lt a) (logic other b) same
      by (inr a) (inr b) = one_site Pad Pad site other (pad site lt a) (pad other within b) same

  pub placed_by : (packed : PackedCircuit) (sites : List ℕ) → AreOneToOne strip (task_of packed).kinds sites → ArePlaced strip packed (map (site_place strip) sites)
  unfolding task_of
  placed_by packed sites standing = record {
    long = length-map sites (site_place strip) ∙ long;
    by_kind = λ block lt. subst (Contains (places_of strip (kind_of (block_at packed block)))) (sym (stands block lt)) (among strip (kind_of (block_at packed block)) (get_or sites block 0) (is_for block lt));
    one_to_one = λ block other lt within same.
        standing.apart block other (omega (arith, kinds_long)) (omega (arith, kinds_long))
        (one_site (kind_of (block_at packed block)) (kind_of (block_at packed other)) (get_or sites block 0) (get_or sites other 0) (is_for block lt) (is_for other within) (sym (stands block lt) ∙ same ∙ stands other within));
  }
    where
      kinds_long : length (map kind_of (blocks_of packed)) ≡ length (blocks_of packed)
      kinds_long = length-map (blocks_of packed) kind_of

      long : length sites ≡ length (blocks_of packed)
      long = standing.long ∙ kinds_long

      stands : (block : ℕ) → block < length (blocks_of packed) → get_or (map (site_place strip) sites) block (place_at 0 0 0) ≡ site_place strip (get_or sites block 0)
      stands block lt = get_or-map (site_place strip) sites block 0 (place_at 0 0 0) (omega (arith, long))

      is_for : (block : ℕ) → block < length (blocks_of packed) → IsSiteFor strip (kind_of (block_at packed block)) (get_or sites block 0)
      is_for block lt =
          subst (λ (kind : Kind). IsSiteFor strip kind (get_or sites block 0)) (get_or-map kind_of (blocks_of packed) block (Cluster 0) Logic lt)
          (standing.by_kind block (omega (arith, kinds_long)))
