-- The sites of kept places.
use Rattle.strip_place.proofs.Prelude.{ℕ, zero, suc, ◌≡◌, ◌≢◌, ◌+◌, ◌<◌, inl, inr, Bool, true, false, not, cond, List, [], ◌∷◌, Option, Some, None, length, map, get_or, slice_get, sym, ap, ◌∙◌, arith, AllPairs, Contains, option_map, position_or_len, cases_order, nat_tests, get_or-map, length-map, get_or_from_slice_get, slice_get-get_or, slice_get_within, PackedCircuit, blocks_of, BlockKey, key_of, keys_of, Block, Cluster, BlockKind, Strip, Kind, Place, kind_of, place_at, places_of, KeptPlaces, kept_place, AreKeptOn, kind_for, is_same_place, kept_sites_of, site_of, IsSiteFor, first_site, site_place, AreKeptSites}
use Rattle.strip_place.proofs.Standing.{place_is}

pub same_parts : (a b : Place) → a.x ≡ b.x → a.y ≡ b.y → a.subblock ≡ b.subblock → a ≡ b
same_parts a b x y n = ap (λ t. place_at t a.y a.subblock) x ∙ (ap (λ t. place_at b.x t a.subblock) y ∙ ap (place_at b.x b.y) n)

pub is_itself : (a : Place) → is_same_place a a ≡ true
is_itself a = grind (arith, nat_tests)

pub told_apart : (a b : Place) → b ≢ a → is_same_place a b ≡ false
told_apart a b differs = grind arith

-- a place is found at its index
pub position_at : (places : List Place) (number : ℕ) (place : Place) → AllPairs (λ place next. place ≢ next) places → slice_get places number ≡ Some place → position_or_len (is_same_place place) places ≡ number
position_at [] number place apart is = absurd (let lt = slice_get_within [] number place is in omega (arith, lt))
position_at (first ∷ places) zero place apart is = grind arith
position_at (first ∷ places) (suc number) place apart is =
    let lt = slice_get_within places number place is in
    let other : first ≢ place = λ e. apart 0 (suc number) place (omega arith) (omega (arith, lt)) (e ∙ sym (get_or_from_slice_get places number place place is)) in
    let rest = position_at places number place (λ i j d before small. apart (suc i) (suc j) d (omega (arith, before)) (omega (arith, small))) is in
    ap (λ (t : Bool). cond {A = ℕ} (not t) (1 + position_or_len (is_same_place place) places) 0) (told_apart place first other) ∙ omega (arith, rest)

-- the site of a place of the strip
module _ (strip : Strip) (apart : (kind : Kind) → AllPairs (λ place next. place ≢ next) (places_of strip kind)) where
  pub site_is : (kind : BlockKind) (number : ℕ) (place : Place) → slice_get (places_of strip (kind_for kind)) number ≡ Some place → site_of strip kind place ≡ first_site strip (kind_for kind) + number
  site_is kind number place is = ap (λ n. first_site strip (kind_for kind) + n) (position_at (places_of strip (kind_for kind)) number place (apart (kind_for kind)) is)

  pub number_of : (kind : Kind) (place : Place) → Contains (places_of strip kind) place → slice_get (places_of strip kind) (position_or_len (is_same_place place) (places_of strip kind)) ≡ Some place
  number_of kind place there = grind (arith, slice_get-get_or, position_at)

  site_for : (kind : BlockKind) (place : Place) → Contains (places_of strip (kind_for kind)) place → IsSiteFor strip (kind_for kind) (site_of strip kind place)
  site_for kind place there = grind (arith, slice_get_within, number_of (kind_for kind) place there)

  pub place_back : (kind : BlockKind) (place : Place) → Contains (places_of strip (kind_for kind)) place → site_place strip (site_of strip kind place) ≡ place
  place_back kind place there = grind (arith, get_or_from_slice_get, place_is strip (kind_for kind) (site_of strip kind place) (site_for kind place there), number_of (kind_for kind) place there)

  some_of : (kind : BlockKind) (found : Option Place) (site : ℕ) → option_map (site_of strip kind) found ≡ Some site → (place : Place) × (found ≡ Some place) × (site_of strip kind place ≡ site)
  some_of kind found site is = grind arith

  key_kind : (packed : PackedCircuit) (block : Block) → kind_for (key_of packed block).kind ≡ kind_of block
  key_kind packed block = grind arith

  module _ (packed : PackedCircuit) (kept : KeptPlaces) (keys : AllPairs (λ key other. key ≢ other) (keys_of packed)) (lawful : AreKeptOn strip kept) where
    no_block : Block
    no_block = Cluster 0

    abbrev site_by : BlockKey → Option ℕ
    site_by key = option_map (site_of strip key.kind) (kept_place kept key)

    here : (block : ℕ) → block < length (blocks_of packed) → get_or (kept_sites_of strip packed kept) block None ≡ site_by (key_of packed (get_or (blocks_of packed) block no_block))
    here block lt =
        get_or-map site_by (keys_of packed) block (key_of packed no_block) None (omega (arith, lt, length-map (blocks_of packed) (key_of packed)))
        ∙ ap site_by (get_or-map (key_of packed) (blocks_of packed) block no_block (key_of packed no_block) lt)

    kinds_long : length (map kind_of (blocks_of packed)) ≡ length (blocks_of packed)
    kinds_long = length-map (blocks_of packed) kind_of

    place_by : (block site : ℕ) → block < length (blocks_of packed) → get_or (kept_sites_of strip packed kept) block None ≡ Some site →
        (place : Place) × (kept_place kept (key_of packed (get_or (blocks_of packed) block no_block)) ≡ Some place) × (site_of strip (key_of packed (get_or (blocks_of packed) block no_block)).kind place ≡ site)
    place_by block site lt is = some_of (key_of packed (get_or (blocks_of packed) block no_block)).kind _ site (sym (here block lt) ∙ is)

    one_block : (block other : ℕ) → block < length (blocks_of packed) → other < length (blocks_of packed) → key_of packed (get_or (blocks_of packed) block no_block) ≡ key_of packed (get_or (blocks_of packed) other no_block) → block ≡ other
    one_block block other lt also same = elim (cases_order block other) [
      | inl e ↦ e
      | inr unlike ↦ elim unlike [
        | inl less ↦ absurd (keys block other (key_of packed no_block) less (omega (arith, also, long)) (at block lt ∙ (same ∙ sym (at other also))))
        | inr more ↦ absurd (keys other block (key_of packed no_block) more (omega (arith, lt, long)) (at other also ∙ (sym same ∙ sym (at block lt))))
      ]
    ]
      where
        long : length (keys_of packed) ≡ length (blocks_of packed)
        long = length-map (blocks_of packed) (key_of packed)

        at : (block : ℕ) → block < length (blocks_of packed) → get_or (keys_of packed) block (key_of packed no_block) ≡ key_of packed (get_or (blocks_of packed) block no_block)
        at block lt = get_or-map (key_of packed) (blocks_of packed) block no_block (key_of packed no_block) lt

    -- the kept sites are of their blocks' kinds, and no two are the same
    pub kept_lawful_by : AreKeptSites strip (map kind_of (blocks_of packed)) (kept_sites_of strip packed kept)
    kept_lawful_by = record {
      long = length-map (keys_of packed) site_by ∙ (length-map (blocks_of packed) (key_of packed) ∙ sym kinds_long);
      by_kind = grind (arith, kinds_long, place_by, site_for, get_or-map);
      apart = λ block other site lt within is also.
          (let small : block < length (blocks_of packed) = omega (arith, lt, kinds_long) in
          let second : other < length (blocks_of packed) = omega (arith, within, kinds_long) in
          let one = place_by block site small is in
          let two = place_by other site second also in
          let key = key_of packed (get_or (blocks_of packed) block no_block) in
          let last = key_of packed (get_or (blocks_of packed) other no_block) in
          let same : one.0 ≡ two.0 = sym (place_back key.kind one.0 (lawful.by_kind key one.0 one.1)) ∙ (ap (site_place strip) (one.2 ∙ sym two.2) ∙ place_back last.kind two.0 (lawful.by_kind last two.0 two.1)) in
          one_block block other small second (lawful.one_to_one key last one.0 one.1 (two.1 ∙ ap (λ (p : Place). let o : Option Place = Some p in o) (sym same))));
    }

pub kept_lawful : (strip : Strip) (packed : PackedCircuit) (kept : KeptPlaces) → ((kind : Kind) → AllPairs (λ place next. place ≢ next) (places_of strip kind)) → AllPairs (λ key other. key ≢ other) (keys_of packed) → AreKeptOn strip kept → AreKeptSites strip (map kind_of (blocks_of packed)) (kept_sites_of strip packed kept)
kept_lawful strip packed kept apart keys lawful = kept_lawful_by strip apart packed kept keys lawful

-- an empty map suits every strip
pub none_kept : (strip : Strip) → AreKeptOn strip []
none_kept strip = record { by_kind = λ key place is. absurd cc; one_to_one = λ key other place is also. absurd cc }
