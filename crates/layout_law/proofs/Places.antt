-- After any number of passes the blocks of a packed circuit have places, of their kinds and one to
-- one.
use Rattle.layout_law.proofs.Prelude.{◌≡◌, ◌≢◌, ℕ, suc, zero, ◌*◌, ◌<◌, Bool, true, false, cond, List, length, get_or, map, sym, ap, refl, ◌∙◌, inl, inr, ◌⊎◌, subst, arith, AllPairs, Contains, cases_eq, Fits, fit_of, kind_of, ArePlaced, blocks_of, PackedCircuit, IsLawfulPacking, places_of, IsStripSize, Strip, Kind, Logic, Pad, Place, KeptPlaces, placed_after, drawn_block, places_on, AreKeptOn, kept_sites_of, Draw, after_draw, cost_of, is_kept, pass_of, exchanged_site, AreDistinct, AreOneToOne, IsSiteFor, drawn_for, site_count, start_of, places_at_start, HaveRoom, Task, task_of, standing_after, draw_decided, draw_stays, kept_lawful, start_standing, distinct_by, placed_by, start_places, fitting}

-- the places are those of sites on which blocks of these kinds are, one to one
pub record AreOnSites (strip : Strip) (kinds : List Kind) (places : List Place) : Type 0 where
  pub sites : List ℕ
  pub shown : places ≡ places_on strip sites
  pub standing : AreOneToOne strip kinds sites

module _ (strip : Strip) (distinct : AreDistinct strip) where
  -- a word draws a site of each kind that has one
  drawn_inside : (kind : Kind) (word : ℕ) → 0 < site_count strip kind → IsSiteFor strip kind (drawn_for strip kind word)
  drawn_inside kind word some = record { from = omega arith; below = omega (arith, some) }

  -- a draw moves a block to a free site, exchanges two blocks, or changes nothing
  after_one : (task : Task) (temperature : ℕ) (draw : Draw) (places : List Place) → 0 < length task.kinds → AreOnSites strip task.kinds places → AreOnSites strip task.kinds (after_draw strip task temperature draw places)
  after_one task temperature draw places some on = by (cases_eq target home)
    where
      block : ℕ
      block = drawn_block task.kinds draw

      within : drawn_block task.kinds draw < length task.kinds
      within = omega (arith, some)

      home : ℕ
      home = get_or on.sites (drawn_block task.kinds draw) 0

      target : ℕ
      target = drawn_for strip (get_or task.kinds (drawn_block task.kinds draw) Logic) draw.v

      there : IsSiteFor strip (get_or task.kinds (drawn_block task.kinds draw) Logic) (get_or on.sites (drawn_block task.kinds draw) 0)
      there = on.standing.by_kind (drawn_block task.kinds draw) (omega (arith, some))

      inside : IsSiteFor strip (get_or task.kinds (drawn_block task.kinds draw) Logic) (drawn_for strip (get_or task.kinds (drawn_block task.kinds draw) Logic) draw.v)
      inside = drawn_inside (get_or task.kinds (drawn_block task.kinds draw) Logic) draw.v (let f = there.from in let b = there.below in omega (arith, f, b))

      by : (drawn_for strip (get_or task.kinds (drawn_block task.kinds draw) Logic) draw.v ≡ get_or on.sites (drawn_block task.kinds draw) 0)
          ⊎ (drawn_for strip (get_or task.kinds (drawn_block task.kinds draw) Logic) draw.v ≡ get_or on.sites (drawn_block task.kinds draw) 0 → ⊥) → AreOnSites strip task.kinds (after_draw strip task temperature draw places)
      by (inl same) = record {
        sites = on.sites;
        shown = ap (after_draw strip task temperature draw) on.shown ∙ draw_stays strip distinct task temperature draw on.sites (drawn_block task.kinds draw) (drawn_for strip (get_or task.kinds (drawn_block task.kinds draw) Logic) draw.v) on.standing within inside refl refl same;
        standing = on.standing;
      }
      by (inr differs) =
          let block = drawn_block task.kinds draw in
          let target = drawn_for strip (get_or task.kinds block Logic) draw.v in
          let moved = map (exchanged_site (get_or on.sites block 0) target) on.sites in
          let kept = is_kept temperature (cost_of task.nets (places_on strip on.sites)) (cost_of task.nets (places_on strip moved)) draw.a in
          record {
            sites = cond kept moved on.sites;
            shown = ap (after_draw strip task temperature draw) on.shown ∙ sym (draw_decided strip distinct task temperature draw on.sites block target on.standing within inside refl refl kept refl);
            standing = either kept moved (standing_after strip task.kinds on.sites block target within inside differs on.standing);
          }
        where
          either : (b : Bool) (moved : List ℕ) → AreOneToOne strip task.kinds moved → AreOneToOne strip task.kinds (cond b moved on.sites)
          either true moved are = are
          either false moved are = on.standing

  after_some : (task : Task) (temperature : ℕ) (draws : ℕ → Draw) (count : ℕ) (places : List Place) → 0 < length task.kinds → AreOnSites strip task.kinds places → AreOnSites strip task.kinds (pass_of strip task temperature draws count places)
  unfolding pass_of
  after_some task temperature draws zero places some on = on
  after_some task temperature draws (suc count) places some on = after_one task temperature (draws count) (pass_of strip task temperature draws count places) some (after_some task temperature draws count places some on)

  -- if there is no block, there is no draw
  after_pass : (task : Task) (temperature : ℕ) (draws : ℕ → Draw) (effort : ℕ) (places : List Place) → AreOnSites strip task.kinds places → AreOnSites strip task.kinds (pass_of strip task temperature draws (effort * length task.kinds) places)
  unfolding pass_of
  after_pass task temperature draws effort places on = grind (arith, after_some)

  after_passes : (task : Task) (start : List Place) (seed effort passes : ℕ) → AreOnSites strip task.kinds start → AreOnSites strip task.kinds (placed_after strip task start seed effort passes)
  unfolding placed_after
  after_passes task start seed effort zero on = on
  after_passes task start seed effort (suc passes) on = grind (arith, after_pass, after_passes task start seed effort passes on)

module _ (strip : Strip) (size : IsStripSize strip) (apart : (kind : Kind) → AllPairs (λ place other. place ≢ other) (places_of strip kind))
    (kinds_apart : (place : Place) → Contains (places_of strip Logic) place → Contains (places_of strip Pad) place → ⊥) where
  -- at the start: on the places that are kept, and on the least that are free
  at_start : (packed : PackedCircuit) (kept : KeptPlaces) → IsLawfulPacking packed → fit_of strip packed ≡ Fits → AreKeptOn strip kept → AreOnSites strip (task_of packed).kinds (places_at_start strip packed kept)
  unfolding task_of
  at_start packed kept laws fits lawful =
      let kinds = map kind_of (blocks_of packed) in
      let few = fitting strip packed size fits in
      let theirs = kept_lawful strip packed kept apart laws.keys lawful in
      let room : HaveRoom strip kinds = record { logic = few.logic_fit; pads = few.pads_fit } in
      record {
        sites = start_of strip kinds (kept_sites_of strip packed kept);
        shown = sym (start_places strip packed kept kinds (distinct_by strip apart kinds_apart) apart lawful theirs room);
        standing = start_standing strip kinds (kept_sites_of strip packed kept) theirs room;
      }

  -- and after any number of passes
  pub always_placed : (packed : PackedCircuit) (kept : KeptPlaces) (seed effort passes : ℕ) → IsLawfulPacking packed → fit_of strip packed ≡ Fits → AreKeptOn strip kept →
      ArePlaced strip packed (placed_after strip (task_of packed) (places_at_start strip packed kept) seed effort passes)
  always_placed packed kept seed effort passes laws fits lawful =
      let on = after_passes strip (distinct_by strip apart kinds_apart) (task_of packed) (places_at_start strip packed kept) seed effort passes (at_start packed kept laws fits lawful) in
      subst (ArePlaced strip packed) (sym on.shown) (placed_by strip apart kinds_apart packed on.sites on.standing)
