-- Operations on sites correspond to operations on their places.
use Rattle.strip_place.proofs.Prelude.{◌≡◌, ℕ, ◌<◌, All, Bool, true, false, cond, List, [], ◌∷◌, length, get_or, map, refl, sym, ap, ◌∙◌, arith, get_or-map, All-head, All-tail, Strip, Kind, Logic, Place, place_at, Task, places_on, drawn_block, place_of, exchanged_site, AreDistinct, AreOneToOne, IsSiteFor, drawn_for, site_place, sites_of, Draw, place_after, drawn_place, after_draw, after_move, is_kept, cost_of}
use Rattle.strip_place.proofs.Boarding.{map_itself}
use Rattle.strip_place.proofs.Standing.{place_is}
use Rattle.strip_place.proofs.Starts.{site_inside, start_inside}

drawn_here : (strip : Strip) (kind : Kind) (target word : ℕ) → IsSiteFor strip kind target → target ≡ drawn_for strip kind word → site_place strip target ≡ drawn_place strip kind word
drawn_here strip kind target word inside goes = grind (arith, place_is strip kind target inside)

module _ (strip : Strip) (distinct : AreDistinct strip) where
  abbrev pub Inside : ℕ → Type 0
  Inside site = site < length (sites_of strip)

  chosen : (b c : Bool) (home target site : ℕ) → site_place strip (cond b target (cond c home site)) ≡ cond b (site_place strip target) (cond c (site_place strip home) (site_place strip site))
  chosen b c home target site = grind arith

  exchange_carried : (home target site : ℕ) → Inside home → Inside target → Inside site → site_place strip (exchanged_site home target site) ≡ place_after (site_place strip home) (site_place strip target) (site_place strip site)
  exchange_carried home target site h t s = search arith

  map_carried : (home target : ℕ) (sites : List ℕ) → Inside home → Inside target → All Inside sites → places_on strip (map (exchanged_site home target) sites) ≡ map (place_after (site_place strip home) (site_place strip target)) (places_on strip sites)
  map_carried home target [] h t all = refl
  map_carried home target (site ∷ sites) h t all = grind (arith, exchange_carried, All-head, map_carried home target sites h t (All-tail Inside site sites all))

-- a draw that keeps its move, one that undoes it, and one to the block's own place
draw_kept : (strip : Strip) (task : Task) (temperature : ℕ) (draw : Draw) (places : List Place) → is_kept temperature (cost_of task.nets places) (cost_of task.nets (after_move strip task draw places)) draw.a ≡ true → after_draw strip task temperature draw places ≡ after_move strip task draw places
unfolding after_draw
draw_kept strip task temperature draw places kept = ap (λ (b : Bool). cond b (after_move strip task draw places) places) kept

draw_undone : (strip : Strip) (task : Task) (temperature : ℕ) (draw : Draw) (places : List Place) → is_kept temperature (cost_of task.nets places) (cost_of task.nets (after_move strip task draw places)) draw.a ≡ false → after_draw strip task temperature draw places ≡ places
unfolding after_draw
draw_undone strip task temperature draw places undone = ap (λ (b : Bool). cond b (after_move strip task draw places) places) undone

draw_own : (strip : Strip) (task : Task) (temperature : ℕ) (draw : Draw) (places : List Place) → after_move strip task draw places ≡ places → after_draw strip task temperature draw places ≡ places
unfolding after_draw
draw_own strip task temperature draw places same = grind arith

-- a block is drawn, and a site of its kind
module _ (strip : Strip) (distinct : AreDistinct strip) (task : Task) (temperature : ℕ) (draw : Draw) (sites : List ℕ) (block target : ℕ) (standing : AreOneToOne strip task.kinds sites) (within : block < length task.kinds)
    (inside : IsSiteFor strip (get_or task.kinds block Logic) target) (is : block ≡ drawn_block task.kinds draw) (goes : target ≡ drawn_for strip (get_or task.kinds block Logic) draw.v) where
  abbrev places : List Place
  places = places_on strip sites

  abbrev moved : List ℕ
  moved = map (exchanged_site (get_or sites block 0) target) sites

  here : block < length sites
  here = omega (arith, within, standing.long)

  -- the move is that of the definition
  drawn_is : places_on strip moved ≡ after_move strip task draw places
  drawn_is =
      map_carried strip distinct (get_or sites block 0) target sites (start_inside strip task.kinds sites standing block 0 here) (site_inside strip (get_or task.kinds block Logic) target inside) (start_inside strip task.kinds sites standing)
      ∙ ap (λ (p : Place). map (place_after p (site_place strip target)) places) (sym (get_or-map (site_place strip) sites block 0 (place_at 0 0 0) here))
      ∙ ap (λ (p : Place). map (place_after (place_of places block) p) places) (drawn_here strip (get_or task.kinds block Logic) target draw.v inside goes)
      ∙ ap (λ b. map (place_after (place_of places b) (drawn_place strip (get_or task.kinds b Logic) draw.v)) places) is

  pub draw_stays : target ≡ get_or sites block 0 → after_draw strip task temperature draw places ≡ places
  draw_stays same =
      draw_own strip task temperature draw places (sym drawn_is ∙ ap (λ t. places_on strip (map (exchanged_site (get_or sites block 0) t) sites)) same ∙ ap (places_on strip) (map_itself (get_or sites block 0) sites))

  -- a draw to another site: the move is kept or not, as its cost decides
  pub draw_decided : (kept : Bool) → kept ≡ is_kept temperature (cost_of task.nets places) (cost_of task.nets (places_on strip moved)) draw.a → places_on strip (cond kept moved sites) ≡ after_draw strip task temperature draw places
  draw_decided kept decided = by kept (decided ∙ ap (λ (p : List Place). is_kept temperature (cost_of task.nets places) (cost_of task.nets p) draw.a) drawn_is)
    where
      by : (b : Bool) → b ≡ is_kept temperature (cost_of task.nets places) (cost_of task.nets (after_move strip task draw places)) draw.a → places_on strip (cond b moved sites) ≡ after_draw strip task temperature draw places
      by true e = drawn_is ∙ sym (draw_kept strip task temperature draw places (sym e))
      by false e = sym (draw_undone strip task temperature draw places (sym e))
