use Rattle.strip_place.proofs.Prelude.{◌≡◌, ◌-◌, ◌≤◌, ◌∙◌, Some, length, slice_get, ap, sym, subst, arith, slice_get-map, Logic, Pad, places_of, site_place, Board}
use Rattle.std.specs.Option.{option_map}
use Rattle.strip_place.proofs.Starts.{place_logic, place_pad}
use Rattle.strip_place.proofs.board.Board.place.Goals as goal

pub returns-then-site-logic : goal.returns-then-site-logic
returns-then-site-logic c =
    let b = c.self.inside in
    let site = c.site-site.result in
    let here : slice_get (places_of b.strip Logic) site ≡ Some c.place.result = ap (λ places. slice_get places site) (sym c.places.ensures) ∙ c.place.ensures in
    subst (λ (board : Board). slice_get board.places c.args.block ≡ Some c.place.result) c.self.view_is
    (slice_get-map (site_place b.strip) b.seats.sites c.args.block ∙ ap (option_map (site_place b.strip)) c.site-site.ensures.value ∙ ap Some (place_logic b.strip site c.place.result here))

pub returns-else-site-logic : goal.returns-else-site-logic
returns-else-site-logic c =
    let b = c.self.inside in
    let site = c.site-site.result in
    let past : length (places_of b.strip Logic) ≤ site = omega (arith, c.self.invariant.logic_count, c.get-logic.ensures) in
    let here : slice_get (places_of b.strip Pad) (site - length (places_of b.strip Logic)) ≡ Some c.place-else-site-logic.result =
    ap (λ n. slice_get (places_of b.strip Pad) (site - n)) (sym c.self.invariant.logic_count ∙ sym c.get-logic.ensures) ∙ ap (λ places. slice_get places (site - c.get-logic.result)) (sym c.places-else-site-logic.ensures) ∙ c.place-else-site-logic.ensures in
    subst (λ (board : Board). slice_get board.places c.args.block ≡ Some c.place-else-site-logic.result) c.self.view_is
    (slice_get-map (site_place b.strip) b.seats.sites c.args.block ∙ ap (option_map (site_place b.strip)) c.site-site.ensures.value ∙ ap Some (place_pad b.strip site c.place-else-site-logic.result past here))
