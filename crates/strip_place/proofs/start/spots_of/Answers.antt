use Rattle.strip_place.proofs.Prelude.{◌≡◌, List, ◌++◌, map, ap, sym, ◌∙◌, map-append, Place, Logic, Pad, places_of, places_in_order, Point, sites_of, spot_of}
use Rattle.strip_place.proofs.start.spots_of.Goals as goal

pub returns : goal.returns
unfolding sites_of
returns c =
    let strip = c.args.strip in
    let first : c.add_spots.new.spots.items ≡ map spot_of (places_of strip Logic) = c.in_ok-add_spots.ensures ∙ ap (λ (front : List Point). front ++ map spot_of (places_in_order c.places.result)) c.new-spots.ensures.items ∙ ap (map spot_of) c.places.ensures in
    c.in_ok-add_spots-2.ensures
    ∙ ap (λ (front : List Point). front ++ map spot_of (places_in_order c.places-2.result)) first
    ∙ ap (λ (places : List Place). map spot_of (places_of strip Logic) ++ map spot_of places) c.places-2.ensures
    ∙ sym (map-append spot_of (places_of strip Logic) (places_of strip Pad))
