use Rattle.strip_place.proofs.Prelude.{◌≡◌, ◌+◌, ◌<◌, ◌++◌, ◌∷◌, [], List, length, map, take, get_or, arith, ap, sym, ◌∙◌, append_assoc, map_more, get_or_from_slice_get, Place, places_in_order, IsPlaceIn, Point, spot_of}
use Rattle.strip_place.proofs.Starts.{row_small}
use Rattle.strip_place.proofs.start.add_spots.Goals as goal

pub overflow_cast-x : goal.overflow_cast-x
overflow_cast-x c =
    let places = c.args.places in
    let all = places_in_order places in
    let number = c.loop-number.number in
    let place = c.place-x.result in
    let lt : number < length all = omega arith in
    let here : get_or all number place ≡ place = get_or_from_slice_get all number place place c.place-x.ensures in
    let is : IsPlaceIn places.strip places.kind place = rw here at (c.laws_of_places.ensures.within places.strip places.kind places.lawful number place lt) in
    omega (arith, is.column.1, places.lawful.width.1)

pub overflow_cast-y : goal.overflow_cast-y
overflow_cast-y c =
    let places = c.args.places in
    let all = places_in_order places in
    let number = c.loop-number.number in
    let place = c.place-x.result in
    let lt : number < length all = omega arith in
    let here : get_or all number place ≡ place = get_or_from_slice_get all number place place c.place-x.ensures in
    let is : IsPlaceIn places.strip places.kind place = rw here at (c.laws_of_places.ensures.within places.strip places.kind places.lawful number place lt) in
    omega (arith, row_small places.strip places.kind place places.lawful is.row)

pub loop-number-preserved : goal.loop-number-preserved
loop-number-preserved c =
    let all = places_in_order c.args.places in
    let number = c.loop-number.number in
    let place = c.place-x.result in
    let lt : number < length all = omega arith in
    let here : get_or all number place ≡ place = get_or_from_slice_get all number place place c.place-x.ensures in
    let more : map spot_of (take (number + 1) all) ≡ map spot_of (take number all) ++ spot_of place ∷ [] = map_more spot_of all number place lt ∙ ap (λ (p : Place). map spot_of (take number all) ++ spot_of p ∷ []) here in
    c.in_ok-push.ensures.items
    ∙ ap (λ (p : Point). c.loop-number.spots.items ++ p ∷ []) c.new.ensures
    ∙ ap (λ (front : List Point). front ++ spot_of place ∷ []) c.loop-number.invariant
    ∙ append_assoc c.args.spots.now.items (map spot_of (take number all)) (spot_of place ∷ [])
    ∙ ap (λ (end : List Point). c.args.spots.now.items ++ end) (sym more)
