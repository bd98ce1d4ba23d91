-- Places of a strip.
use Rattle.layout_check.proofs.Prelude.{◌≡◌, ℕ, ◌+◌, ◌<◌, ◌≤◌, List, [], ◌∷◌, map, sym, ap, subst, arith, inl, inr, ◌⊎◌, zero, All, Contains, flat_map, range_with_len, All-contains, in_first, in_later, in_range, to_flat_map, to_map, Strip, Kind, Logic, Pad, Place, IsPlaceIn, column_of, place_at, places_of, IsStripSize, all_within}

pub place_listed : (strip : Strip) (kind : Kind) (place : Place) → IsPlaceIn strip kind place → Contains (places_of strip kind) place
unfolding places_of
place_listed strip Logic place is =
    let column = is.column in
    let row = is.row in
    let here : Contains (column_of strip Logic place.x) place =
    subst (λ (p : Place). Contains (column_of strip Logic place.x) p) (ap (λ s. place_at place.x place.y s) (sym row.1))
    (to_map (λ y. place_at place.x y 0) (range_with_len 1 strip.rows) place.y (in_range 1 strip.rows place.y (omega arith) (omega arith))) in
    to_flat_map (column_of strip Logic) (range_with_len 1 strip.width) place.x place (in_range 1 strip.width place.x (omega arith) (omega arith)) here
place_listed strip Pad place is =
    let column = is.column in
    let row = is.row in
    let ends : List ℕ = 0 ∷ (strip.rows + 1) ∷ [] in
    let at_end : Contains ends place.y = elim row.0 [
      | inl e ↦ subst (λ y. Contains ends y) (sym e) (in_first 0 ((strip.rows + 1) ∷ []))
      | inr e ↦ subst (λ y. Contains ends y) (sym e) (in_later 0 (strip.rows + 1) ((strip.rows + 1) ∷ []) (in_first (strip.rows + 1) []))
    ] in
    let here : Contains (column_of strip Pad place.x) place =
    to_flat_map (λ y. map (place_at place.x y) (range_with_len 0 strip.io_rat)) ends place.y place at_end
    (to_map (place_at place.x place.y) (range_with_len 0 strip.io_rat) place.subblock (in_range 0 strip.io_rat place.subblock (omega arith) (omega arith))) in
    to_flat_map (column_of strip Pad) (range_with_len 1 strip.width) place.x place (in_range 1 strip.width place.x (omega arith) (omega arith)) here

pub place_within : (strip : Strip) (kind : Kind) (place : Place) → IsStripSize strip → Contains (places_of strip kind) place → IsPlaceIn strip kind place
place_within strip kind place size c = All-contains (IsPlaceIn strip kind) (places_of strip kind) place (all_within strip kind size) c
