use Rattle.fabric_planes.proofs.Prelude.{◌≡◌, ◌∙◌, ◌*◌, ap, place_count}
use Rattle.fabric_planes.proofs.Untold.{untold}
use Rattle.fabric_planes.proofs.untold_prices.untold_prices.Goals as goal

pub returns : goal.returns
returns c = λ basis cost is shape.
    let count : c.args.shape.tracks * c.places.result ≡ basis.arch.tracks * place_count basis = ap (λ k. k * c.places.result) shape.tracks ∙ ap (λ k. basis.arch.tracks * k) (c.places.ensures.value basis shape) in
    untold basis is cost (c.args.shape.tracks * c.places.result) c.in_ok-prices.prices.items count (c.in_ok-prices.ensures.items_if_clones_equal (λ y e. e))
