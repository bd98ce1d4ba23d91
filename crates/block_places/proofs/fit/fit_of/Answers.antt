use Rattle.std.proofs.Common.{◌≡◌, ◌∙◌, ℕ, List, length, sym, ap}
use Rattle.grid.specs.declared.place.Place.{Place}
use Rattle.block_places.proofs.Counts.{fit_found, pad_count}
use Rattle.block_places.proofs.fit.fit_of.Goals as goal

-- the number of listed places
counted : (n : ℕ) (listed places : List Place) → n ≡ length listed → listed ≡ places → n ≡ length places
counted n listed places e is = e ∙ ap length is

pub returns : goal.returns
returns c =
    c.fit_of_counts.ensures
    ∙ fit_found c.args.strip c.args.packed.now c.len.result c.cluster_count.result c.len-2.result c.pad_count.result
    (counted c.len.result _ _ c.len.ensures c.places.ensures) c.cluster_count.ensures
    (counted c.len-2.result _ _ c.len-2.ensures c.places-2.ensures) (c.pad_count.ensures ∙ sym (pad_count c.args.packed.now))
