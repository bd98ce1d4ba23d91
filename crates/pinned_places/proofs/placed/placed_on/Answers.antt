use Rattle.pinned_places.proofs.Prelude.{◌≡◌, ◌∙◌, ap, sym, subst, zip, PackedCircuit, keys_of, Strip, KeptPlaces, in_order, AreKeptOn, placed_kept}
use Rattle.pinned_places.proofs.Started.{started_as}
use Rattle.pinned_places.proofs.placed.placed_on.Goals as goal

pub start-requires-clause-kept : goal.start-requires-clause-kept
start-requires-clause-kept c =
    let packed = c.args.placing.now.packed in
    let kept : c.in_ok-kept.kept ≡ in_order (zip (keys_of packed) c.args.places.now) = c.in_ok-kept.ensures ∙ ap (λ (p : PackedCircuit). in_order (zip (keys_of p) c.args.places.now)) c.packed.ensures in
    let placed = placed_kept c.args.placing.now.strip packed c.args.places.now (record { long = c.requires.placed.long; by_kind = c.requires.placed.by_kind; one_to_one = c.requires.placed.one_to_one }) in
    subst (λ (s : Strip). AreKeptOn s c.in_ok-kept.kept) (sym c.strip.ensures.value) (subst (λ (k : KeptPlaces). AreKeptOn c.args.placing.now.strip k) (sym kept) placed)

pub returns : goal.returns
returns c =
    let kept : c.in_ok-kept.kept ≡ in_order (zip (keys_of c.args.placing.now.packed) c.args.places.now) = c.in_ok-kept.ensures ∙ ap (λ (p : PackedCircuit). in_order (zip (keys_of p) c.args.places.now)) c.packed.ensures in
    started_as c.args.placing.now.packed c.shared_packed.result.now c.args.placing.now.strip c.strip.result _ c.in_ok-kept.kept c.start.result c.shared_packed.ensures c.strip.ensures.value kept c.start.ensures
