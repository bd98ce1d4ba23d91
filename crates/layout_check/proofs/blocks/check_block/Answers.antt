use Rattle.layout_check.proofs.Prelude.{◌≡◌, List, ap, arith, length, sym, subst, ◌∙◌, All, kind_of, Kind, Place, IsPlaceIn, IsNarrowBle, ble_places, IsFed, LaidBle}
use Rattle.layout_check.proofs.Sites.{place_listed, place_within}
use Rattle.layout_check.proofs.blocks.check_block.Goals as goal

pub returns-then-not-is_place : goal.returns-then-not-is_place
returns-then-not-is_place c = λ contained.
    let kind : c.kind_of.result ≡ kind_of c.args.block.now.block = c.kind_of.ensures ∙ ap kind_of c.block.ensures in
    c.if-not-is_place.ensures
    (subst (λ (k : Kind). IsPlaceIn c.args.strip k c.place.result) (sym kind)
    (subst (λ (p : Place). IsPlaceIn c.args.strip (kind_of c.args.block.now.block) p) (sym c.place.ensures) (place_within c.args.strip (kind_of c.args.block.now.block) c.args.block.now.place c.requires contained)))

pub returns-in-None : goal.returns-in-None
returns-in-None c =
    let kind : c.kind_of.result ≡ kind_of c.args.block.now.block = c.kind_of.ensures ∙ ap kind_of c.block.ensures in
    let long = ap length c.bles-bles.ensures in
    let room = c.ble_places.ensures ∙ ap (ble_places c.args.arch.now) c.block-2.ensures in
    let few = c.if-bles-ble_places.false in
    record {
      on_place = place_listed c.args.strip (kind_of c.args.block.now.block) c.args.block.now.place
          (subst (λ (p : Place). IsPlaceIn c.args.strip (kind_of c.args.block.now.block) p) c.place.ensures (subst (λ (k : Kind). IsPlaceIn c.args.strip k c.place.result) kind c.if-not-is_place.ensures));
      few = omega (arith, long, room, few);
      are_fed = subst (λ (bles : List LaidBle). All (IsFed c.args.arch.now c.args.block.now) bles) c.bles-bles.ensures c.in-None.ensures.0;
      are_narrow = subst (λ (bles : List LaidBle). All (IsNarrowBle c.args.arch.now) bles) c.bles-bles.ensures c.in-None.ensures.1;
    }
