use Rattle.pinned_places.proofs.Prelude.{◌≡◌, ◌+◌, ◌∙◌, ap, sym, drop, get_or, length, arith, map, get_or_default, length-map, place_of, place_at, place_after, with_pad, with_pads}
use Rattle.pinned_places.proofs.Steps.{no_pads, pad_gone}
use Rattle.pinned_places.proofs.exchange.put_pads.Goals as goal

pub loop-pad-preserved : goal.loop-pad-preserved
loop-pad-preserved c =
    let pads = c.args.pads.now in
    let number = c.loop-pad.pad-index in
    let pad = get_or pads number (record { line = 0; block = 0; place = place_at 0 0 0 }) in
    let same : get_or pads number pad ≡ pad = get_or_default pads number pad _ c.loop-pad-test.true in
    let gone : c.exchange.new.places ≡ with_pad pad c.loop-pad.places = c.exchange.ensures in
    record {
      rest = c.loop-pad.invariant.rest ∙ pad_gone pads number pad c.loop-pad.places c.loop-pad-test.true same ∙ ap (with_pads (drop (number + 1) pads)) (sym gone);
      long = ap length gone ∙ length-map c.loop-pad.places (place_after (place_of c.loop-pad.places pad.block) pad.place) ∙ c.loop-pad.invariant.long;
    }

pub returns : goal.returns
returns c = sym (c.loop-pad.invariant.rest ∙ no_pads c.args.pads.now c.loop-pad.pad-index c.loop-pad.places c.loop-pad-test.false)
