use Rattle.strip_place.proofs.Prelude.{length, ap, arith, ◌∙◌, length_of}
use Rattle.strip_place.proofs.Lengths.{boxes_length, small_boxes}
use Rattle.strip_place.proofs.wires.Wires.whole_length.Goals as goal

pub whole_length-requires : goal.whole_length-requires
whole_length-requires c =
    let w = c.self.inside in
    record {
      few = omega (arith, ap length c.as_slice.ensures.value, c.self.invariant.exact.long, c.self.invariant.lawful.few);
      boxes = small_boxes w.points.items w.nets w.boxes.items c.as_slice.result.now c.self.invariant.exact c.as_slice.ensures.value;
    }

pub returns : goal.returns
returns c =
    let w = c.self.inside in
    c.whole_length.ensures ∙ boxes_length w.points.items w.nets w.boxes.items c.as_slice.result.now c.self.invariant.lawful c.self.invariant.exact c.as_slice.ensures.value
    ∙ ap length_of c.self.view_is
