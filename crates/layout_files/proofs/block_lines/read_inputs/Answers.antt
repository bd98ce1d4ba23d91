use Rattle.layout_files.proofs.Prelude.{◌-◌, ◌+◌, ◌∷◌, ◌++◌, ◌∙◌, List, ap, Some, slice_get, arith, take_all, option_to_list, Feed, inputs_text}
use Rattle.layout_files.proofs.ReadingNets.{input_small, inputs_ended, inputs_more, inputs_next, inputs_stop}
use Rattle.layout_files.proofs.block_lines.read_inputs.Goals as goal

pub loop-place-preserved : goal.loop-place-preserved
loop-place-preserved c = record {
  read = λ inputs after small e.
      let place = c.loop-place._place in
      let inv = c.loop-place.invariant.read inputs after small e in
      let rest = inputs_text inputs (place + 1) (c.args.context.lut_size - (place + 1)) ++ (32 ∷ after) in
      let read = c.in_ok-read_input.ensures.read (slice_get inputs place) rest (input_small inputs place small) (inputs_stop inputs (place + 1) (c.args.context.lut_size - (place + 1)) after) (inv.1 ∙ ap Some (inputs_next inputs place c.args.context.lut_size after c.loop-place-test.true)) in
      (read.0 ∙ ap (λ (others : List Feed). others ++ option_to_list (slice_get inputs place)) inv.0 ∙ inputs_more inputs place, read.1);
  shorter = omega (arith, c.read_input.ensures.shorter, c.loop-place.invariant.shorter);
}

pub returns-clause-read : goal.returns-clause-read
returns-clause-read c = λ inputs after small narrow e.
    let inv = c.loop-place.invariant.read inputs after small e in
    let f = c.loop-place-test.false in
    (inv.0 ∙ take_all c.loop-place._place inputs (omega (arith, f, narrow)), inv.1 ∙ ap Some (inputs_ended inputs c.loop-place._place c.args.context.lut_size after f))
