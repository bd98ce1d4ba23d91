use Rattle.vpr_files.proofs.Prelude.{◌≡◌, ◌<◌, slice_get, ap, arith, Arch, word_after_space, input_word, or_open, all_loop, all_range_end, all_same, part_loop, part_same, place_at, writes_part, range_with_len}
use Rattle.vpr_files.proofs.pin_words.write_inputs.Goals as goal

pub returns-in_err-write_input : goal.returns-in_err-write_input
returns-in_err-write_input g c =
    let packed = c.args.packed.now in
    let cluster = c.args.cluster in
    let inputs = c.args.inputs.now in
    let place = c.loop-place.place in
    let size : c.arch.result.now.lut_size ≡ packed.arch.lut_size = ap (λ (a : Arch). a.lut_size) c.arch.ensures.value in
    let within : place < packed.arch.lut_size = (let t = c.loop-place-test.true in omega (arith, t, size)) in
    writes_part c.from_residual.result c.from_residual.ensures.0
    (part_loop (λ place. word_after_space (or_open (input_word packed cluster) (slice_get inputs place))) (range_with_len 0 packed.arch.lut_size) place place (place_at packed.arch.lut_size place within) c.loop-place.invariant
    (part_same c.in_err-write_input.ensures (ap (λ input. word_after_space (or_open (input_word packed cluster) input)) c.input_at.ensures)))

pub loop-place-preserved : goal.loop-place-preserved
loop-place-preserved g c =
    let packed = c.args.packed.now in
    let cluster = c.args.cluster in
    let inputs = c.args.inputs.now in
    let place = c.loop-place.place in
    let size : c.arch.result.now.lut_size ≡ packed.arch.lut_size = ap (λ (a : Arch). a.lut_size) c.arch.ensures.value in
    let within : place < packed.arch.lut_size = (let t = c.loop-place-test.true in omega (arith, t, size)) in
    all_loop (λ place. word_after_space (or_open (input_word packed cluster) (slice_get inputs place))) (range_with_len 0 packed.arch.lut_size) place place (place_at packed.arch.lut_size place within) c.loop-place.invariant
    (all_same c.in_ok-write_input.ensures (ap (λ input. word_after_space (or_open (input_word packed cluster) input)) c.input_at.ensures))

pub returns : goal.returns
returns g c =
    let packed = c.args.packed.now in
    let cluster = c.args.cluster in
    let inputs = c.args.inputs.now in
    let place = c.loop-place.place in
    let size : c.arch.result.now.lut_size ≡ packed.arch.lut_size = ap (λ (a : Arch). a.lut_size) c.arch.ensures.value in
    all_range_end (λ place. word_after_space (or_open (input_word packed cluster) (slice_get inputs place))) packed.arch.lut_size place (let t = c.loop-place-test.false in omega (arith, t, size)) c.loop-place.invariant
