use Rattle.fabric_planes.proofs.Prelude.{ap, arith, length, few_pins, Arch, Strip}
use Rattle.fabric_planes.proofs.shape.Shape.new.Goals as goal

pub overflow_cast-result : goal.overflow_cast-result
overflow_cast-result g c =
    omega (arith, ap length c.as_slice.ensures, ap (λ (arch : Arch). length arch.pins) c.arch-arch.ensures, few_pins (g.G.StripGraph.basis c.args.graph.now).arch c.laws.ensures.basis.arch)

pub overflow_add-result : goal.overflow_add-result
overflow_add-result g c =
    let few = c.laws.ensures.basis.strip in
    omega (arith, ap length c.as_slice.ensures, ap (λ (arch : Arch). length arch.pins) c.arch-arch.ensures, few_pins (g.G.StripGraph.basis c.args.graph.now).arch c.laws.ensures.basis.arch, ap (λ (strip : Strip). strip.io_rat) c.strip-strip.ensures, few.io_rat.1)

pub invariant_of-result : goal.invariant_of-result
invariant_of-result g c =
    let few = c.laws.ensures.basis.strip in
    let arch = c.laws.ensures.basis.arch in
    record {
      small = record {
        few_columns = omega (arith, ap (λ (strip : Strip). strip.width) c.strip-strip.ensures, few.width.1);
        few_rows = omega (arith, ap (λ (strip : Strip). strip.rows) c.strip-strip.ensures, few.rows.1);
        few_pins = omega (arith, ap length c.as_slice.ensures, ap (λ (arch : Arch). length arch.pins) c.arch-arch.ensures, few_pins (g.G.StripGraph.basis c.args.graph.now).arch arch, ap (λ (strip : Strip). strip.io_rat) c.strip-strip.ensures, few.io_rat.1);
        few_tracks = omega (arith, ap (λ (arch : Arch). arch.tracks) c.arch-arch.ensures, arch.tracks.1);
      };
    }
