use Rattle.fabric_planes.proofs.Prelude.{◌≡◌, ℕ, ◌+◌, ◌*◌, ◌∙◌, ap, arith, Target, Level, Upright, Block, far_table, band_of, stride_of}
use Rattle.fabric_planes.proofs.layout.Layout.new.Goals as goal

pub returns : goal.returns
returns g c =
    let basis = g.G.StripGraph.basis c.args.graph.now in
    let is = c.new-shape.ensures in
    let shape = c.new-shape.result in
    let columns : shape.width + 3 ≡ basis.strip.width + 3 = omega (arith, is.width) in
    let band : shape.rows + 2 ≡ band_of basis = omega (arith, is.rows) in
    let stride : 2 + 2 * shape.pins + 5 * (shape.rows + 2) ≡ stride_of basis = omega (arith, is.pins, is.rows) in
    let same : (target : Target) → far_table target (shape.width + 3) (shape.rows + 2) (2 + 2 * shape.pins + 5 * (shape.rows + 2)) ≡ far_table target (basis.strip.width + 3) (band_of basis) (stride_of basis) = λ target.
    ap (λ (k : ℕ). far_table target k (shape.rows + 2) (2 + 2 * shape.pins + 5 * (shape.rows + 2))) columns
    ∙ (ap (λ (b : ℕ). far_table target (basis.strip.width + 3) b (2 + 2 * shape.pins + 5 * (shape.rows + 2))) band
    ∙ ap (far_table target (basis.strip.width + 3) (band_of basis)) stride) in
    record {
      shape = is;
      firsts = c.in_ok-firsts.ensures;
      steps = c.in_ok-steps.ensures;
      to_level = c.in_ok-to_level.ensures ∙ same Level;
      to_upright = c.in_ok-to_upright.ensures ∙ same Upright;
      to_block = c.in_ok-to_block.ensures ∙ same Block;
      arrivals = c.in_ok-arrivals.ensures;
      pins = c.in_ok-pins.ensures;
      inputs = c.in_ok-inputs.ensures;
    }
