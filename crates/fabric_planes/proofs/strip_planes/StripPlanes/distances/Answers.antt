use Rattle.fabric_planes.proofs.Prelude.{rules, ◌≡◌, ℕ, ◌+◌, ◌-◌, ◌<◌, ◌∙◌, List, length, take, drop, min, sym, ap, arith, subst, slice_index, graph_of, MOST_FAR, IsTargetAt, wires_to, shift_of, band_of, place_of, place_count}
use Rattle.fabric_planes.proofs.Differences.{part_within, part_told, part_nothing, target_low}
use Rattle.fabric_planes.proofs.Found.{place_low}
use Rattle.fabric_planes.proofs.Offsets.{place_below}
use Rattle.fabric_planes.proofs.Strips.{lawful, node_column, wire_row}
use Rattle.fabric_planes.proofs.strip_planes.StripPlanes.distances.Goals as goal

pub overflow_sub-first : goal.overflow_sub-first
overflow_sub-first g c =
    let basis = g.G.StripGraph.basis c.args.self.now.graph.now in
    let shape = c.args.self.now.laid.shape in
    omega (arith, target_low basis c.args.target c.args.x c.args.y c.requires, c.column.ensures.value basis shape, c.target_offset.ensures.value basis shape, c.places-places.ensures.value basis shape)

pub slice_bounds-result-end : goal.slice_bounds-result-end
slice_bounds-result-end g c =
    let basis = g.G.StripGraph.basis c.args.self.now.graph.now in
    let shape = c.args.self.now.laid.shape in
    let place : ℕ = c.column.result + (c.target_offset.result + c.args.y) in
    let places = c.places-places.ensures.value basis shape in
    let shift : c.shift_of-shift.result ≡ shift_of c.args.target (band_of basis) = c.shift_of-shift.ensures ∙ ap (shift_of c.args.target) (c.band.ensures.value ∙ ap (λ (rows : ℕ). rows + 2) shape.rows) in
    let first : c.places-places.result + c.shift_of-shift.result - place ≡ place_count basis + shift_of c.args.target (band_of basis) - place = omega (arith, places, shift) in
    let low : place < place_count basis = omega (arith, target_low basis c.args.target c.args.x c.args.y c.requires, c.column.ensures.value basis shape, c.target_offset.ensures.value basis shape) in
    omega (arith, part_within basis c.args.target place (c.places-places.result + c.shift_of-shift.result - place) low first, places, ap (λ (t : List ℕ). length t) c.table_to-table.ensures)

pub returns : goal.returns
returns g c =
    let basis = g.G.StripGraph.basis c.args.self.now.graph.now in
    let shape = c.args.self.now.laid.shape in
    let is = c.laws.ensures.basis in
    let u = c.args.x in
    let v = c.args.y in
    let place : ℕ = c.column.result + (c.target_offset.result + v) in
    let count : ℕ = c.places-places.result in
    let start : ℕ = count + c.shift_of-shift.result - place in
    let target : IsTargetAt basis c.args.target place u v = record {
      is_at = omega (arith, c.column.ensures.value basis shape, c.target_offset.ensures.value basis shape);
      x = c.requires.x;
      y = c.requires.y;
      placed = c.requires.placed;
    } in
    let places = c.places-places.ensures.value basis shape in
    let shift : c.shift_of-shift.result ≡ shift_of c.args.target (band_of basis) = c.shift_of-shift.ensures ∙ ap (shift_of c.args.target) (c.band.ensures.value ∙ ap (λ (rows : ℕ). rows + 2) shape.rows) in
    let first : start ≡ place_count basis + shift_of c.args.target (band_of basis) - place = omega (arith, places, shift) in
    record {
      long = search rules;
      far = λ from number w.
          let node = (graph_of basis).node number in
          let low : place_of basis node < place_count basis = subst (λ (p : ℕ). p < place_count basis) (sym w.is_at) (place_low is from number w) in
          let told = part_told basis c.args.target place start count u v node.kind node.x node.y node.n first places target w.wire.wire (node_column basis node ((lawful is).nodes number w.wire.within)) (wire_row is number w.wire.within w.wire.wire) low in
          subst (λ (p : ℕ). slice_index (take (start + count - start) (drop start c.table_to-table.result.now)) p ≡ min MOST_FAR (wires_to c.args.target node.kind node.x node.y u v)) w.is_at (rw c.table_to-table.ensures told);
      none = λ x offset pin. rw c.table_to-table.ensures (part_nothing basis c.args.target place start count u v x offset first places target pin.column pin.few (place_below basis x offset pin.column (omega (arith, pin.few))));
    }
