use Rattle.vpr_files.proofs.Prelude.{◌∷◌, ◌++◌, [], part_first, part_same, part_then, writes_part, writes_same, writes_then}
use Rattle.vpr_files.proofs.TextLemmas.{cluster_text, elements_text, pins_text}
use Rattle.vpr_files.proofs.net_file.write_cluster.Goals as goal

pub returns-in_err-write_slices : goal.returns-in_err-write_slices
returns-in_err-write_slices g c =
    let packed = c.args.packed.now in
    let cluster = c.args.cluster in
    writes_part c.from_residual.result c.from_residual.ensures.0
    (part_same (part_first (pins_text packed cluster ++ (10 ∷ [] ++ (elements_text packed cluster ++ 10 ∷ []))) c.in_err-write_slices.ensures)
    (cluster_text packed cluster c.cluster_name.result.now c.cluster_name.ensures))

pub returns-in_err-write_pins : goal.returns-in_err-write_pins
returns-in_err-write_pins g c =
    let packed = c.args.packed.now in
    let cluster = c.args.cluster in
    writes_part c.from_residual-in_err-write_pins.result c.from_residual-in_err-write_pins.ensures.0
    (part_same (part_then c.in_ok-write_slices.ensures (part_first (10 ∷ [] ++ (elements_text packed cluster ++ 10 ∷ [])) c.in_err-write_pins.ensures))
    (cluster_text packed cluster c.cluster_name.result.now c.cluster_name.ensures))

pub returns-in_err-end_line : goal.returns-in_err-end_line
returns-in_err-end_line g c =
    let packed = c.args.packed.now in
    let cluster = c.args.cluster in
    writes_part c.from_residual-in_err-end_line.result c.from_residual-in_err-end_line.ensures.0
    (part_same (part_then c.in_ok-write_slices.ensures (part_then c.in_ok-write_pins.ensures (part_first (elements_text packed cluster ++ 10 ∷ []) c.in_err-end_line.ensures)))
    (cluster_text packed cluster c.cluster_name.result.now c.cluster_name.ensures))

pub returns-in_err-write_elements : goal.returns-in_err-write_elements
returns-in_err-write_elements g c =
    let packed = c.args.packed.now in
    let cluster = c.args.cluster in
    writes_part c.from_residual-in_err-write_elements.result c.from_residual-in_err-write_elements.ensures.0
    (part_same (part_then c.in_ok-write_slices.ensures (part_then c.in_ok-write_pins.ensures (part_then c.in_ok-end_line.ensures (part_first (10 ∷ []) c.in_err-write_elements.ensures))))
    (cluster_text packed cluster c.cluster_name.result.now c.cluster_name.ensures))

pub returns : goal.returns
returns g c =
    writes_same g.W.Sink.contents g.W.Sink.has_failed _ _ _ _ c.end_line-2.result
    (cluster_text c.args.packed.now c.args.cluster c.cluster_name.result.now c.cluster_name.ensures)
    (writes_then c.in_ok-write_slices.ensures _ _ c.end_line-2.result (writes_then c.in_ok-write_pins.ensures _ _ c.end_line-2.result (writes_then c.in_ok-end_line.ensures _ _ c.end_line-2.result (writes_then c.in_ok-write_elements.ensures c.end_line-2.new.sink (10 ∷ []) c.end_line-2.result c.end_line-2.ensures))))
