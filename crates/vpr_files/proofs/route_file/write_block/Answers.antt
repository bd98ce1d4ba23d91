use Rattle.vpr_files.proofs.Prelude.{◌∙◌, ℕ, List, PackedCircuit, Place, places_by_block, connected_line, line_of, writes_same}
use Rattle.vpr_files.proofs.ClusterLemmas.{block_is_there}
use Rattle.vpr_files.proofs.FileTexts.{at_its_place, connected_line_text}
use Rattle.vpr_files.proofs.route_file.write_block.Goals as goal

-- the line of a block
abbrev line : PackedCircuit → ℕ → Place → List ℕ
line packed block place = line_of (connected_line packed block place)

pub block_name-name-requires : goal.block_name-name-requires
block_name-name-requires g c = block_is_there c.packed-packed.result.now c.args.block c.block.result c.block.ensures

pub returns : goal.returns
returns g c =
    writes_same g.W.Sink.contents g.W.Sink.has_failed _ _ _ _ c.write_slices.result
    (connected_line_text c.packed-packed.result.now c.args.block c.block.result c.place_of-place.result c.block_name-name.result.before.now c.block_name-name.result.net.now
    c.as_bytes.result.now c.as_bytes-2.result.now c.as_bytes-3.result.now
    c.block.ensures c.block_name-name.ensures (c.as_bytes.ensures.value ∙ c.format.ensures.text) (c.as_bytes-2.ensures.value ∙ c.format-2.ensures.text) (c.as_bytes-3.ensures.value ∙ c.format-3.ensures.text)
    ∙ at_its_place line c.args.placing.now.packed c.packed-packed.result.now (places_by_block c.args.placing.now) c.args.block c.place_of-place.result c.packed-packed.ensures c.place_of-place.ensures)
    c.write_slices.ensures
