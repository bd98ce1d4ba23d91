use Rattle.layout_check.proofs.Prelude.{◌∙◌, ap, get_or_from_slice_get, LaidBlock, source_at}
use Rattle.layout_check.proofs.drivers.source_of.Goals as goal

pub returns : goal.returns
returns c block there =
    let here = c.index-blocks-driver.is ∙ get_or_from_slice_get c.args.blocks.now c.args.driver block c.index-blocks-driver.result there in
    c.source.ensures ∙ ap (λ (b : LaidBlock). source_at b.block b.place) here
