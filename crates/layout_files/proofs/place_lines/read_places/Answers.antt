use Rattle.layout_files.proofs.Prelude.{◌++◌, ◌∙◌, Some, ap, codes, decimal, refl, sym, append_assoc, left_after, place_lines}
use Rattle.layout_files.proofs.Finding.{given}
use Rattle.layout_files.proofs.Lines.{place_heading, place_parts}
use Rattle.layout_files.proofs.Reading.{heading_parts, model_plain, size_parts}
use Rattle.layout_files.proofs.place_lines.read_places.Goals as goal

pub returns : goal.returns
returns c = λ circuit arch layout names fits e.
    let strip = c.args.strip in
    let after = place_lines circuit layout.blocks in
    let width = decimal strip.width in
    let rows = decimal strip.rows in
    let columns = codes " logic blocks\n\n#block name x y subblk block number\n#---------- - - ------ ------------\n" ++ after in
    let size = codes "Array size: " ++ (width ++ (codes " x " ++ (rows ++ columns))) in
    let parts = sym (place_parts circuit strip layout layout.blocks refl) ∙ ap (λ t. t ++ after) (sym (place_heading circuit strip circuit.model refl))
    ∙ heading_parts (codes "Netlist file: ") circuit.model (codes ".net Architecture file: device.arch\nArray size: ") width (codes " x ") rows (codes " logic blocks\n\n#block name x y subblk block number\n#---------- - - ------ ------------\n") after in
    let begun = c.text.ensures.left ∙ ap (λ v. left_after v (codes "Netlist file: ")) (c.expect.ensures ∙ c.new-cursor.ensures ∙ ap Some (e ∙ parts)) in
    let named = c.word.ensures.read (circuit.model ++ codes ".net") (codes " Architecture file: device.arch\n" ++ size) (model_plain circuit names) refl
    (c.expect-2.ensures ∙ begun ∙ ap Some (sym (append_assoc circuit.model (codes ".net") (codes " Architecture file: device.arch\n" ++ size)))) in
    let sized = c.text-2.ensures.left ∙ ap (λ v. left_after v (codes " Architecture file: device.arch\n")) named.1 in
    let blocks = c.read_size.ensures (codes "logic blocks\n\n#block name x y subblk block number\n#---------- - - ------ ------------\n" ++ after) (sized ∙ ap Some (sym (size_parts (codes "Array size: ") width (codes " x ") rows columns))) in
    let headed = c.text-6.ensures.left ∙ ap (λ v. left_after v (codes "#---------- - - ------ ------------\n"))
    (c.text-5.ensures.left ∙ ap (λ v. left_after v (codes "#block name x y subblk block number\n"))
    (c.text-4.ensures.left ∙ ap (λ v. left_after v (codes "\n"))
    (c.expect-3.ensures ∙ c.text-3.ensures.left ∙ ap (λ v. left_after v (codes " logic blocks\n")) blocks))) in
    let read = c.in_ok-places.ensures circuit layout.blocks names (λ k d within. (fits.blocks k d within).place) headed in
    given c.finish.result _ _ (c.finish.ensures read.1) read.0
