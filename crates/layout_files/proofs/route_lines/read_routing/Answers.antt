use Rattle.layout_files.proofs.Prelude.{◌++◌, ◌∙◌, Some, ap, codes, sym, left_after, nets_text}
use Rattle.layout_files.proofs.Finding.{given}
use Rattle.layout_files.proofs.Lines.{route_parts}
use Rattle.layout_files.proofs.ReadingRoutes.{start_read}
use Rattle.layout_files.proofs.route_lines.read_routing.Goals as goal

pub returns : goal.returns
returns c = λ circuit arch layout same names fits form e.
    let strip = c.args.strip in
    let after = nets_text circuit strip layout in
    let sized = c.read_size.ensures (codes "logic blocks.\n\nRouting:\n\n" ++ after) (c.new-cursor.ensures ∙ ap Some (e ∙ sym (route_parts circuit strip layout) ∙ start_read strip after)) in
    let ended = c.expect.ensures ∙ c.text.ensures.left ∙ ap (λ v. left_after v (codes " logic blocks.\n")) sized in
    let headed = c.text-4.ensures.left ∙ ap (λ v. left_after v (codes "\n")) (c.text-3.ensures.left ∙ ap (λ v. left_after v (codes "Routing:\n")) (c.text-2.ensures.left ∙ ap (λ v. left_after v (codes "\n")) ended)) in
    let read = c.in_ok-nets.ensures circuit strip layout same names (λ k d within. (fits.blocks k d within).place) fits.nets form.nets headed in
    given c.finish.result _ _ (c.finish.ensures read.1) read.0
