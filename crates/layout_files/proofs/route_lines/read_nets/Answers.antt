use Rattle.layout_files.proofs.Prelude.{◌++◌, ◌∙◌, [], ap, length, Some, sym, map-id, LaidNet, between_lines, text_of, FitsNet, HasWholePaths}
use Rattle.layout_files.proofs.Halfway.{begun, each, last, next, not_done, nothing}
use Rattle.layout_files.proofs.ReadingRoutes.{net_some, nets_texts}
use Rattle.layout_files.proofs.route_lines.read_nets.Goals as goal

pub loop-cursor-init : goal.loop-cursor-init
loop-cursor-init c = λ circuit strip layout same names places fits whole e.
    begun (λ k net. text_of (between_lines circuit strip layout k net net.listed)) (λ (net : LaidNet). net) layout.nets [] c.new-nets.result.items c.args.cursor.now c.new-nets.ensures.items (e ∙ ap Some (nets_texts circuit strip layout))

pub loop-cursor-preserved : goal.loop-cursor-preserved
loop-cursor-preserved c = λ circuit strip layout same names places fits whole e.
    let left = c.loop-cursor.cursor in
    let inv = c.loop-cursor.invariant circuit strip layout same names places fits whole e in
    let n = next (λ k net. text_of (between_lines circuit strip layout k net net.listed)) (λ (net : LaidNet). net) layout.nets [] c.loop-cursor.nets.items left inv (not_done left (sym c.has_more.ensures ∙ c.loop-cursor-test.true)) in
    let read = c.in_ok-net.ensures.read circuit strip layout n.element n.rest same names places (each (FitsNet (length circuit.nets)) layout.nets _ n.element fits n.at) (each HasWholePaths layout.nets _ n.element whole n.at)
    (n.text ∙ ap (λ k. Some (text_of (between_lines circuit strip layout k n.element n.element.listed) ++ n.rest)) (sym (c.len.ensures ∙ c.loop-cursor.nets.ok.0))) in
    n.then c.push.new.self.items c.read_net.new.cursor _ c.in_ok-push.ensures.items read.1 read.0

pub returns : goal.returns
returns c = λ circuit strip layout same names places fits whole e.
    let left = c.loop-cursor.cursor in
    let done = last (λ k net. text_of (between_lines circuit strip layout k net net.listed)) (λ (net : LaidNet). net) layout.nets [] c.loop-cursor.nets.items left (c.loop-cursor.invariant circuit strip layout same names places fits whole e)
    (λ k net rest t. nothing left (text_of (between_lines circuit strip layout k net net.listed)) rest (sym c.has_more.ensures ∙ c.loop-cursor-test.false) (net_some circuit strip layout k net net.listed) t) in
    (done.0 ∙ map-id layout.nets, done.1)
