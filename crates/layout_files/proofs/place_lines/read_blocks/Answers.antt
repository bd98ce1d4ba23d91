use Rattle.layout_files.proofs.Prelude.{◌∙◌, ◌++◌, [], ap, Some, sym, place_line, line_of, IsSmallPlace}
use Rattle.layout_files.proofs.Halfway.{begun, each, last, next, not_done, nothing}
use Rattle.layout_files.proofs.Reading.{line_some, place_texts}
use Rattle.layout_files.proofs.place_lines.read_blocks.Goals as goal

pub loop-cursor-init : goal.loop-cursor-init
loop-cursor-init c = λ circuit blocks names small e.
    begun (λ k laid. line_of (place_line circuit k laid)) (λ laid. laid.place) blocks [] c.new-places.result.items c.args.cursor.now c.new-places.ensures.items (e ∙ ap Some (place_texts circuit blocks))

pub loop-cursor-preserved : goal.loop-cursor-preserved
loop-cursor-preserved c = λ circuit blocks names small e.
    let left = c.loop-cursor.cursor in
    let n = next (λ k laid. line_of (place_line circuit k laid)) (λ laid. laid.place) blocks [] c.loop-cursor.places.items left (c.loop-cursor.invariant circuit blocks names small e) (not_done left (sym c.has_more.ensures ∙ c.loop-cursor-test.true)) in
    let read = c.read_place-place.ensures.read circuit n.element n.rest names (each (λ laid. IsSmallPlace laid.place) blocks _ n.element small n.at) (n.text ∙ ap (λ k. Some (line_of (place_line circuit k n.element) ++ n.rest)) (sym (c.len.ensures ∙ c.loop-cursor.places.ok.0))) in
    n.then c.push.new.self.items c.read_place-place.new.cursor c.read_place-place.result c.in_ok-push.ensures.items read.1 read.0

pub returns : goal.returns
returns c = λ circuit blocks names small e.
    let left = c.loop-cursor.cursor in
    last (λ k laid. line_of (place_line circuit k laid)) (λ laid. laid.place) blocks [] c.loop-cursor.places.items left (c.loop-cursor.invariant circuit blocks names small e)
    (λ k laid rest t. nothing left (line_of (place_line circuit k laid)) rest (sym c.has_more.ensures ∙ c.loop-cursor-test.false) (line_some (place_line circuit k laid)) t)
