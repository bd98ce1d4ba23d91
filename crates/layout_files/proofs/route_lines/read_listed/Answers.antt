use Rattle.layout_files.proofs.Prelude.{◌∷◌, ◌∙◌, ◌<◌, ◌^◌, ℕ, ap, codes, refl, Some, arith, map-id, block_of, laid_name, listed_line, line_of, left_after}
use Rattle.layout_files.proofs.Halfway.{begun, each, last, next}
use Rattle.layout_files.proofs.Printing.{is_here, not_here, takes_false, takes_true}
use Rattle.layout_files.proofs.Reading.{laid_plain}
use Rattle.layout_files.proofs.ReadingRoutes.{block_place, listed_read, listed_texts}
use Rattle.layout_files.proofs.route_lines.read_listed.Goals as goal

pub loop-cursor-init : goal.loop-cursor-init
loop-cursor-init c = record {
  read = λ circuit layout listed after names places small e.
      begun (λ k block. line_of (listed_line circuit block (block_of layout block))) (λ (block : ℕ). block) listed (10 ∷ after) c.new-listed.result.items c.expect.new.self c.new-listed.ensures.items (e ∙ ap Some (listed_texts circuit layout listed (10 ∷ after)));
  shorter = omega arith;
}

pub loop-cursor-preserved : goal.loop-cursor-preserved
loop-cursor-preserved c = record {
  read = λ circuit layout listed after names places small e.
      let left = c.loop-cursor.cursor in
      let inv = c.loop-cursor.invariant.read circuit layout listed after names places small e in
      let n = next (λ k block. line_of (listed_line circuit block (block_of layout block))) (λ (block : ℕ). block) listed (10 ∷ after) c.loop-cursor.listed.items left inv (not_here left (codes "Block ") (10 ∷ after) c.takes.result c.loop-cursor-test.true c.takes.ensures.whether refl) in
      let laid = block_of layout n.element in
      let place = block_place layout n.element places in
      let here = takes_true left c.takes.new.self (codes "Block ") c.takes.result c.loop-cursor-test.true c.takes.ensures.left ∙ ap (λ v. left_after v (codes "Block ")) (n.text ∙ ap Some (listed_read circuit n.element laid n.rest)) in
      let read = c.read_block-block.ensures.read (laid_name circuit laid) n.element laid.place.x laid.place.y n.rest (laid_plain circuit laid names) (each (λ block. block < 2 ^ 32) listed _ n.element small n.at) place.x place.y here in
      n.then c.push.new.self.items c.read_block-block.new.cursor c.read_block-block.result c.in_ok-push.ensures.items read.1 read.0;
  shorter = omega (arith, c.read_block-block.ensures.shorter, c.takes.ensures.shorter c.loop-cursor-test.true, c.loop-cursor.invariant.shorter);
}

pub returns-clause-read : goal.returns-clause-read
returns-clause-read c = λ circuit layout listed after names places small e.
    let left = c.loop-cursor.cursor in
    let inv = c.loop-cursor.invariant.read circuit layout listed after names places small (c.expect.ensures ∙ e) in
    let done = last (λ k block. line_of (listed_line circuit block (block_of layout block))) (λ (block : ℕ). block) listed (10 ∷ after) c.loop-cursor.listed.items left inv
    (λ k block rest t. is_here left (codes "Block ") _ c.takes.result c.loop-cursor-test.false c.takes.ensures.whether (t ∙ ap Some (listed_read circuit block (block_of layout block) rest))) in
    (done.0 ∙ map-id listed, c.text.ensures.left ∙ ap (λ v. left_after v (codes "\n")) (takes_false left c.takes.new.self (codes "Block ") c.takes.result c.loop-cursor-test.false c.takes.ensures.left ∙ done.1))
