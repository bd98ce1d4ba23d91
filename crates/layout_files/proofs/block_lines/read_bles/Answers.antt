use Rattle.layout_files.proofs.Prelude.{◌∷◌, ◌∙◌, ap, codes, length, refl, Some, arith, map-id, LaidBle, ble_line, line_of, left_after, FitsBle, ble_rest}
use Rattle.layout_files.proofs.Halfway.{begun, each, last, next}
use Rattle.layout_files.proofs.Printing.{is_here, not_here, takes_false, takes_true}
use Rattle.layout_files.proofs.ReadingNets.{ble_read, bles_texts}
use Rattle.layout_files.proofs.block_lines.read_bles.Goals as goal

pub loop-cursor-init : goal.loop-cursor-init
loop-cursor-init c = record {
  read = λ circuit arch bles after same size names fits e.
      begun (λ k ble. line_of (ble_line circuit arch ble)) (λ (ble : LaidBle). ble) bles (10 ∷ after) c.new-bles.result.items c.args.cursor.now c.new-bles.ensures.items (e ∙ ap Some (bles_texts circuit arch bles (10 ∷ after)));
  shorter = omega arith;
}

pub loop-cursor-preserved : goal.loop-cursor-preserved
loop-cursor-preserved c = record {
  read = λ circuit arch bles after same size names fits e.
      let left = c.loop-cursor.cursor in
      let inv = c.loop-cursor.invariant.read circuit arch bles after same size names fits e in
      let n = next (λ k ble. line_of (ble_line circuit arch ble)) (λ (ble : LaidBle). ble) bles (10 ∷ after) c.loop-cursor.bles.items left inv (not_here left (codes "subblock: ") (10 ∷ after) c.takes.result c.loop-cursor-test.true c.takes.ensures.whether refl) in
      let here = takes_true left c.takes.new.self (codes "subblock: ") c.takes.result c.loop-cursor-test.true c.takes.ensures.left ∙ ap (λ v. left_after v (codes "subblock: ")) (n.text ∙ ap Some (ble_read circuit arch n.element n.rest)) in
      let read = c.in_ok-ble.ensures.read circuit arch n.element n.rest same size names (each (FitsBle (length circuit.nets) arch.lut_size) bles _ n.element fits n.at) here in
      n.then c.push.new.self.items c.read_ble.new.cursor _ c.in_ok-push.ensures.items read.1 read.0;
  shorter = omega (arith, c.read_ble.ensures.shorter, c.takes.ensures.shorter c.loop-cursor-test.true, c.loop-cursor.invariant.shorter);
}

pub returns-clause-read : goal.returns-clause-read
returns-clause-read c = λ circuit arch bles after same size names fits e.
    let left = c.loop-cursor.cursor in
    let done = last (λ k ble. line_of (ble_line circuit arch ble)) (λ (ble : LaidBle). ble) bles (10 ∷ after) c.loop-cursor.bles.items left (c.loop-cursor.invariant.read circuit arch bles after same size names fits e)
    (λ k ble rest t. is_here left (codes "subblock: ") (ble_rest circuit arch ble rest) c.takes.result c.loop-cursor-test.false c.takes.ensures.whether (t ∙ ap Some (ble_read circuit arch ble rest))) in
    (done.0 ∙ map-id bles, takes_false left c.takes.new.self (codes "subblock: ") c.takes.result c.loop-cursor-test.false c.takes.ensures.left ∙ done.1)
