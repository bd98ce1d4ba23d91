use Rattle.layout_files.proofs.Prelude.{◌<◌, ◌++◌, ◌∷◌, ◌∙◌, [], ℕ, Option, ap, codes, length, refl, Some, arith, ForSome, map-id, net_name, or_open, word_after_space, left_after}
use Rattle.layout_files.proofs.Halfway.{begun, each, last, next, texts_plain}
use Rattle.layout_files.proofs.Printing.{is_here, not_here, takes_false, takes_true}
use Rattle.layout_files.proofs.ReadingNets.{pins_stop}
use Rattle.layout_files.proofs.block_lines.read_pins.Goals as goal

pub loop-cursor-init : goal.loop-cursor-init
loop-cursor-init c = record {
  read = λ circuit pins after same names within e.
      begun (λ k pin. word_after_space (or_open (net_name circuit) pin)) (λ (pin : Option ℕ). pin) pins (10 ∷ after) c.new-pins.result.items c.args.cursor.now c.new-pins.ensures.items
      (e ∙ ap (λ t. Some (t ++ (10 ∷ after))) (texts_plain (λ pin. word_after_space (or_open (net_name circuit) pin)) 0 pins));
  shorter = omega arith;
}

pub loop-cursor-preserved : goal.loop-cursor-preserved
loop-cursor-preserved c = record {
  read = λ circuit pins after same names within e.
      let left = c.loop-cursor.cursor in
      let inv = c.loop-cursor.invariant.read circuit pins after same names within e in
      let n = next (λ k pin. word_after_space (or_open (net_name circuit) pin)) (λ (pin : Option ℕ). pin) pins (10 ∷ after) c.loop-cursor.pins.items left inv (not_here left (codes " ") (10 ∷ after) c.takes.result c.loop-cursor-test.true c.takes.ensures.whether refl) in
      let stops = pins_stop circuit pins (c.loop-cursor.pins.items ++ n.element ∷ []) after n.rest (n.then _ (Some n.rest) n.element refl refl refl) in
      let here = takes_true left c.takes.new.self (codes " ") c.takes.result c.loop-cursor-test.true c.takes.ensures.left ∙ ap (λ v. left_after v (codes " ")) n.text in
      let read = c.net_on-pin.ensures.read circuit n.element n.rest same names (each (λ pin. ForSome pin (λ net. net < length circuit.nets)) pins _ n.element within n.at) stops here in
      n.then c.push.new.self.items c.net_on-pin.new.cursor c.net_on-pin.result c.in_ok-push.ensures.items read.1 read.0;
  shorter = omega (arith, c.net_on-pin.ensures.shorter, c.takes.ensures.shorter c.loop-cursor-test.true, c.loop-cursor.invariant.shorter);
}

pub returns-clause-read : goal.returns-clause-read
returns-clause-read c = λ circuit pins after same names within e.
    let left = c.loop-cursor.cursor in
    let done = last (λ k pin. word_after_space (or_open (net_name circuit) pin)) (λ (pin : Option ℕ). pin) pins (10 ∷ after) c.loop-cursor.pins.items left (c.loop-cursor.invariant.read circuit pins after same names within e)
    (λ k pin rest t. is_here left (codes " ") (or_open (net_name circuit) pin ++ rest) c.takes.result c.loop-cursor-test.false c.takes.ensures.whether t) in
    (done.0 ∙ map-id pins, takes_false left c.takes.new.self (codes " ") c.takes.result c.loop-cursor-test.false c.takes.ensures.left ∙ done.1)
