use Rattle.layout_files.proofs.Prelude.{◌∙◌, ◌++◌, ap, sym, List, ℕ, Decides-eqb, strip_prefix_is}
use Rattle.layout_files.proofs.Printing.{in_None, in_Some}
use Rattle.layout_files.proofs.ReadingNets.{feed_ble, feed_pin}
use Rattle.layout_files.proofs.block_lines.feed_in.Goals as goal

pub returns-in-Some-clause-read : goal.returns-in-Some-clause-read
returns-in-Some-clause-read c = λ feed small e.
    let found = strip_prefix_is Decides-eqb c.args.word.now c.as_slice.result.now c.strip_prefix.result c.strip_prefix.ensures.cases in
    feed_ble feed c.args.word.now c.in-Some.place.now c.args.cursor.now c.number_in.new.cursor c.number_in.result small e
    (in_Some _ _ c.strip_prefix.result c.in-Some.place c.in-Some.is found ∙ ap (λ (start : List ℕ). start ++ c.in-Some.place.now) c.as_slice.ensures) c.number_in.ensures.read

pub returns-in-None-clause-read : goal.returns-in-None-clause-read
returns-in-None-clause-read c = λ feed small e.
    let found = strip_prefix_is Decides-eqb c.args.word.now c.as_slice.result.now c.strip_prefix.result c.strip_prefix.ensures.cases in
    feed_pin feed c.args.word.now c.args.cursor.now c.number_in-in-None.new.cursor c.number_in-in-None.result small e
    (λ rest same. in_None _ _ c.strip_prefix.result c.in-None.is found rest (same ∙ ap (λ (start : List ℕ). start ++ rest) (sym c.as_slice.ensures))) c.number_in-in-None.ensures.read
