use Rattle.live_machine.proofs.Prelude.{◌<◌, ◌∙◌, length, sym, ap, arith, nat_tests, is_wait_item}
use Rattle.live_machine.proofs.ItemLemmas.{no_wait}
use Rattle.live_machine.proofs.item_lines.is_wait_text.Goals as goal

pub returns-else-is_empty-2 : goal.returns-else-is_empty-2
returns-else-is_empty-2 c =
    let some : 0 < length c.args.text.now = let e = c.is_empty.ensures in let f = c.if-is_empty.false in grind (arith, nat_tests, e, f) in
    let others = c.split_line.result.1.now in
    let more : 0 < length others = let e = c.is_empty-2.ensures in let f = c.if-is_empty-2.false in grind (arith, nat_tests, e, f) in
    c.if-is_empty-2.false ∙ sym (ap is_wait_item (c.split_line.ensures.lines some) ∙ no_wait c.split_line.result.0.now others more)
