use Rattle.layout_files.proofs.Prelude.{◌∙◌, ◌≤◌, List, get_or, ap, length, sym, arith, enumerate_from, line_of, text_of, LaidNet, between_lines, length-enumerate_from}
use Rattle.layout_files.proofs.Lines.{flat_map-flat_map}
use Rattle.layout_files.proofs.Printing.{all_printed, numbered, one_more, printed_as}
use Rattle.layout_files.proofs.route_print.print_nets.Goals as goal

pub loop-number-preserved : goal.loop-number-preserved
loop-number-preserved c =
    let nets = c.args.layout.now.nets in
    let number = c.loop-number.number in
    let net = c.net-item.result in
    let found = c.nets-net-items.ensures in
    one_more (λ net. text_of (between_lines c.args.circuit.now c.args.strip c.args.layout.now net.0 net.1 net.1.listed)) (enumerate_from 0 nets) number (number, net) _ _ _
    (numbered nets number net (let t = c.loop-number-test.true in omega (arith, t, ap length found)) (c.net-item.is ∙ ap (λ (all : List LaidNet). get_or all number net) found)) c.loop-number.invariant c.print_net.ensures

pub returns : goal.returns
returns c =
    let xs = enumerate_from 0 c.args.layout.now.nets in
    let past : length xs ≤ c.loop-number.number = (let f = c.loop-number-test.false in omega (arith, f, length-enumerate_from 0 c.args.layout.now.nets, ap length c.nets-net-items.ensures)) in
    printed_as _ _ _ _ (all_printed (λ net. text_of (between_lines c.args.circuit.now c.args.strip c.args.layout.now net.0 net.1 net.1.listed)) xs c.loop-number.number _ _ past c.loop-number.invariant)
    (sym (flat_map-flat_map line_of (λ net. between_lines c.args.circuit.now c.args.strip c.args.layout.now net.0 net.1 net.1.listed) xs))
