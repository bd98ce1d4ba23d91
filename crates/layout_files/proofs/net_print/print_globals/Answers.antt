use Rattle.layout_files.proofs.Prelude.{◌∙◌, ◌++◌, ℕ, List, ap, get_or, ◌∷◌, [], codes, length, sym, line_of, net_name, left_after}
use Rattle.layout_files.proofs.Lines.{globals_text}
use Rattle.layout_files.proofs.Printing.{all_printed, finish, line_end, next_printed, some_count}
use Rattle.layout_files.proofs.net_print.print_globals.Goals as goal

pub returns : goal.returns
returns c =
    let globals = c.args.globals.now in
    finish c.args.print.now c.loop-net.print c.print-2.new.self _ _ _
    (all_printed (λ net. line_of (codes ".global" ∷ net_name c.args.circuit.now net ∷ [])) globals c.loop-net.net-index _ _ c.loop-net-test.false c.loop-net.invariant)
    (globals_text c.args.circuit.now globals (some_count (length globals) (sym c.is_empty.ensures ∙ c.if-is_empty.false)))
    c.print-2.ensures.left

pub loop-net-preserved : goal.loop-net-preserved
loop-net-preserved c =
    next_printed (λ net. line_of (codes ".global" ∷ net_name c.args.circuit.now net ∷ [])) c.args.globals.now c.loop-net.net-index 0 c.args.print.now c.loop-net.print c.print.new.self c.loop-net-test.true c.loop-net.invariant
    (c.print.ensures.left ∙ ap (λ (name : List ℕ). left_after c.loop-net.print (codes ".global " ++ (name ++ (10 ∷ [])))) c.net_name.ensures ∙ ap (λ (t : List ℕ). left_after c.loop-net.print (codes ".global " ++ t)) (line_end (net_name c.args.circuit.now (get_or c.args.globals.now c.loop-net.net-index 0))))
