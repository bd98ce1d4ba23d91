use Rattle.circuit_verilog.proofs.Prelude.{◌++◌, sym, declared_text, latch_edge, clock_name, initial_text, store_text, traced_ble, args_at, init_in}
use Rattle.circuit_verilog.proofs.Lists.{ok_then, then}
use Rattle.circuit_verilog.proofs.latch.push_stored.Goals as goal

pub returns : goal.returns
returns c =
    ok_then c.push_store.result
    (λ e. (then c.args.text.now.items c.push_declared.new.text.items c.push_store.new.text.items (declared_text c.args.ble.now.name) ((initial_text (init_in (args_at c.args.netlist.now c.args.latch.line)) c.args.ble.now.name) ++ (store_text (latch_edge c.args.netlist.now c.args.latch) c.args.ble.now.name (clock_name (traced_ble c.args.arch.now c.args.laid.now c.args.ble.now).clock))) c.in_ok-push_declared.ensures
    (then c.push_declared.new.text.items c.push_initial.new.text.items c.push_store.new.text.items (initial_text (init_in (args_at c.args.netlist.now c.args.latch.line)) c.args.ble.now.name) (store_text (latch_edge c.args.netlist.now c.args.latch) c.args.ble.now.name (clock_name (traced_ble c.args.arch.now c.args.laid.now c.args.ble.now).clock)) (rw (sym c.latch_words.ensures.init, sym c.name.ensures) c.in_ok-push_initial.ensures)
    (rw (sym c.latch_edge.ensures, sym c.name-2.ensures, sym c.clock_of.ensures) e))))
    c.push_store.ensures
