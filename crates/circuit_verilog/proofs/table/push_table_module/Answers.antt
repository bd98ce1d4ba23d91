use Rattle.circuit_verilog.proofs.Prelude.{◌++◌, codes, flat_map, range_with_len, level_line, table_head}
use Rattle.circuit_verilog.proofs.Lists.{ok_then, then}
use Rattle.circuit_verilog.proofs.table.push_table_module.Goals as goal

pub returns : goal.returns
returns c =
    ok_then c.push_parts.result
    (λ e. (then c.args.text.now.items c.push_head.new.text.items c.push_parts.new.text.items (table_head c.args.width) ((flat_map (level_line c.args.width) (range_with_len 0 c.args.width)) ++ (codes "  assign o = v0[0];\nendmodule\n\n")) c.in_ok-push_head.ensures
    (then c.push_head.new.text.items c.push_levels.new.text.items c.push_parts.new.text.items (flat_map (level_line c.args.width) (range_with_len 0 c.args.width)) (codes "  assign o = v0[0];\nendmodule\n\n") c.in_ok-push_levels.ensures
    e)))
    c.push_parts.ensures
