use Rattle.vpr_files.proofs.Prelude.{◌≡◌, take, flat_map, list_any, BlockNet, block_nets, TakesAll}
use Rattle.vpr_files.proofs.Globals.{global_text}
use Rattle.vpr_files.proofs.net_file.write_globals.Given as goal

-- the lines of the nets before this one are written
abbrev pub invariant-loop-number : goal.invariant-loop-number
invariant-loop-number g l =
    TakesAll g.W.Sink.contents g.W.Sink.has_failed l.initial.sink l.sink (flat_map (global_text l.packed.circuit) (take l.number (block_nets l.packed)))
    × (l.some ≡ list_any (λ (net : BlockNet). net.global) (take l.number (block_nets l.packed)))
