use Rattle.one_user.proofs.Prelude.{slice_get-get_or, part_loop, writes_part, net_word}
use Rattle.one_user.proofs.crowding_text.write_nets.Goals as goal

pub returns-in_err-write_net : goal.returns-in_err-write_net
returns-in_err-write_net g c =
    writes_part _ c.from_residual.ensures.0
    (part_loop (net_word c.args.crowding.now.packed) _ c.loop-net.net-index _ (slice_get-get_or _ _ 0 c.loop-net-test.true) c.loop-net.invariant c.in_err-write_net.ensures)
