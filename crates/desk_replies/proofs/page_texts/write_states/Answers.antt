use Rattle.desk_replies.proofs.Prelude.{◌<◌, arith, length, writes_part, line_of, state_after}
use Rattle.desk_replies.proofs.PageLemmas.{more_at, part_at}
use Rattle.desk_replies.proofs.page_texts.write_states.Goals as goal

pub returns-in_err-write_state_at : goal.returns-in_err-write_state_at
returns-in_err-write_state_at g c =
    let within : c.loop-place.place < length c.args.last.now.entries = omega (arith, c.loop-place-test.true, c.len-place-end.ensures.len) in
    writes_part _ c.from_residual.ensures.0
    (part_at (λ one. line_of c.args.told.now (state_after one.1)) c.args.last.now.entries c.loop-place.place within c.loop-place.invariant c.in_err-write_state_at.ensures)

pub loop-place-preserved : goal.loop-place-preserved
loop-place-preserved g c =
    let within : c.loop-place.place < length c.args.last.now.entries = omega (arith, c.loop-place-test.true, c.len-place-end.ensures.len) in
    more_at (λ one. line_of c.args.told.now (state_after one.1)) c.args.last.now.entries c.loop-place.place within c.loop-place.invariant c.in_ok-write_state_at.ensures
