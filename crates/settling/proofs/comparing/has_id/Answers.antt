use Rattle.settling.proofs.Prelude.{rules, arith, ◌≡◌, ◌<◌, List, length, get_or, false, eqb, Some, sym, take, slice_get, nat_tests, TranscriptState}
use Rattle.settling.proofs.Claims.{at_index, take-next}
use Rattle.settling.proofs.Totals.{has_id-here, has_id-push}
use Rattle.settling.proofs.comparing.has_id.Goals as goal

pub returns-then-id : goal.returns-then-id
returns-then-id g c =
    let ts : List TranscriptState = c.args.transcripts.now in
    let t : TranscriptState = c.index-transcripts-i.result in
    let within : c.loop-i.i < length ts = search rules in
    let is : t ≡ get_or ts c.loop-i.i t = search rules in
    let at : slice_get ts c.loop-i.i ≡ Some t = at_index ts c.loop-i.i t within is in
    let its : t.id ≡ c.args.id = search rules in
    sym (has_id-here ts c.loop-i.i t c.args.id at its)

pub loop-i-preserved : goal.loop-i-preserved
loop-i-preserved g c =
    let ts : List TranscriptState = c.args.transcripts.now in
    let t : TranscriptState = c.index-transcripts-i.result in
    let within : c.loop-i.i < length ts = search rules in
    let is : t ≡ get_or ts c.loop-i.i t = search rules in
    let at : slice_get ts c.loop-i.i ≡ Some t = at_index ts c.loop-i.i t within is in
    let other : eqb t.id c.args.id ≡ false = grind (arith, nat_tests) in
    rw (take-next ts c.loop-i.i t at) (has_id-push (take c.loop-i.i ts) t c.args.id c.loop-i.invariant other)
