use Rattle.settling.proofs.Prelude.{rules, ◌≡◌, ◌<◌, ℕ, List, length, get_or, Some, take, slice_get, take-length, TranscriptState, has_id}
use Rattle.settling.proofs.Claims.{all-next, at_index, first-bad}
use Rattle.settling.proofs.comparing.first_mismatch.Goals as goal

pub returns-in-Some : goal.returns-in-Some
returns-in-Some g c =
    let ts : List TranscriptState = c.args.transcripts.now in
    let i : ℕ = c.loop-i.i in
    let t : TranscriptState = c.index-transcripts-i.result in
    let within : i < length ts = search rules in
    let is : t ≡ get_or ts i t = search rules in
    let at : slice_get ts i ≡ Some t = at_index ts i t within is in
    let repeated : c.has_id-repeated.result ≡ has_id (take i ts) t.id = search rules in
    first-bad c.args.core.now ts i t c.in-Some.at.0 c.in-Some.at.1 at c.loop-i.invariant (rw repeated at c.in-Some.ensures)

pub loop-i-preserved : goal.loop-i-preserved
loop-i-preserved g c =
    let ts : List TranscriptState = c.args.transcripts.now in
    let i : ℕ = c.loop-i.i in
    let t : TranscriptState = c.index-transcripts-i.result in
    let within : i < length ts = search rules in
    let is : t ≡ get_or ts i t = search rules in
    let at : slice_get ts i ≡ Some t = at_index ts i t within is in
    let repeated : c.has_id-repeated.result ≡ has_id (take i ts) t.id = search rules in
    all-next c.args.core.now ts i t at c.loop-i.invariant (rw repeated at c.in_default.ensures)

pub returns : goal.returns
returns g c =
    let ts : List TranscriptState = c.args.transcripts.now in
    let ends : c.loop-i.i ≡ length ts = search rules in
    let whole : take c.loop-i.i ts ≡ ts = rw ends (take-length ts) in
    rw whole at c.loop-i.invariant
