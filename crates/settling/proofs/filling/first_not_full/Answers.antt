use Rattle.settling.proofs.Prelude.{rules, ◌≡◌, ◌<◌, ℕ, List, length, get_or, subst, take, take-length, All-more, TranscriptState, IsFullIfTold}
use Rattle.settling.proofs.filling.first_not_full.Goals as goal

pub loop-i-preserved : goal.loop-i-preserved
loop-i-preserved g c =
    let ts : List TranscriptState = c.args.transcripts.now in
    let i : ℕ = c.loop-i.i in
    let t : TranscriptState = c.index-transcripts-i.result in
    let within : i < length ts = search rules in
    let is : t ≡ get_or ts i t = search rules in
    let full : IsFullIfTold c.args.core.now.service t = rw c.if-not-is_full_if_told.false at c.is_full_if_told.ensures in
    All-more (IsFullIfTold c.args.core.now.service) ts i t within c.loop-i.invariant (subst (IsFullIfTold c.args.core.now.service) is full)

pub returns : goal.returns
returns g c =
    let ts : List TranscriptState = c.args.transcripts.now in
    let ends : c.loop-i.i ≡ length ts = search rules in
    let whole : take c.loop-i.i ts ≡ ts = rw ends (take-length ts) in
    rw whole at c.loop-i.invariant
