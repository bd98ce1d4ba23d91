use Rattle.script_threads.proofs.Prelude.{rules, ◌≡◌, ◌<◌, ℕ, List, length, get_or, false, subst, sym, take, ap, ◌∙◌, take-length, All-more, TranscriptState, NoneLate, places_in, served_late}
use Rattle.script_threads.proofs.refusals.first_served_late.Goals as goal

pub loop-i-preserved : goal.loop-i-preserved
loop-i-preserved g c =
    let ts : List TranscriptState = c.args.transcripts.now in
    let i : ℕ = c.loop-i.i in
    let t : TranscriptState = c.index-transcripts-i.result in
    let within : i < length ts = search rules in
    let is : t ≡ get_or ts i t = search rules in
    let none : NoneLate t = ap (λ items. served_late false (places_in items)) (sym c.items.ensures) ∙ (sym c.is_served_late.ensures ∙ c.if-is_served_late.false) in
    All-more NoneLate ts i t within c.loop-i.invariant (subst NoneLate is none)

pub returns : goal.returns
returns g c =
    let ts : List TranscriptState = c.args.transcripts.now in
    let ends : c.loop-i.i ≡ length ts = search rules in
    let whole : take c.loop-i.i ts ≡ ts = rw ends (take-length ts) in
    rw whole at c.loop-i.invariant
