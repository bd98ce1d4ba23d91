use Rattle.settling.proofs.Prelude.{rules, arith, ◌≡◌, ◌+◌, ◌++◌, ◌∷◌, [], length, length-append, TranscriptState, receipts_of, receipts_in}
use Rattle.settling.proofs.Totals.{receipts_in-push}
use Rattle.settling.proofs.counting.merge_leases.Goals as goal

pub loop-transcript-preserved : goal.loop-transcript-preserved
loop-transcript-preserved g c =
    let t : TranscriptState = c.in-Some.transcript in
    let was : c.loop-transcript.left.items ≡ c.pop.new.self.items ++ t ∷ [] = search rules in
    let parts : length c.loop-transcript.left.items ≡ length c.pop.new.self.items + 1 = rw was (length-append c.pop.new.self.items (t ∷ [])) in
    let amounts : receipts_in c.loop-transcript.left.items ≡ receipts_in c.pop.new.self.items + length (receipts_of t.items) = rw was (receipts_in-push c.pop.new.self.items t) in
    let made : c.into_lease.result.made ≡ length (receipts_of t.items) = c.into_lease.ensures.made in
    let i = c.loop-transcript.invariant in
    (omega (arith, i.0, parts, c.merge.ensures.parts, c.into_part.ensures.parts), omega (arith, i.1, amounts, c.merge.ensures.amount, c.into_part.ensures.amount, made))
