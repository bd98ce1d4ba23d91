use Rattle.settling.proofs.Prelude.{rules, arith, ◌≡◌, ◌+◌, ◌++◌, ◌∷◌, [], length, length-append, puts_counted, ShareState}
use Rattle.settling.proofs.Totals.{puts_counted-push}
use Rattle.settling.proofs.counting.merge_shares.Goals as goal

pub loop-share-preserved : goal.loop-share-preserved
loop-share-preserved g c =
    let s : ShareState = c.in-Some.share in
    let was : c.loop-share.left.items ≡ c.pop.new.self.items ++ s ∷ [] = search rules in
    let parts : length c.loop-share.left.items ≡ length c.pop.new.self.items + 1 = rw was (length-append c.pop.new.self.items (s ∷ [])) in
    let amounts : puts_counted c.loop-share.left.items ≡ puts_counted c.pop.new.self.items + s.puts = rw was (puts_counted-push c.pop.new.self.items s) in
    let i = c.loop-share.invariant in
    (omega (arith, i.0, parts, c.merge.ensures.parts, c.into_part.ensures.parts), omega (arith, i.1, amounts, c.merge.ensures.amount, c.into_part.ensures.amount))
