use Rattle.line_text.proofs.Prelude.{◌≡◌, ℕ, zero, suc, ◌-◌, ◌<◌, Bool, true, false, arith, sym, ◌∙◌}
use Rattle.line_text.proofs.source.read_through.Goals as goal

-- a source that works has a read left
fewer_left : (left new : ℕ) (failed : Bool) → (left ≡ 0 → failed ≡ true) → failed ≡ false → new ≡ left - 1 → new < left
fewer_left zero new failed spent works e =
    let both : true ≡ false = sym (spent (omega arith)) ∙ works in
    cc
fewer_left (suc left) new failed spent works e = omega arith

pub loop-count-smaller : goal.loop-count-smaller
loop-count-smaller g c =
    fewer_left _ _ (g.S.Source.has_failed c.loop-count.source) (g.met.S.Source.spent c.loop-count.source) c.in-Ok.ensures.works.0 c.read.ensures.counts
