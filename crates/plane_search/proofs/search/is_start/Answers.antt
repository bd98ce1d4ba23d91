use Rattle.plane_search.proofs.Prelude.{◌≢◌, ℕ, get_or, arith, ◌∙◌, sym, subst, Contains, places_of}
use Rattle.plane_search.proofs.Members.{at_index, below_next}
use Rattle.plane_search.proofs.Starting.{no_start, place_at, place_among, as_many}
use Rattle.plane_search.proofs.search.is_start.Goals as goal

pub returns-then-start-place : goal.returns-then-start-place
returns-then-start-place c =
    subst (λ (x : ℕ). Contains (places_of c.args.starts.now) x) c.if-start-place.true (place_among c.args.starts.now c.loop-start.start-index no_start c.loop-start-test.true)

pub loop-start-preserved : goal.loop-start-preserved
loop-start-preserved c =
    let starts = c.args.starts.now in
    let index = c.loop-start.start-index in
    below_next (λ (k : ℕ). get_or (places_of starts) k 0 ≢ c.args.place) index c.loop-start.invariant
    (λ e. c.if-start-place.false (sym (place_at starts index no_start c.loop-start-test.true) ∙ e))

pub returns : goal.returns
returns c = λ has.
    let at = at_index (places_of c.args.starts.now) c.args.place has in
    c.loop-start.invariant at.0 (omega (arith, at.1, as_many c.args.starts.now, c.loop-start-test.false)) at.2
