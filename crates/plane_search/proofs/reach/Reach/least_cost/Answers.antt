use Rattle.plane_search.proofs.Prelude.{ℕ, ◌<◌, ◌∷◌, arith, All, IsPermutation, All-contains, length_permutation, places_of, Open}
use Rattle.plane_search.proofs.Members.{Contains-first}
use Rattle.plane_search.proofs.Reaching.{moved, none_cheaper}
use Rattle.plane_search.proofs.reach.Reach.least_cost.Goals as goal

pub loop-item-init : goal.loop-item-init
loop-item-init g c = (omega arith, c.in_ok-begin.ensures)

pub follow-requires-clause-place : goal.follow-requires-clause-place
follow-requires-clause-place g c =
    let plane = c.tracks-tracks.ensures.lawful.planes c.args.starts.now.view.now.track c.args.starts.now.view.now.on in
    let entries = g.Q.Queue.entries in
    let taken : IsPermutation (entries c.loop-item.self.queue) (c.in-Some.item ∷ entries c.take.new.self) = rw c.in-Some.is at c.in_ok-item.ensures.some in
    omega (arith, plane.count, ((moved taken c.loop-item.invariant.1).reaching.keyed c.in-Some.item (Contains-first c.in-Some.item (entries c.take.new.self))).within)

pub loop-item-preserved : goal.loop-item-preserved
loop-item-preserved g c =
    let entries = g.Q.Queue.entries in
    let taken : IsPermutation (entries c.loop-item.self.queue) (c.in-Some.item ∷ entries c.take.new.self) = rw c.in-Some.is at c.in_ok-item.ensures.some in
    (omega (arith, c.loop-item.invariant.0, c.in_ok-limit.ensures.limit), c.in_ok-limit.ensures.under_way (places_of c.args.starts.now.list.now) c.args.most (moved taken c.loop-item.invariant.1))

pub loop-item-smaller : goal.loop-item-smaller
loop-item-smaller g c =
    let entries = g.Q.Queue.entries in
    let taken : IsPermutation (entries c.loop-item.self.queue) (c.in-Some.item ∷ entries c.take.new.self) = rw c.in-Some.is at c.in_ok-item.ensures.some in
    omega (arith, c.in_ok-limit.ensures.nearer, length_permutation (entries c.loop-item.self.queue) (c.in-Some.item ∷ entries c.take.new.self) taken)

pub returns-clause-least : goal.returns-clause-least
returns-clause-least g c =
    let f = g.P.Planes.family c.args.starts.now.view.now.planes.now in
    let plane = c.tracks-tracks.ensures.lawful.planes c.args.starts.now.view.now.track c.args.starts.now.view.now.on in
    let entries = g.Q.Queue.entries c.loop-item.self.queue in
    let above : All (λ (item : Open ℕ). c.loop-item.limit < item.key) entries = rw c.in_default.is at c.in_ok-item.ensures.none in
    none_cheaper plane.lawful (omega (arith, c.loop-item.invariant.0, c.requires)) c.loop-item.invariant.1
    (λ item has. All-contains (λ (item : Open ℕ). c.loop-item.limit < item.key) entries item above has)
    (λ start h. All-contains (λ (x : ℕ). x < (f.plane c.args.starts.now.view.now.track).count) (places_of c.args.starts.now.list.now) start c.args.starts.now.ordered.within h)
