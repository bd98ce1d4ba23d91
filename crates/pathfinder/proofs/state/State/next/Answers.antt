use Rattle.pathfinder.proofs.Prelude.{◌≡◌, ◌+◌, ℕ, List, ap, accumulated_overuse, wiring_of, RoutingState}
use Rattle.pathfinder.proofs.state.State.next.Goals as goal

pub returns : goal.returns
returns c = λ basis next.
    let s = c.args.self in
    let trees = c.args.new.routes.items in
    let risen : c.accumulated_overuse-history.result.items ≡ accumulated_overuse (wiring_of basis) s.history.items trees =
    c.accumulated_overuse-history.ensures.risen basis s.history.items trees (rw c.deref.ensures.value next.rates) (rw c.deref-2.ensures.value next.tells) in
    let with_history : List ℕ → RoutingState = λ history. record { nets = s.nets.items; iterations = s.iterations + 1; trees = trees; history = history } in
    ap with_history risen
