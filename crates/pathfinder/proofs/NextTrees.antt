-- The trees of the iteration after a routing's state.
use Rattle.pathfinder.proofs.Prelude.{◌≡◌, ℕ, ◌≤◌, ◌^◌, ◌∙◌, length, arith, Basis, IsRoutingGraph, graph_of, State, NewTrees, LeastPathLaws, More, wiring_of, AreRates, IsAfter, FindsNoPath, state_of, AreNext, IsRound, IsTable, AreRouted, AreNewTrees, IsFirstWithout, IsWiring}
use Rattle.pathfinder.proofs.Iterations.{IsReady, ready, next_trees, no_path, as_many, nodes_in, low_held, low_history}
use Rattle.pathfinder.proofs.Strips.{strip_wiring}

module _ (basis : Basis) (graph : IsRoutingGraph basis (graph_of basis)) (small : (graph_of basis).count ≤ 2 ^ 23) (paths : LeastPathLaws) (state : State) (at : IsAfter (wiring_of basis) (state_of state) More) where
  law : IsWiring (wiring_of basis)
  law = strip_wiring basis graph small

  here : IsReady (wiring_of basis) (state_of state)
  here = ready (wiring_of basis) law paths (state_of state) at

  pub round : IsRound (wiring_of basis) state.iterations state.history.items
  round = here.round

  pub past : IsTable (graph_of basis).count (2 ^ 20) state.history.items
  past = record { long = round.past; low = low_history state.iterations state.history.items round.few round.past_low }

  pub routed : AreRouted (wiring_of basis) state.nets.items state.held.items state.routes.items
  routed = record {
    nets = at.are_nets;
    same = here.same;
    long = state.told.long ∙ round.past;
    held = λ node few. state.told.tells node (omega (arith, few, round.past));
    on = here.on;
  }

  pub found : (new : NewTrees) → length new.held.items ≡ length state.held.items
      → AreNewTrees (wiring_of basis) state.iterations state.history.items state.nets.items state.routes.items new.held.items new.routes.items
      → AreRates basis state.history.items new.rates.items → AreNext basis (state_of state) new
  found new same trees rates =
      let long : length new.held.items ≡ (graph_of basis).count = same ∙ routed.long in
      let many = as_many (wiring_of basis) law paths (state_of state) at new.routes.items trees.0 in
      record {
        next = next_trees (wiring_of basis) law paths (state_of state) at new.routes.items trees.0;
        within = nodes_in (wiring_of basis) law paths (state_of state) at new.routes.items trees.0;
        few = round.few;
        past = past;
        table = record { long = long; low = low_held (wiring_of basis) new.held.items new.routes.items trees.1 long (omega (arith, many, at.are_nets.few)) };
        tells = trees.1;
        rates = rates;
      }

  pub found_none : (net : ℕ) → IsFirstWithout (wiring_of basis) state.iterations state.history.items state.nets.items state.routes.items net → FindsNoPath (wiring_of basis) (state_of state) net
  found_none net e = no_path (wiring_of basis) law paths (state_of state) at net e
