-- The state of a routing after a number of iterations.
use Rattle.job_state.proofs.Prelude.{ℕ, zero, suc, ◌≡◌, ◌+◌, ◌<◌, List, [], ◌∷◌, ◌++◌, length, drop, Some, None, Result, Ok, Err, arith, refl, subst, length-append, length-map, option_map_or, Tree, Standing, More, Done, GaveUp, NoPath, grown_tree, next_routing, routing_with_trees, rerouted_trees, routed_after, Wiring, Net}
use Rattle.pathfinder.specs.Negotiation.{Routed}

-- one tree for each net, or the number of one of the nets
abbrev AreOf : ℕ → Result (List Tree) ℕ → Type 0
AreOf many (Ok trees) = length trees ≡ many
AreOf many (Err net) = net < many

module _ (w : Wiring) (iterations : ℕ) (history : List ℕ) where
  all_rerouted : (nets : List Net) (new old : List Tree) (many : ℕ) → length new + length nets ≡ many → AreOf many (rerouted_trees w iterations history new nets old)
  all_rerouted [] new old many e = omega (arith, e)
  all_rerouted (net ∷ nets) new old many e =
      elim (grown_tree w iterations history (new ++ drop 1 old) net.source [] net.sinks) as (λ found. AreOf many (option_map_or (λ tree. rerouted_trees w iterations history (new ++ tree ∷ []) nets (drop 1 old)) found (Err (length new)))) [
        | None ↦ omega (arith, e)
        | Some tree ↦ all_rerouted nets (new ++ tree ∷ []) (drop 1 old) many (omega (arith, e, length-append new (tree ∷ [])))
      ]

-- there is one tree for each net, and a net without a path is one of the nets
pub record IsOfNets (many : ℕ) (routed : Routed) : Type 0 where
  pub long : length routed.trees ≡ many
  pub named : (net : ℕ) → routed.standing ≡ NoPath net → net < many

judged_is : (w : Wiring) (iterations : ℕ) (routed : Routed) (many : ℕ) → length routed.trees ≡ many → (end : Result (List Tree) ℕ) → AreOf many end → IsOfNets many (routing_with_trees w iterations routed end)
judged_is w iterations routed many long end is = grind arith

iterated_is : (w : Wiring) (nets : List Net) (iterations : ℕ) (routed : Routed) (standing : Standing) → routed.standing ≡ standing → IsOfNets (length nets) routed → IsOfNets (length nets) (next_routing w nets iterations routed standing)
iterated_is w nets iterations routed More e is = judged_is w iterations routed (length nets) is.long _ (all_rerouted w iterations routed.history nets [] routed.trees (length nets) (omega arith))
iterated_is w nets iterations routed Done e is = is
iterated_is w nets iterations routed GaveUp e is = is
iterated_is w nets iterations routed (NoPath net) e is = is

-- this holds after any number of iterations
pub of_nets : (w : Wiring) (nets : List Net) (iterations : ℕ) → IsOfNets (length nets) (routed_after w nets iterations)
unfolding routed_after
of_nets w nets zero = record { long = length-map nets _; named = λ net e. absurd (cc) }
of_nets w nets (suc iterations) = iterated_is w nets iterations (routed_after w nets iterations) _ refl (of_nets w nets iterations)

iterated_last : (w : Wiring) (nets : List Net) (iterations : ℕ) (routed : Routed) (standing : Standing) → iterations + 1 ≡ 30 → routed.standing ≡ standing → (next_routing w nets iterations routed standing).standing ≡ More → ⊥
iterated_last w nets iterations routed standing last is h3 = grind arith

after_last : (w : Wiring) (nets : List Net) (iterations : ℕ) → iterations + 1 ≡ 30 → (routed_after w nets (suc iterations)).standing ≡ More → ⊥
unfolding routed_after
after_last w nets iterations last = iterated_last w nets iterations (routed_after w nets iterations) _ last refl

-- after the thirtieth it doesn't go on
pub ends_by_thirty : (w : Wiring) (nets : List Net) (iterations : ℕ) → iterations ≡ 30 → (routed_after w nets iterations).standing ≡ More → ⊥
ends_by_thirty w nets iterations last e = after_last w nets 29 (omega arith) (subst (λ count. (routed_after w nets count).standing ≡ More) last e)
