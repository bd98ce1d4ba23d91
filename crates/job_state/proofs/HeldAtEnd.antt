-- What a routing occupies at its end.
use Rattle.job_state.proofs.Prelude.{◌≡◌, [], Ok, ap, ◌∙◌, arith, Sources, Work, Routed, end_value, RoutedCircuit, held_by, held_at_end, resources_of}

-- if it has routes
pub held_is : (sources : Sources) (routed : RoutedCircuit) → end_value sources ≡ Ok (Routed routed) → resources_of sources ≡ held_by routed
unfolding resources_of
held_is sources routed is = ap held_at_end is

-- and if it has none
no_routes : (work : Work) → ((routed : RoutedCircuit) → work ≡ Routed routed → ⊥) → held_at_end (Ok work) ≡ []
no_routes work other = grind arith

pub nothing_held : (sources : Sources) (work : Work) → end_value sources ≡ Ok work → ((routed : RoutedCircuit) → work ≡ Routed routed → ⊥) → resources_of sources ≡ []
unfolding resources_of
nothing_held sources work is other = ap held_at_end is ∙ no_routes work other
