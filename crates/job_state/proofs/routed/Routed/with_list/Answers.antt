use Rattle.job_state.proofs.Prelude.{◌≡◌, ◌++◌, List, subst, Resource, AreThere, ListsAll, RoutedCircuit, held_by, on_trees}
use Rattle.job_state.proofs.There.{listed_there}
use Rattle.job_state.proofs.routed.Routed.with_list.Goals as goal

abbrev IsListed : RoutedCircuit → List Resource → Type 0
IsListed routed list = ListsAll (held_by routed) list × AreThere routed.basis list

is_listed : (made routed : RoutedCircuit) (pads list : List Resource) → made ≡ routed → pads ≡ made.pads → AreThere made.basis (held_by made) → ListsAll (on_trees made.routes ++ pads) list → IsListed routed list
is_listed made routed pads list view same there lists =
    let exact : ListsAll (held_by made) list = subst (λ others. ListsAll (on_trees made.routes ++ others) list) same lists in
    subst (λ (other : RoutedCircuit). IsListed other list) view (exact, listed_there made.basis (held_by made) list exact there)

pub invariant_of-result : goal.invariant_of-result
invariant_of-result c = is_listed _ c.args.self c.as_slice.result.now c.in-Ok.resources.items c.self.view_is c.as_slice.ensures.value c.self.invariant c.in-Ok.ensures
