-- A placing serves for its own task, and for those with other tracks.
use Rattle.one_user.proofs.Prelude.{ℕ, ◌≡◌, List, Ok, Option, Some, None, refl, sym, ap, subst, ◌∙◌, arith, arch_of, Arch, Circuit, packed_of, nets_in, pads_in, pass_count, pads_of, Node, PlacingUnderWay, places_by_block, misfit_of, Task, routing_of, IsRunOn, counts_in, files_with, nets_on_device, IsPlacing, IsPlacedWith, IsTry, task_for, Request, DevicePlan, Run}
use Rattle.one_user.proofs.SameNets.{same_fit, same_nets, same_places, same_task, same_text, same_unfit, with_tracks}
use Rattle.one_user.proofs.SameTexts.{same_clusters, same_net_count, same_net_text, same_pads, same_place_text, same_route_text}
use Rattle.one_user.proofs.Tries.{Serves, basis_for, counts_for, routed_by, unrouted, whole_placing}

-- ---- its own task

own_nets : (task : Task) (circuit : Circuit) → nets_on_device (basis_for task) (whole_placing task circuit) ≡ nets_in (routing_of task) circuit
unfolding nets_in
own_nets task circuit = refl

own_counts : (task : Task) (circuit : Circuit) → counts_in (whole_placing task circuit) ≡ counts_for task circuit
unfolding packed_of
own_counts task circuit = refl

own_pads : (task : Task) (circuit : Circuit) → pads_of (packed_of circuit task.arch) (places_by_block (whole_placing task circuit)) ≡ pads_in (routing_of task) circuit
unfolding pads_in
own_pads task circuit = refl

pub serves_own : (task : Task) (placing : PlacingUnderWay) → IsPlacing task placing → Serves task placing
serves_own task placing given = grind (arith, own_nets, own_counts, own_pads)

pub own_circuit : (task : Task) (placing : PlacingUnderWay) (given : IsPlacing task placing) → (serves_own task placing given).circuit ≡ given.circuit
unfolding serves_own
own_circuit task placing given = refl

-- ---- a task with the tracks of another architecture

module _ (before : Task) (arch : Arch) where
  abbrev there : Task
  there = record before { arch = with_tracks before.arch arch }

  module _ (circuit : Circuit) where
    places_kept : places_by_block (whole_placing there circuit) ≡ places_by_block (whole_placing before circuit)
    places_kept = same_places before arch circuit (pass_count before.strip)

    files_kept : (routes : List (List (List Node))) → files_with (whole_placing there circuit) routes ≡ files_with (whole_placing before circuit) routes
    files_kept routes = grind (arith, places_kept, same_place_text, same_route_text, same_net_text)

    counts_kept : counts_for there circuit ≡ counts_for before circuit
    counts_kept = grind (arith, same_clusters, same_net_count)

    pads_kept : pads_in (routing_of there) circuit ≡ pads_in (routing_of before) circuit
    pads_kept = grind (arith, places_kept, same_pads, own_pads there circuit, same_pads circuit before.arch arch (places_by_block (whole_placing before circuit)), own_pads before circuit)

  serves_there : (placing : PlacingUnderWay) → IsPlacing before placing → Serves there placing
  serves_there placing given =
      let own = serves_own before placing given in
      record {
        circuit = given.circuit;
        said = given.said;
        fits = same_unfit given.circuit before.arch arch ∙ given.fits;
        enough = ap misfit_of (same_fit before.strip given.circuit before.arch arch) ∙ given.enough;
        all = given.all;
        nets = ap (nets_on_device (basis_for there)) given.is ∙ same_nets before arch given.circuit;
        files = λ routes. ap (λ (p : PlacingUnderWay). files_with p routes) given.is ∙ sym (files_kept given.circuit routes);
        counts = ap counts_in given.is ∙ own_counts before given.circuit ∙ sym (counts_kept given.circuit);
        pads = ap (λ (p : PlacingUnderWay). pads_of p.packed (places_by_block p)) given.is ∙ own_pads before given.circuit ∙ sym (pads_kept given.circuit);
      }

-- ---- a try with another number of tracks

module _ (plan : DevicePlan) (request : Request) (tracks : ℕ) (arch : Arch) (is : arch_of plan.text.now tracks ≡ Ok arch) (placing : PlacingUnderWay) (given : IsPlacedWith plan request placing) where
  abbrev task : Task
  task = task_for plan arch request

  pub serves : Serves task placing
  serves =
      let first = given.1 in
      let same = same_task plan request first arch (same_text given.0 tracks first arch plan.text.now given.2 is) in
      subst (λ (t : Task). Serves t placing) (sym same) (serves_there (task_for plan first request) arch placing given.3)

  pub strip_is : placing.strip ≡ task.strip
  strip_is = grind (arith, same_text)

  pub is_try : (run : Option Run) → IsRunOn (basis_for task) placing run → IsTry plan request tracks run
  is_try (Some run) on =
      let by = routed_by task placing serves on.0 on.1 on.2 run on.3 in
      ((arch, is, by.0), by.1, (by.2.0, by.2.1, (arch, is, by.2.2)))
  is_try None on =
      let left = unrouted task placing serves on.0 on.1 on.2 in
      (left.0, (arch, is, left.1), left.2)
