-- Packing and placing don't depend on the tracks of the channels.
use Rattle.one_user.proofs.Prelude.{ℕ, ◌≡◌, Bool, List, [], Result, Ok, Err, Option, refl, ap, arith, nat_lt, if◌then◌else◌, option_map_or, arch_from, arch_of, arch_of_lines, Arch, Pin, ArchFault, OverLimit, JoinedLine, lines_of, LineFault, MAX_TEXT, Circuit, fit_of, cluster_of, clusters_after, packed_of, unfit_of, Strip, nets_in, pass_count, placing_at, nets_to_route, places_by_block, placed_first, task_of, Task, placing_of, routing_of, task_for, Request, DevicePlan}
use Rattle.std.specs.Prelude.{length}

-- the first architecture, with the tracks of the second and the connections to them
abbrev pub with_tracks : Arch → Arch → Arch
with_tracks arch other = record {
  io_rat = arch.io_rat;
  pins = arch.pins;
  cluster_size = arch.cluster_size;
  lut_size = arch.lut_size;
  tracks = other.tracks;
  fc_output = other.fc_output;
  fc_input = other.fc_input;
  fc_pad = other.fc_pad;
}

-- ---- an architecture's text gives the same for all numbers of tracks, except what depends on them

module _ (tracks others : ℕ) (arch other : Arch) where
  from_lines : (lines : List JoinedLine) → arch_from lines tracks ≡ arch → arch_from lines others ≡ other → other ≡ with_tracks arch other
  from_lines lines is so = grind arith

  by_fault : (lines : List JoinedLine) (fault : Option ArchFault) → option_map_or Err fault (Ok (arch_from lines tracks)) ≡ Ok arch → option_map_or Err fault (Ok (arch_from lines others)) ≡ Ok other → other ≡ with_tracks arch other
  by_fault lines fault is so = grind arith

  by_lines : (lines : Result (List JoinedLine) LineFault) → arch_of_lines lines tracks ≡ Ok arch → arch_of_lines lines others ≡ Ok other → other ≡ with_tracks arch other
  by_lines lines is so = grind arith

  by_length : (long : Bool) (lines : Result (List JoinedLine) LineFault) (fault : ArchFault) → (if long then Err fault else arch_of_lines lines tracks) ≡ Ok arch → (if long then Err fault else arch_of_lines lines others) ≡ Ok other →
      other ≡ with_tracks arch other
  by_length long lines fault is so = grind arith

  pub same_text : (text : List ℕ) → arch_of text tracks ≡ Ok arch → arch_of text others ≡ Ok other → other ≡ with_tracks arch other
  unfolding arch_of
  same_text text is so = by_length (nat_lt MAX_TEXT (length text)) (lines_of text) (record { line = 0; kind = OverLimit }) is so

-- ---- the packing, the fit and the placing

pub same_unfit : (circuit : Circuit) (arch other : Arch) → unfit_of circuit (with_tracks arch other) ≡ unfit_of circuit arch
unfolding unfit_of
same_unfit circuit arch other = refl

pub same_fit : (strip : Strip) (circuit : Circuit) (arch other : Arch) → fit_of strip (packed_of circuit (with_tracks arch other)) ≡ fit_of strip (packed_of circuit arch)
unfolding fit_of packed_of clusters_after cluster_of
same_fit strip circuit arch other = refl

pub same_places : (task : Task) (other : Arch) (circuit : Circuit) (passes : ℕ) →
    places_by_block (placing_at (placing_of (record task { arch = with_tracks task.arch other })) circuit passes) ≡ places_by_block (placing_at (placing_of task) circuit passes)
unfolding packed_of clusters_after cluster_of task_of placed_first
same_places task other circuit passes = refl

-- the nets of the routing, from the packing and the placing for other tracks
pub same_nets : (task : Task) (other : Arch) (circuit : Circuit) →
    nets_to_route (record { arch = with_tracks task.arch other; strip = task.strip }) (packed_of circuit task.arch) (places_by_block (placing_at (placing_of task) circuit (pass_count task.strip)))
    ≡ nets_in (routing_of (record task { arch = with_tracks task.arch other })) circuit
unfolding nets_in nets_to_route packed_of clusters_after cluster_of task_of placed_first
same_nets task other circuit = refl

-- ---- the tasks of a request

pub same_task : (plan : DevicePlan) (request : Request) (arch other : Arch) → other ≡ with_tracks arch other → task_for plan other request ≡ record (task_for plan arch request) { arch = with_tracks arch other }
same_task plan request arch other is = ap (λ a. task_for plan a request) is

-- the placing is the same with each number of tracks
pub places_same : (plan : DevicePlan) (request : Request) (arch other : Arch) (circuit : Circuit) → other ≡ with_tracks arch other →
    places_by_block (placing_at (placing_of (task_for plan other request)) circuit (pass_count (task_for plan other request).strip))
    ≡ places_by_block (placing_at (placing_of (task_for plan arch request)) circuit (pass_count (task_for plan arch request).strip))
places_same plan request arch other circuit is = grind (arith, same_places (task_for plan arch request) other circuit (pass_count (task_for plan arch request).strip))
