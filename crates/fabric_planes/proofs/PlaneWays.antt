-- Ways in a plane are ways of the whole graph.
use Rattle.fabric_planes.proofs.Prelude.{◌≡◌, ℕ, ◌<◌, List, [], ◌∷◌, map, refl, sym, ap, ◌∙◌, subst, arith, true, sum_by, sum_by-cons, Sink, Node, Basis, IsBasis, graph_of, Leads, Family, IsPlace, IsPlane, IsFamily, Labels, AreLabels, is_there, plane_of, family_of, Terminals, graph_at, labels_of, planes_of, place_of, IsNetSearch, AreSideBounds, IsBySide, IsWireAt}
use Rattle.fabric_planes.proofs.Labeled.{is_family, at_place, there_of}
use Rattle.fabric_planes.proofs.SideWays.{by_side}
use Rattle.fabric_planes.proofs.Strips.{are_labels}

module _ {f : Family} {track : ℕ} (plane : IsPlane f track) where
  leads_whole : (rest : List ℕ) (place : ℕ) → IsPlace f track place → Leads (f.plane track) f.exit place rest → Leads f.whole f.goal (f.number track place) (map (f.number track) rest)
  leads_whole [] place there l = ap (f.number track) l ∙ plane.exit_is
  leads_whole (x ∷ xs) place there l = (plane.sound place x there l.0, leads_whole xs x (plane.ends_there place x there l.0) l.1)

  sum_whole : (rest : List ℕ) (place : ℕ) → IsPlace f track place → Leads (f.plane track) f.exit place rest → sum_by f.whole.cost (map (f.number track) rest) ≡ sum_by (f.plane track).cost rest
  sum_whole [] place there l = refl
  sum_whole (x ∷ xs) place there l =
      let here : IsPlace f track x = plane.ends_there place x there l.0 in
      omega (arith, sum_by-cons f.whole.cost (f.number track x) (map (f.number track) xs), sum_by-cons (f.plane track).cost x xs, plane.cost x here, sum_whole xs x here l.1)

module _ (l : Labels) (are : AreLabels l) where
  -- a way leads from a place where something is
  pub way_there : (track : ℕ) → track < l.tracks → (place : ℕ) (rest : List ℕ) → Leads (plane_of l track) (l.place l.goal) place rest → is_there l track place ≡ true
  way_there track few place [] way = rw way (there_of l are track l.goal are.goal (are.goal_shown track few))
  way_there track few place (x ∷ xs) way = grind arith

module _ {basis : Basis} (is : IsBasis basis) {cost : ℕ → ℕ} {starts : List ℕ} {goal : ℕ} {t : Terminals} (search : IsNetSearch basis cost starts goal t) where
  abbrev node : ℕ → Node
  node = (graph_of basis).node

  family : IsFamily (planes_of basis cost starts goal t)
  family = is_family (labels_of basis cost starts goal t) (are_labels is cost starts goal t search)

  -- a place at which a wire is shown
  pub record IsWirePlace (track place number : ℕ) : Type 0 where
    pub wire : IsWireAt basis number
    pub track_is : (node number).n ≡ track
    pub is_at : place_of basis (node number) ≡ place
    pub shown : (labels_of basis cost starts goal t).is_shown track number ≡ true

  -- ways from a wire in its plane
  pub wire_way : (track place number : ℕ) → track < basis.arch.tracks → IsWirePlace track place number → (pins : ℕ → ℕ) (lasts : ℕ → ℕ → ℕ) → AreSideBounds basis cost (node goal) pins lasts
      → (rest : List ℕ) → Leads ((planes_of basis cost starts goal t).plane track) (planes_of basis cost starts goal t).exit place rest
      → IsBySide basis number (node goal) pins lasts (sum_by ((planes_of basis cost starts goal t).plane track).cost rest)
  unfolding family_of labels_of
  wire_way track place number few w pins lasts bounds rest way =
      let f = planes_of basis cost starts goal t in
      let l = labels_of basis cost starts goal t in
      let are = are_labels is cost starts goal t search in
      let plane = family.planes track few in
      let there : IsPlace f track place = subst (IsPlace f track) w.is_at (record { within = are.low track number w.wire.within w.shown; there = there_of l are track number w.wire.within w.shown }) in
      let is_number : f.number track place ≡ number = ap (f.number track) (sym w.is_at) ∙ at_place l are track number w.wire.within w.shown in
      let whole : Leads (graph_at basis cost) goal number (map (f.number track) rest) = subst (λ (v : ℕ). Leads (graph_at basis cost) goal v (map (f.number track) rest)) is_number (leads_whole plane rest place there way) in
      let kind : (node goal).kind ≡ Sink = ap (λ (v : Node). v.kind) search.terminals.goal_is ∙ search.terminals.kind in
      subst (IsBySide basis number (node goal) pins lasts) (sum_whole plane rest place there way)
      (by_side is search.costs goal search.terminals.goal_within kind pins lasts bounds number (map (f.number track) rest) w.wire whole)
