-- How the paths of a track's plane leave their starts.
use Rattle.fabric_planes.proofs.Prelude.{◌≡◌, ℕ, ◌+◌, ◌<◌, List, [], ◌∷◌, map, refl, sym, ap, ◌∙◌, subst, inl, inr, true, arith, Contains, sum_by, sum_by-cons, NodeKind, Source, Sink, Opin, Ipin, ChanX, ChanY, Node, IsWire, Basis, IsBasis, graph_of, Leads, IsPath, Family, IsPlane, IsPlace, family_of, IsWireOf, Terminals, place_of, shows, labels_of, planes_of, IsNetSearch, Head, IsWirePath, IsPinPath, IsSourcePath, IsPathFrom, IsStartKind}
use Rattle.fabric_planes.proofs.Joins.{IsReached}
use Rattle.fabric_planes.proofs.Labeled.{shown_at}
use Rattle.fabric_planes.proofs.PinPaths.{from_output, from_source}
use Rattle.fabric_planes.proofs.Strips.{are_labels, strip_family, edge_reached}

opin_sink : Opin ≡ Sink → ⊥
opin_sink e = cc

source_sink : Source ≡ Sink → ⊥
source_sink e = cc

module _ {basis : Basis} (is : IsBasis basis) (t : Terminals) (cost : ℕ → ℕ) (starts : List ℕ) (goal : ℕ) (search : IsNetSearch basis cost starts goal t) (track : ℕ) (few : track < basis.arch.tracks) where
  abbrev node : ℕ → Node
  node = (graph_of basis).node

  abbrev pub F : Family
  F = planes_of basis cost starts goal t

  plane : IsPlane (planes_of basis cost starts goal t) track
  unfolding family_of labels_of
  plane = (strip_family is cost starts goal t search).planes track few

  -- the node at a place
  pub record IsNodeOf (place : ℕ) : Type 0 where
    pub within : F.number track place < (graph_of basis).count
    pub shown : shows basis.strip t track (node (F.number track place)).kind (node (F.number track place)) ≡ true
    pub is_at : place_of basis (node (F.number track place)) ≡ place
    pub price : (F.plane track).cost place ≡ cost (F.number track place)

  pub node_of : (place : ℕ) → IsPlace F track place → IsNodeOf place
  unfolding family_of labels_of
  node_of place p = grind (arith, shown_at (labels_of basis cost starts goal t) (are_labels is cost starts goal t search) track place p.there)

  -- an edge of the plane
  pub edge_of : (place end : ℕ) → IsPlace F track place → Contains ((F.plane track).ends place) end → IsPlace F track end × Contains ((graph_of basis).ends (F.number track place)) (F.number track end)
  unfolding family_of labels_of
  edge_of place end p c = (plane.ends_there place end p c, plane.sound place end p c)

  pub entry_of : (entry : ℕ) → Contains (F.entries track) entry → IsPlace F track entry × Contains starts (F.number track entry)
  unfolding family_of labels_of
  entry_of entry c = (plane.entries_there entry c, plane.entries_sound entry c)

  goal_is : F.number track F.exit ≡ goal
  unfolding family_of labels_of
  goal_is = plane.exit_is

  -- the goal's node is a sink
  exit_kind : (place : ℕ) → place ≡ F.exit → (node (F.number track place)).kind ≡ Sink
  exit_kind place e = ap (λ (p : ℕ). (node (F.number track p)).kind) e ∙ (ap (λ (v : ℕ). (node v).kind) goal_is ∙ (ap (λ (v : Node). v.kind) search.terminals.goal_is ∙ search.terminals.kind))

  wire_at : (place : ℕ) → IsPlace F track place → IsWire (node (F.number track place)).kind → IsWireOf basis place (F.number track place) × ((node (F.number track place)).n ≡ track)
  wire_at place p w = grind (arith, node_of)

  -- what follows an output pin
  pub record IsAfterPin (place : ℕ) (rest : List ℕ) : Type 0 where
    pub wire : ℕ
    pub way : List ℕ
    pub begins : rest ≡ wire ∷ way
    pub wire_is : IsWireOf basis wire (F.number track wire)
    pub track_is : (node (F.number track wire)).n ≡ track
    pub edge : Contains ((graph_of basis).ends (F.number track place)) (F.number track wire)
    pub leads : Leads (F.plane track) F.exit wire way
    pub sum : sum_by (F.plane track).cost rest ≡ cost (F.number track wire) + sum_by (F.plane track).cost way

  pub after_pin : (rest : List ℕ) (place : ℕ) → IsPlace F track place → (node (F.number track place)).kind ≡ Opin → Leads (F.plane track) F.exit place rest → IsAfterPin place rest
  after_pin [] place p k l = absurd (opin_sink (sym k ∙ exit_kind place l))
  after_pin (next ∷ way) place p k l =
      let e = edge_of place next p l.0 in
      let n = node_of place p in
      let r = edge_reached is (F.number track place) (F.number track next) n.within e.1 in
      let w : IsWire (node (F.number track next)).kind = from_output basis.strip (node (F.number track next)).kind (node (F.number track place)) (node (F.number track next))
      (subst (λ k. IsReached basis.strip k (node (F.number track next)).kind (node (F.number track place)) (node (F.number track next))) k r.1) in
      let a = wire_at next e.0 w in
      record {
        wire = next;
        way = way;
        begins = refl;
        wire_is = a.0;
        track_is = a.1;
        edge = e.1;
        leads = l.1;
        sum = sum_by-cons (F.plane track).cost next way ∙ ap (λ (c : ℕ). c + sum_by (F.plane track).cost way) (node_of next e.0).price;
      }

  from_wire : (place : ℕ) (rest : List ℕ) → IsPlace F track place → Contains starts (F.number track place) → IsWire (node (F.number track place)).kind → Leads (F.plane track) F.exit place rest → IsWirePath basis starts F track (place ∷ rest)
  from_wire place rest p c w l =
      let a = wire_at place p w in
      let h : Head = record { start = F.number track place; pin = F.number track place; place = place; track = track; cost = 0 } in
      record {
        head = h;
        is = record { rest = map (F.number track) rest; begins = refl; pin = refl; wire_is = a.0; track = a.1 };
        on = refl;
        start = c;
        way = rest;
        leads = l;
        sum = refl;
      }

  from_pin : (place : ℕ) (rest : List ℕ) → IsPlace F track place → Contains starts (F.number track place) → (node (F.number track place)).kind ≡ Opin → Leads (F.plane track) F.exit place rest → IsPinPath basis cost starts F track (place ∷ rest)
  from_pin place rest p c k l =
      let a = after_pin rest place p k l in
      let h : Head = record { start = F.number track place; pin = F.number track place; place = a.wire; track = track; cost = 0 } in
      record {
        head = h;
        is = record {
          wire = F.number track a.wire;
          rest = map (F.number track) a.way;
          begins = ap (λ (v : List ℕ). F.number track place ∷ map (F.number track) v) a.begins;
          kind = k;
          pin = refl;
          wire_is = a.wire_is;
          track = a.track_is;
        };
        on = refl;
        start = c;
        edge = a.edge;
        way = a.way;
        leads = a.leads;
        sum = a.sum;
      }

  -- what follows a source: an output pin and a wire
  pub record IsAfterSource (place : ℕ) (rest : List ℕ) : Type 0 where
    pub pin : ℕ
    pub further : List ℕ
    pub begins : rest ≡ pin ∷ further
    pub there : IsPlace F track pin
    pub kind : (node (F.number track pin)).kind ≡ Opin
    pub edge : Contains ((graph_of basis).ends (F.number track place)) (F.number track pin)
    pub after : IsAfterPin pin further
    pub sum : sum_by (F.plane track).cost rest ≡ cost (F.number track pin) + (cost (F.number track after.wire) + sum_by (F.plane track).cost after.way)

  pub after_source : (rest : List ℕ) (place : ℕ) → IsPlace F track place → (node (F.number track place)).kind ≡ Source → Leads (F.plane track) F.exit place rest → IsAfterSource place rest
  after_source [] place p k l = absurd (source_sink (sym k ∙ exit_kind place l))
  after_source (pin ∷ rest) place p k l =
      let e = edge_of place pin p l.0 in
      let n = node_of place p in
      let r = edge_reached is (F.number track place) (F.number track pin) n.within e.1 in
      let o : (node (F.number track pin)).kind ≡ Opin = from_source basis.strip (node (F.number track pin)).kind (node (F.number track place)) (node (F.number track pin))
      (subst (λ k. IsReached basis.strip k (node (F.number track pin)).kind (node (F.number track place)) (node (F.number track pin))) k r.1) in
      pin_next rest place pin e.0 o e.1 (after_pin rest pin e.0 o l.1)
    where
      pin_next : (rest : List ℕ) (place pin : ℕ) → IsPlace F track pin → (node (F.number track pin)).kind ≡ Opin → Contains ((graph_of basis).ends (F.number track place)) (F.number track pin) → IsAfterPin pin rest → IsAfterSource place (pin ∷ rest)
      pin_next rest place pin there o edge a = record {
        pin = pin;
        further = rest;
        begins = refl;
        there = there;
        kind = o;
        edge = edge;
        after = a;
        sum = sum_by-cons (F.plane track).cost pin rest ∙ ((λ i. (node_of pin there).price i + a.sum i));
      }

  from_start : (rest : List ℕ) (place : ℕ) → Contains starts (F.number track place) → (node (F.number track place)).kind ≡ Source → IsAfterSource place rest → IsSourcePath basis cost starts F track (place ∷ rest)
  from_start rest place c k a =
      let h : Head = record { start = F.number track place; pin = F.number track a.pin; place = a.after.wire; track = track; cost = 0 } in
      record {
        head = h;
        is = record {
          wire = F.number track a.after.wire;
          rest = map (F.number track) a.after.way;
          begins = ap (λ (v : List ℕ). F.number track place ∷ map (F.number track) v) a.begins ∙ ap (λ (v : List ℕ). F.number track place ∷ F.number track a.pin ∷ map (F.number track) v) a.after.begins;
          kind = k;
          wire_is = a.after.wire_is;
          track = a.after.track_is;
        };
        on = refl;
        start = c;
        first = a.edge;
        edge = a.after.edge;
        way = a.after.way;
        leads = a.after.leads;
        sum = a.sum;
      }

  -- each path of the plane begins at a wire, at an output pin, at a source, or at what is no start
  pub plane_head : (path : List ℕ) → IsPath (F.plane track) (F.entries track) F.exit path → IsPathFrom basis cost starts F track path
  plane_head [] p = absurd p
  plane_head (place ∷ rest) p = by_kind (node (F.number track place)).kind refl
    where
      by_kind : (k : NodeKind) → (node (F.number track place)).kind ≡ k → IsPathFrom basis cost starts F track (place ∷ rest)
      by_kind Source e = let c = entry_of place p.0 in inr (inr (from_start rest place c.1 e (after_source rest place c.0 e p.1)))
      by_kind Sink e = let c = entry_of place p.0 in inl (inr (record { start = F.number track place; contained = c.1; kind = λ s. subst IsStartKind e s }))
      by_kind Opin e = let c = entry_of place p.0 in inr (inl (from_pin place rest c.0 c.1 e p.1))
      by_kind Ipin e = let c = entry_of place p.0 in inl (inr (record { start = F.number track place; contained = c.1; kind = λ s. subst IsStartKind e s }))
      by_kind ChanX e = let c = entry_of place p.0 in inl (inl (from_wire place rest c.0 c.1 (subst IsWire (sym e) tt) p.1))
      by_kind ChanY e = let c = entry_of place p.0 in inl (inl (from_wire place rest c.0 c.1 (subst IsWire (sym e) tt) p.1))
