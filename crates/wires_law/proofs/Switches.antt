-- No pair of the device's graph joins what two tenancies own.
use Rattle.wires_law.proofs.Prelude.{◌≡◌, ◌≢◌, ℕ, Bool, true, false, ◌&&◌, ◌||◌, List, map, Some, refl, sym, ◌∙◌, arith, and_parts, false≢true, le-leb, Arch, Strip, NodeKind, Node, Resource, ResourceKind, is_edge, is_node, is_slot, joins, has, moved_resource, resource_kind_of, resource_of, PlacedStrip, AreApart, strip_of, device_strip, is_in_window, strip_of_width, apart_of, beside_outside, pair_leaves, windows_apart, routed_set, Device, AreParted, History, state_of, IsOwner, Call, Run, ServiceState, empty_service, has-moved, in_window, are_parted, AreUntouched}
use Rattle.wires_law.proofs.OwnColumns.{own_of_routed}

or_none : (b : Bool) → b ≡ true → (b || false) ≡ true
or_none b e = grind arith

or_any : (b : Bool) → (b || true) ≡ true
or_any b = grind arith

-- what is in a column doesn't depend on the number of columns
slot_of_width : (arch : Arch) (device : Strip) (width : ℕ) (kind : NodeKind) (y n : ℕ) → is_slot arch (strip_of_width device width) kind y n ≡ is_slot arch device kind y n
slot_of_width arch device width kind y n = grind arith

-- a node whose resource an owner has is in the window of the owner's strip
record Seen (arch : Arch) (device : Strip) (state : ServiceState) (id : ℕ) (node : Node) : Type 0 where
  strip : PlacedStrip
  found : strip_of state.plan.strips id ≡ Some strip
  within : is_in_window arch device strip node ≡ true

node_seen : (arch : Arch) (device : Strip) (strip : PlacedStrip) (h : History) (node : Node) (held : ResourceKind) → resource_kind_of node.kind ≡ Some held → is_node arch device node ≡ true → strip.width ≡ h.strip.width →
    has (map (moved_resource strip.offset) (routed_set (state_of h))) (record { x = node.x; kind = held; y = node.y; n = node.n }) ≡ true → is_in_window arch device strip node ≡ true
node_seen arch device strip h node held kind is width has_it = grind (arith, in_window, has-moved, own_of_routed, le-leb)

owner_seen : (arch : Arch) (device : Strip) (dev : Device) (state : ServiceState) (id : ℕ) (node : Node) (r : Resource) → AreParted dev state → resource_of node ≡ Some r → IsOwner state r id → is_node arch device node ≡ true → Seen arch device state id node
owner_seen arch device dev state id node r parted is owns there = search (node_seen, arith)

-- so no pair leads from one to the other
pub untouched : (device : Device) (calls : List Call) (state : ServiceState) → Run (empty_service device) calls state → AreUntouched device state
untouched device calls state run = λ a b mine its id other is_a is_b owns other_owns differ.
    let whole : Strip = device_strip device.arch device.columns device.rows in
    let parted : AreParted device state = are_parted device calls state run in
    by_edge whole parted a b mine its id other is_a is_b owns other_owns differ (is_edge device.arch whole a b) refl
  where
    by_edge : (whole : Strip) → AreParted device state → (a b : Node) (mine its : Resource) (id other : ℕ) → resource_of a ≡ Some mine → resource_of b ≡ Some its → IsOwner state mine id → IsOwner state its other → id ≢ other →
        (e : Bool) → is_edge device.arch whole a b ≡ e → e ≡ false
    by_edge whole parted a b mine its id other is_a is_b owns other_owns differ false edge = refl
    by_edge whole parted a b mine its id other is_a is_b owns other_owns differ true edge =
        let outer = and_parts (is_node device.arch whole a) (is_node device.arch whole b && joins device.arch whole a.kind b.kind a b) edge in
        let inner = and_parts (is_node device.arch whole b) (joins device.arch whole a.kind b.kind a b) outer.1 in
        let s = owner_seen device.arch whole device state id a mine parted is_a owns outer.0 in
        let t = owner_seen device.arch whole device state other b its parted is_b other_owns inner.0 in
        let apart : AreApart s.strip t.strip = apart_of state.plan id other s.strip t.strip parted.parted s.found t.found differ in
        let back : AreApart t.strip s.strip = apart_of state.plan other id t.strip s.strip parted.parted t.found s.found (λ same. differ (sym same)) in
        let out : is_in_window device.arch whole s.strip b ≡ false = windows_apart device.arch whole t.strip s.strip b back t.within in
        let beside = pair_leaves device.arch whole s.strip a b edge s.within out in
        absurd (false≢true (sym (beside_outside device.arch whole s.strip t.strip b apart beside) ∙ t.within))
