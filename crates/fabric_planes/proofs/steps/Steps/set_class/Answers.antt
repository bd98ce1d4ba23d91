use Rattle.fabric_planes.proofs.Prelude.{◌≡◌, ◌-◌, ◌++◌, ◌<◌, ◌∙◌, ℕ, List, Some, refl, ap, length, arith, slice_index, get_or_default, slice_get_within, Node, node_at_offset, graph_of, View, row_of, stride_of, step_view}
use Rattle.fabric_planes.proofs.StepRows.{class_copied, class_set, column_before, first_low, row_more, rows_few}
use Rattle.fabric_planes.proofs.steps.Steps.set_class.Goals.{else-wire-gt2-via-then-wire-gt2+else-wire-shape, else-wire-gt2-via-else-wire-gt2}
use Rattle.fabric_planes.proofs.steps.Steps.set_class.Goals as goal

pub returns-then-wire-shape : goal.returns-then-wire-shape
returns-then-wire-shape g c =
    let basis = g.G.StripGraph.basis c.args.shaped.now.graph.now in
    let is = c.laws.ensures.basis in
    let at = c.requires.first in
    let below = c.requires.below in
    let old = c.args.self.now.classes.items in
    let x : c.node-wire.result.x ≡ ((graph_of basis).node c.args.first).x = ap (λ (v : Node). v.x) c.node-wire.ensures in
    let before = column_before is c.args.place c.args.first at (omega (arith, x, c.if-wire-gt2.true)) (omega (arith, x, c.if-wire-shape.true, c.args.shaped.now.fits.width)) in
    let stride : c.stride.result ≡ stride_of basis = omega (arith, c.stride.ensures.value, c.args.shaped.now.fits.pins, c.args.shaped.now.fits.rows) in
    let within : c.args.place - c.stride.result < length old = omega (arith, first_low is c.args.place c.args.first at, below.long) in
    let class : c.index.result.now ≡ slice_index old (c.args.place - stride_of basis) =
    c.index.ensures ∙ (get_or_default old (c.args.place - c.stride.result) c.index.result.now 0 within ∙ ap (λ (s : ℕ). slice_index old (c.args.place - s)) stride) in
    class_copied is c.args.place c.args.first c.index.result.now c.args.self.now _ below at before class refl refl

pub overflow_cast-branch : goal.overflow_cast-branch
overflow_cast-branch g c =
    let is = c.laws.ensures.basis in
    let low = first_low is c.args.place c.args.first c.requires.first in
    omega (arith, slice_get_within c.number_of.new.rows c.in_ok-self.field-0 _ c.in_ok-self.ensures.row, c.in_ok-self.ensures.few, c.requires.below.few, rows_few is c.args.place (omega (arith, low)))

pub index_mut-requires-2 : goal.index_mut-requires-2
index_mut-requires-2 g c = omega (arith, first_low c.laws.ensures.basis c.args.place c.args.first c.requires.first, c.requires.below.long)

pub returns : goal.returns
returns g c =
    let basis = g.G.StripGraph.basis c.args.shaped.now.graph.now in
    let is = c.laws.ensures.basis in
    let at = c.requires.first in
    let below = c.requires.below in
    let wire = (graph_of basis).node c.args.first in
    let x : c.node-wire.result.x ≡ wire.x = ap (λ (v : Node). v.x) c.node-wire.ensures in
    let outer : 2 < wire.x → wire.x < basis.strip.width → ⊥ = λ some few. elim c.else-wire-gt2.branch [
      | else-wire-gt2-via-then-wire-gt2+else-wire-shape w ↦ omega (arith, some, few, x, w.if-wire-shape.false, c.args.shaped.now.fits.width)
      | else-wire-gt2-via-else-wire-gt2 w ↦ omega (arith, some, x, w.if-wire-gt2.false)
    ] in
    let view : View = record { track = 0; node = node_at_offset 2 c.node-wire.result } in
    let row : c.deref.result.now ≡ row_of basis (step_view wire) c.args.first =
    c.deref.ensures.value ∙ (c.in_ok-add_ends.ensures ∙ (ap (λ (xs : List ℕ). xs ++ row_of basis view c.args.first) c.clear.ensures.items ∙ ap (λ (v : Node). row_of basis (step_view v) c.args.first) c.node-wire.ensures)) in
    class_set is c.args.place c.args.first c.in_ok-self.field-0 c.args.self.now _ below at refl c.in_ok-self.ensures.kept
    (row_more is c.args.place c.args.first (length c.args.self.now.rows) (length c.number_of.new.rows) at below.few c.in_ok-self.ensures.few outer)
    (c.in_ok-self.ensures.row ∙ ap Some row)
