use Rattle.fabric_planes.proofs.Prelude.{◌≡◌, ◌++◌, ◌∙◌, List, true, is_some, sym, ap, subst, false≢true, IfOk-weaker, Node, is_node, IsRowFor, row_of}
use Rattle.fabric_planes.proofs.Consecutive.{same_number}
use Rattle.fabric_planes.proofs.shaped_graph.ShapedGraph.add_row.Goals.{in-Some+in_ok-add_ends-in-Some, in-None}
use Rattle.fabric_planes.proofs.shaped_graph.ShapedGraph.add_row.Goals as goal

pub returns : goal.returns
returns g c =
    let basis = g.G.StripGraph.basis c.args.self.now.graph.now in
    let listed = c.args.listed in
    let is : IsRowFor basis listed c.deref.result.now = elim c.match-number.branch [
      | in-Some+in_ok-add_ends-in-Some w ↦ λ number within at.
          c.deref.ensures.value
          ∙ (ap (λ v. v.items) w.list-is
          ∙ (w.in_ok-add_ends-in-Some.ensures
          ∙ (ap (λ (xs : List _). xs ++ row_of basis listed.view w.in-Some.number) c.clear.ensures.items
          ∙ ap (row_of basis listed.view) (same_number c.laws.ensures.basis w.in-Some.number number w.in-Some.ensures.value.0 within (w.in-Some.ensures.value.1 ∙ sym at)))))
      | in-None w ↦ λ number within at.
          absurd (false≢true (sym (ap is_some w.in-None.is) ∙ (c.number.ensures.there ∙ subst (λ (v : Node). is_node basis.arch basis.strip v ≡ true) at (c.laws.ensures.lawful.nodes number within))))
    ] in
    IfOk-weaker c.push.result _ _ (λ _ added. record { row = c.deref.result.now; is = is; added = added }) c.push.ensures.added
