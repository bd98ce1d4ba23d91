use Rattle.configuration_text.proofs.Prelude.{◌≡◌, ◌+◌, ◌<◌, ◌≤◌, ◌&&◌, not, get_or, length, sym, ap, ◌∙◌, ◌++◌, arith, rules, append-nil, List, ℕ, subst, list_any, each_once, is_same_edge, is_switch, make_node, Node, Source}
use Rattle.std.specs.List.{filter}
use Rattle.configuration_text.proofs.Switches.{IsHalfWritten, edges_text, half_new, half_old, step_end}
use Rattle.configuration_text.proofs.switch_lines.push_path.Goals as goal
use Rattle.configuration_text.proofs.switch_lines.push_path.Goals.{then-is_new_switch+in_ok-push_switch+in_ok-push, else-is_new_switch}

subst2 : (P : List ℕ → List (Node × Node) → Type 0) → {a b : List ℕ} {x y : List (Node × Node)} → a ≡ b → x ≡ y → P a x → P b y
subst2 P {a} {b} {x} {y} p q h = subst (λ (l : List ℕ). P l y) p (subst (λ (l : List (Node × Node)). P a l) q h)

pub loop-place-preserved : goal.loop-place-preserved
loop-place-preserved c =
    let path = c.args.path.now in
    let place = c.loop-place.place in
    let d = make_node 0 Source 0 0 in
    let t = c.loop-place-test.true in
    let e = c.saturating_sub-place-end.ensures in
    let inside : place + 1 < length path = omega (arith, t, e) in
    let seen = ap (λ (s : List (Node × Node)). is_switch (get_or path place d, get_or path (place + 1) d) && not (list_any (is_same_edge (get_or path place d, get_or path (place + 1) d)) s)) (sym c.as_slice.ensures.value) in
    elim c.if-is_new_switch.branch [
      | then-is_new_switch+in_ok-push_switch+in_ok-push w ↦
          half_new path place d c.loop-place.text.items c.args.text.now.items c.loop-place.seen.items c.args.seen.now.items c.loop-place.invariant inside
          (seen ∙ sym c.is_new_switch.ensures ∙ w.if-is_new_switch.true) c.if-is_new_switch.text.items c.if-is_new_switch.seen.items (search rules) (search rules)
      | else-is_new_switch w ↦
          subst2 (λ text seen. IsHalfWritten path (place + 1) text c.args.text.now.items seen c.args.seen.now.items) (search rules) (search rules)
          (half_old path place d c.loop-place.text.items c.args.text.now.items c.loop-place.seen.items c.args.seen.now.items c.loop-place.invariant inside (seen ∙ sym c.is_new_switch.ensures ∙ w.if-is_new_switch.false))
    ]

pub returns-clause-text : goal.returns-clause-text
returns-clause-text c =
    let path = c.args.path.now in
    let t = c.loop-place-test.false in
    let e = c.saturating_sub-place-end.ensures in
    let past : length path ≤ c.loop-place.place + 1 = omega (arith, t, e) in
    sym (append-nil c.loop-place.text.items)
    ∙ sym (ap (λ (s : List (Node × Node)). c.loop-place.text.items ++ edges_text (each_once c.loop-place.seen.items (filter is_switch s))) (step_end path c.loop-place.place past))
    ∙ c.loop-place.invariant.lines

pub returns-clause-seen : goal.returns-clause-seen
returns-clause-seen c =
    let path = c.args.path.now in
    let t = c.loop-place-test.false in
    let e = c.saturating_sub-place-end.ensures in
    let past : length path ≤ c.loop-place.place + 1 = omega (arith, t, e) in
    sym (append-nil c.loop-place.seen.items)
    ∙ sym (ap (λ (s : List (Node × Node)). c.loop-place.seen.items ++ each_once c.loop-place.seen.items (filter is_switch s)) (step_end path c.loop-place.place past))
    ∙ c.loop-place.invariant.edges
