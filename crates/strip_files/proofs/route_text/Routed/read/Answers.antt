use Rattle.strip_files.proofs.Prelude.{◌≡◌, ◌<◌, ◌∙◌, ◌++◌, List, [], ℕ, length, ap, arith, sym, subst, filter, append-nil, nat_tests, physical_lines, RouteNode, Net, AreTold, IsLineOfNode, IsReadOn, is_node_line, node_lines, first_nodes, is_net_line, starts_of, AreEachFrom, AreNamed, IsLineOfNet, net_lines}
use Rattle.strip_files.proofs.Nets.{each_step}
use Rattle.strip_files.proofs.Begun.{begun_step}
use Rattle.strip_files.proofs.Told.{nothing}
use Rattle.strip_files.proofs.route_text.Routed.read.Goals as goal

pub loop-rest-preserved : goal.loop-rest-preserved
loop-rest-preserved c =
    let rest : List ℕ = c.loop-rest.rest.now in
    let line : List ℕ = c.split_line.result.0.now in
    let later : List ℕ = c.split_line.result.1.now in
    let old : List RouteNode = c.loop-rest.routed.nodes.items in
    let new : List RouteNode = c.line.new.self.nodes.items in
    let all : List (List ℕ) = node_lines c.args.text.now in
    let filled : 0 < length rest = grind (arith, nat_tests, c.loop-rest-test.ensures) in
    let read : IsReadOn line old new = c.in_default.ensures.nodes in
    let lines_are = c.split_line.ensures.lines filled in
    let nets : List Net = c.loop-rest.routed.nets.items in
    let nodes_told : (more : List RouteNode) → AreEachFrom IsLineOfNode (length new) (node_lines later) more → AreTold all (new ++ more) = λ more told.
    (let step = each_step IsLineOfNode is_node_line line (physical_lines later) old new more read told in
    let here : AreEachFrom IsLineOfNode (length old) (node_lines rest) step.0 = subst (λ (lines : List (List ℕ)). AreEachFrom IsLineOfNode (length old) (filter is_node_line lines) step.0) (sym lines_are) step.1 in
    subst (λ (nodes : List RouteNode). AreTold all nodes) (sym step.2) (c.loop-rest.invariant.0 step.0 here)) in
    let begun = begun_step is_node_line is_net_line (physical_lines later) (length old) (length new) (first_nodes nets) (first_nodes c.line.new.self.nets.items) line c.in_default.ensures.nets in
    let new_nets : List Net = c.line.new.self.nets.items in
    let nets_told : (more : List Net) → AreEachFrom IsLineOfNet (length new_nets) (net_lines later) more → AreNamed c.args.text.now (new_nets ++ more) = λ more told.
    (let step = each_step IsLineOfNet is_net_line line (physical_lines later) nets new_nets more c.in_default.ensures.names told in
    let here : AreEachFrom IsLineOfNet (length nets) (net_lines rest) step.0 = subst (λ (lines : List (List ℕ)). AreEachFrom IsLineOfNet (length nets) (filter is_net_line lines) step.0) (sym lines_are) step.1 in
    subst (λ (all_nets : List Net). AreNamed c.args.text.now all_nets) (sym step.2) (c.loop-rest.invariant.1 step.0 here)) in
    (nodes_told, nets_told, begun ∙ ap (λ (lines : List (List ℕ)). first_nodes nets ++ starts_of is_node_line is_net_line (length old) lines) (sym lines_are) ∙ c.loop-rest.invariant.2)

pub returns-clause-nets : goal.returns-clause-nets
unfolding starts_of
returns-clause-nets c =
    let short : length c.loop-rest.rest.now ≡ 0 = grind (arith, nat_tests, c.loop-rest-test.ensures) in
    let none : c.loop-rest.rest.now ≡ [] = nothing c.loop-rest.rest.now short in
    let nets : List Net = c.loop-rest.routed.nets.items in
    let count = length c.loop-rest.routed.nodes.items in
    sym (append-nil (first_nodes nets)) ∙ ap (λ (rest : List ℕ). first_nodes nets ++ starts_of is_node_line is_net_line count (physical_lines rest)) (sym none) ∙ c.loop-rest.invariant.2

pub returns-clause-nodes : goal.returns-clause-nodes
returns-clause-nodes c =
    let short : length c.loop-rest.rest.now ≡ 0 = grind (arith, nat_tests, c.loop-rest-test.ensures) in
    let none : c.loop-rest.rest.now ≡ [] = nothing c.loop-rest.rest.now short in
    let all : List (List ℕ) = node_lines c.args.text.now in
    subst (λ (nodes : List RouteNode). AreTold all nodes) (append-nil c.loop-rest.routed.nodes.items)
    (c.loop-rest.invariant.0 [] (subst (λ (rest : List ℕ). AreEachFrom IsLineOfNode (length c.loop-rest.routed.nodes.items) (node_lines rest) []) (sym none) tt))

pub returns-clause-names : goal.returns-clause-names
returns-clause-names c =
    let short : length c.loop-rest.rest.now ≡ 0 = grind (arith, nat_tests, c.loop-rest-test.ensures) in
    let none : c.loop-rest.rest.now ≡ [] = nothing c.loop-rest.rest.now short in
    let nets : List Net = c.loop-rest.routed.nets.items in
    subst (λ (all : List Net). AreNamed c.args.text.now all) (append-nil nets)
    (c.loop-rest.invariant.1 [] (subst (λ (rest : List ℕ). AreEachFrom IsLineOfNet (length nets) (net_lines rest) []) (sym none) tt))
