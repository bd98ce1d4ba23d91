use Rattle.strip_files.proofs.Prelude.{◌≡◌, ◌∙◌, ◌++◌, List, ℕ, true, false, sym, subst, RouteNode, IsReadOn, is_node_line, kind_start}
use Rattle.strip_files.proofs.Told.{always_ok, on_ok, other_line, told_line}
use Rattle.strip_files.proofs.route_text.Routed.line.Goals as goal

pub returns-in-Some-clause-nodes : goal.returns-in-Some-clause-nodes
returns-in-Some-clause-nodes c =
    let line : List ℕ = c.args.line.now in
    let tail : List ℕ = c.take_kind.new.scanner in
    let before : List RouteNode = c.args.self.now.nodes.items in
    let after : List RouteNode = c.node.new.self.nodes.items in
    let same : c.new-scanner.result ≡ line = c.new-scanner.ensures in
    let taken : (is_node_line c.new-scanner.result ≡ true) × (c.new-scanner.result ≡ kind_start c.in-Some.kind ++ tail) = c.in-Some.ensures in
    let begins : is_node_line line ≡ true = subst (λ (text : List ℕ). is_node_line text ≡ true) same taken.0 in
    on_ok c.node.result _ _ (λ told. told_line line tail before after c.in-Some.kind told.0 begins (sym same ∙ taken.1) told.1 told.2 told.3) c.node.ensures.nodes

pub returns-in-None-clause-nodes : goal.returns-in-None-clause-nodes
returns-in-None-clause-nodes c =
    let line : List ℕ = c.args.line.now in
    let before : List RouteNode = c.args.self.now.nodes.items in
    let after : List RouteNode = c.read_other.new.self.nodes.items in
    let same : c.new-scanner.result ≡ line = c.new-scanner.ensures in
    let left : (is_node_line c.new-scanner.result ≡ false) × (c.take_kind.new.scanner ≡ c.new-scanner.result) = c.in-None.ensures in
    let other : is_node_line line ≡ false = subst (λ (text : List ℕ). is_node_line text ≡ false) same left.0 in
    let is : IsReadOn line before after = other_line line before after other c.read_other.ensures.nodes in
    always_ok c.read_other.result (IsReadOn line before after) is
