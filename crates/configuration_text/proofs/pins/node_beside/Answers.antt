use Rattle.configuration_text.proofs.Prelude.{◌≡◌, ◌+◌, ◌<◌, List, [], Some, None, drop, length, sym, ap, ◌∙◌, rules, arith, get_or, common_steps, slice_get-get_or, node_beside, pairs_of, Node}
use Rattle.configuration_text.proofs.Searches.{beside_in, beside_out}
use Rattle.configuration_text.proofs.Switches.{drop_get}
use Rattle.configuration_text.proofs.pins.node_beside.Goals as goal

pub returns-in-Some : goal.returns-in-Some
returns-in-Some c =
    let paths = c.args.paths.now in
    let at = c.loop-path.path-index in
    let small : at < length paths = c.loop-path-test.true in
    let item : get_or paths at [] ≡ c.nodes.result.now = first_of (search (rules, c.nodes.ensures, c.path-item.is), grind (arith, common_steps, c.nodes.ensures, c.path-item.is)) in
    let split = drop_get paths at c.nodes.result.now (slice_get-get_or paths at [] small ∙ ap (λ (path : List Node). Some path) item) in
    sym (beside_in c.args.side c.nodes.result.now (drop (at + 1) paths) c.args.node c.in-Some.found (sym c.step_beside.ensures ∙ c.in-Some.is))
    ∙ sym (ap (λ (rest : List (List Node)). node_beside c.args.side (pairs_of rest) c.args.node) split) ∙ c.loop-path.invariant

pub loop-path-preserved : goal.loop-path-preserved
loop-path-preserved c =
    let paths = c.args.paths.now in
    let at = c.loop-path.path-index in
    let small : at < length paths = c.loop-path-test.true in
    let item : get_or paths at [] ≡ c.nodes.result.now = first_of (search (rules, c.nodes.ensures, c.path-item.is), grind (arith, common_steps, c.nodes.ensures, c.path-item.is)) in
    let split = drop_get paths at c.nodes.result.now (slice_get-get_or paths at [] small ∙ ap (λ (path : List Node). Some path) item) in
    let none : c.step_beside.result ≡ None = first_of (search (rules, c.in_default.is), search (rules, c.in_default.not-Some)) in
    sym (beside_out c.args.side c.nodes.result.now (drop (at + 1) paths) c.args.node (sym c.step_beside.ensures ∙ none))
    ∙ sym (ap (λ (rest : List (List Node)). node_beside c.args.side (pairs_of rest) c.args.node) split) ∙ c.loop-path.invariant
