use Rattle.configuration_text.proofs.Prelude.{◌≡◌, ◌<◌, List, [], Some, length, ap, ◌∙◌, rules, arith, get_or, common_steps, slice_get-get_or, Node}
use Rattle.configuration_text.proofs.Switches.{half_path}
use Rattle.configuration_text.proofs.switch_lines.push_switches.Goals as goal

pub loop-path-preserved : goal.loop-path-preserved
loop-path-preserved c =
    let paths = c.paths-paths.result.now in
    let at = c.loop-path.path-index in
    let small : at < length paths = c.loop-path-test.true in
    let item : get_or paths at [] ≡ c.nodes.result.now = first_of (search (rules, c.nodes.ensures, c.path-item.is), grind (arith, common_steps, c.nodes.ensures, c.path-item.is)) in
    half_path paths at c.nodes.result.now c.loop-path.text.items c.args.text.now.items c.loop-path.seen.items []
    (slice_get-get_or paths at [] small ∙ ap (λ (path : List Node). Some path) item) c.loop-path.invariant c.push_path.new.text.items c.push_path.new.seen.items c.in_ok-push_path.ensures.text c.in_ok-push_path.ensures.seen
