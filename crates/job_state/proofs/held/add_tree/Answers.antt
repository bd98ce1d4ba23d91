use Rattle.job_state.proofs.Prelude.{arith, ◌≡◌, ◌++◌, [], ◌∙◌, ap, sym, get_or, take, get_or_from_slice_get, on_path, on_tree}
use Rattle.job_state.proofs.Gathered.{gathered_more}
use Rattle.job_state.proofs.held.add_tree.Goals as goal

pub loop-number-preserved : goal.loop-number-preserved
loop-number-preserved c =
    let tree = get_or c.args.routes.now c.args.net [] in
    let path : get_or tree c.loop-number.number [] ≡ c.path.result.now = get_or_from_slice_get tree c.loop-number.number c.path.result.now [] c.path.ensures in
    gathered_more on_path c.args.list.items c.in_ok-list.list.items tree c.loop-number.number [] (omega (arith, c.loop-number-test.true, c.path_count-number-end.ensures))
    (c.in_ok-list.ensures ∙ (ap (λ t. t ++ on_path c.path.result.now) c.loop-number.invariant ∙ ap (λ t. (c.args.list.items ++ on_tree (take c.loop-number.number tree)) ++ on_path t) (sym path)))
