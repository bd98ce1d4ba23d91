use Rattle.script_threads.proofs.Prelude.{◌≡◌, ◌∙◌, ℕ, List, ap, sym, subst, rules, map, YieldsList-from_vec, YieldsList-end, map-id, map_push, sink_text, OperatorLine, named_operator, RepliesEach, stage}
use Rattle.script_threads.proofs.LineLemmas.{replies_more}
use Rattle.script_threads.proofs.operator_lines.serve_each.Goals as goal

pub loop-line-preserved : goal.loop-line-preserved
loop-line-preserved c =
    let start = stage c.args.graph.now c.args.operator.now c.args.jobs.now c.args.core.now in
    let told = map named_operator c.loop-line.yielded in
    let served = c.in_ok-serve.ensures.told in
    let mid = stage c.args.graph.now c.loop-line.operator c.loop-line.jobs c.loop-line.core in
    let next = stage c.args.graph.now c.serve.new.self c.serve.new.jobs c.serve.new.core in
    let more = replies_more start told (sink_text c.args.reply.now) (sink_text c.loop-line.reply) (sink_text c.serve.new.reply) mid (named_operator c.in-Some.line) served.0 served.1 next c.loop-line.invariant served.2 served.3 served.4 in
    let P : List (OperatorLine (List ℕ)) → Type 0 = λ lines. RepliesEach start lines (sink_text c.args.reply.now) (sink_text c.serve.new.reply) next in
    subst P (sym (map_push named_operator c.loop-line.yielded c.in-Some.line)) more

pub returns : goal.returns
returns c =
    let end = YieldsList-end (YieldsList-from_vec {s = c.into_iter-line-iterator.result} c.args.lines.items (search rules) (search rules)) c.loop-line.yielded c.loop-line.line-iterator c.loop-line.yielded_by c.next.result c.next.new.self c.in-None.is c.next.ensures.steps in
    let yielded : c.loop-line.yielded ≡ c.args.lines.items = sym (map-id c.loop-line.yielded) ∙ end.0 in
    let P : List (OperatorLine (List ℕ)) → Type 0 = λ lines. RepliesEach (stage c.args.graph.now c.args.operator.now c.args.jobs.now c.args.core.now) lines (sink_text c.args.reply.now) (sink_text c.loop-line.reply) (stage c.args.graph.now c.loop-line.operator c.loop-line.jobs c.loop-line.core) in
    subst P (ap (map named_operator) yielded) c.loop-line.invariant
