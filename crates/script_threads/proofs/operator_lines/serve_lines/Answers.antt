use Rattle.script_threads.proofs.Prelude.{refl, subst, sym, ◌∙◌, map, OnOk, sink_text, HeldList, on_ok, named_operator, RepliesEach, stage}
use Rattle.script_threads.proofs.LineLemmas.{gives_keep}
use Rattle.script_threads.proofs.operator_lines.serve_lines.Goals as goal

pub returns-clause-replies : goal.returns-clause-replies
returns-clause-replies c =
    let each = c.serve_each-served in
    let last = stage c.args.graph.now each.new.operator each.new.jobs each.new.core in
    let P : HeldList → Type 0 = λ jobs. OnOk each.result (RepliesEach (stage c.args.graph.now c.args.operator.now jobs c.args.core.now) (map named_operator c.args.lines.items) (sink_text c.args.reply.now) (sink_text each.new.reply) last) in
    on_ok each.result
    (λ done. record {
      text = done.text;
      serves = record { calls = done.calls; last = last; served = done.served; names_are = refl; given_back = c.give_back.ensures };
      reply = done.reply;
    })
    (subst P c.new-jobs.ensures each.ensures)

pub returns-clause-even : goal.returns-clause-even
returns-clause-even c =
    let each = c.serve_each-served in
    on_ok each.result (λ done. done.even ∙ sym (gives_keep each.new.core c.give_back.new.core each.new.jobs c.give_back.ensures)) each.ensures
