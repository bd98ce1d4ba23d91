use Rattle.script_threads.proofs.Prelude.{◌≡◌, ◌++◌, ◌∙◌, ap, sym, rules, sink_text, evicted_line}
use Rattle.script_threads.proofs.PartLemmas.{told_push}
use Rattle.script_threads.proofs.part.evicted_part.Goals as goal

pub loop-item-preserved : goal.loop-item-preserved
loop-item-preserved g c =
    let told : sink_text c.tell.new.text ≡ sink_text c.loop-item.text ++ evicted_line c.in-Some.item = search rules in
    told ∙ ap (λ t. t ++ evicted_line c.in-Some.item) c.loop-item.invariant ∙ sym (told_push c.loop-item.yielded c.in-Some.item)
