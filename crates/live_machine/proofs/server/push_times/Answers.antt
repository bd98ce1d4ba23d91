use Rattle.live_machine.proofs.Prelude.{◌≡◌, ◌++◌, List, ℕ, ap, ◌∙◌, append_assoc, rules, repeat}
use Rattle.live_machine.proofs.LostLemmas.{repeated_more}
use Rattle.live_machine.proofs.server.push_times.Goals as goal

pub loop-preserved : goal.loop-preserved
loop-preserved c =
    let before = c.args.told.now.items in
    let text = c.args.text.now in
    let count = c.loop.counter in
    let put : c.extend_from_slice.new.self.items ≡ c.loop.told.items ++ text = search rules in
    put ∙ (ap (λ t. t ++ text) c.loop.invariant ∙ (append_assoc before (repeat count text) text ∙ ap (λ t. before ++ t) (repeated_more count text)))
