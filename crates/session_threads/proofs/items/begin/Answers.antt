use Rattle.session_threads.proofs.Prelude.{◌≡◌, true, ◌∙◌, rules, sym, is_item}
use Rattle.session_threads.proofs.OutcomeLemmas.{item_line}
use Rattle.session_threads.proofs.items.begin.Goals as goal

pub returns-in-Asks : goal.returns-in-Asks
returns-in-Asks c =
    let asks : is_item c.in-Asks.item ≡ true = search rules in
    record { line = λ bytes is. item_line bytes c.in-Asks.item (sym (c.form.ensures bytes is) ∙ c.in-Asks.is) asks; item = asks }
