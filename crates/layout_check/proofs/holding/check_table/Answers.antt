use Rattle.layout_check.proofs.Prelude.{◌≡◌, false, rules, sym, ◌∙◌}
use Rattle.layout_check.proofs.BlePlaces.{get_some}
use Rattle.layout_check.proofs.holding.check_table.Goals as goal

pub returns-then-not-is_same_net : goal.returns-then-not-is_same_net
returns-then-not-is_same_net c =
    let q = get_some c.args.circuit.now.tables c.args.number c.requires.small in
    let no : c.is_same_net.result ≡ false = search rules in
    (q.0, record { at = q.1; same = c.requires.same q.0 q.1 }, rw c.clock.ensures at (sym c.is_same_net.ensures ∙ no))
