use Rattle.cluster.proofs.Prelude.{◌∙◌, List, ap, eqb, length, nat_lt, not, sym, ℕ, other_readers}
use Rattle.cluster.proofs.NetLaws.{second_test, some_left}
use Rattle.cluster.proofs.net_uses.NetUses.leaves.Goals as goal

pub returns-else-is_global : goal.returns-else-is_global
returns-else-is_global c =
    second_test _ _ _ (sym c.is_global.ensures ∙ c.if-is_global.false)
    (c.has_other.ensures ∙ some_left (λ reader. not (eqb reader c.args.driver)) c.readers.result.now ∙ ap (λ (readers : List ℕ). nat_lt 0 (length (other_readers c.args.driver readers))) c.readers.ensures)
