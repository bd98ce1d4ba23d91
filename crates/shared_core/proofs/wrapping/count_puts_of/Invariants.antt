use Rattle.shared_core.proofs.Prelude.{◌≡◌, ◌+◌, take, journal_of, puts_among}
use Rattle.shared_core.proofs.wrapping.count_puts_of.Given as goal

abbrev pub invariant-loop-place : goal.invariant-loop-place
invariant-loop-place g l = (l.puts.total ≡ l.fn.puts.total + puts_among (take l.place (journal_of l.service l.id))) × (l.own.amount ≡ l.fn.own.amount + puts_among (take l.place (journal_of l.service l.id))) × (l.own.parts ≡ l.fn.own.parts)
