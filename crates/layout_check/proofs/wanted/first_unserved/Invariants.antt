use Rattle.layout_check.proofs.Prelude.{◌≡◌, ℕ, take, true, All, wants, is_in}
use Rattle.layout_check.proofs.wanted.first_unserved.Given as goal

abbrev pub invariant-loop-number : goal.invariant-loop-number
invariant-loop-number l = All (λ laid. (net : ℕ) → wants l.arch net laid ≡ true → is_in l.marks net ≡ true) (take l.number l.blocks)
