use Rattle.layout_check.proofs.Prelude.{◌≡◌, ◌∷◌, eqb, filter, not, take}
use Rattle.layout_check.proofs.entry.is_listed.Given as goal

abbrev pub invariant-loop-reader : goal.invariant-loop-reader
invariant-loop-reader l = l.listed.items ≡ l.driver ∷ filter (λ reader. not (eqb reader l.driver)) (take l.reader-index l.readers)
