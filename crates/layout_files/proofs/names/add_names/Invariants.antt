use Rattle.layout_files.proofs.Prelude.{◌≡◌, ◌≢◌, AllPairs, take}
use Rattle.layout_files.proofs.names.add_names.Given as goal

-- those before this one are added
abbrev pub invariant-loop-number : goal.invariant-loop-number
invariant-loop-number l = AllPairs (λ name other. name ≢ other) l.nets → l.names ≡ take l.number l.nets
