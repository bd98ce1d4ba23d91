use Rattle.layout_files.proofs.Prelude.{◌≢◌, All, codes, take}
use Rattle.layout_files.proofs.form.none_is_open.Given as goal

-- none of the names before this one is `open`
abbrev pub invariant-loop-net : goal.invariant-loop-net
invariant-loop-net l = All (λ name. name ≢ codes "open") (take l.net l.names)
