use Rattle.desk_layouts.proofs.Prelude.{IfOk-at_ok, LaidCircuit, IsLaidIn, IsFailure}
use Rattle.desk_layouts.proofs.Refusals.{err_as, refused}
use Rattle.desk_layouts.proofs.check.run.Goals as goal

pub returns-in-Ok-clause-checked : goal.returns-in-Ok-clause-checked
returns-in-Ok-clause-checked g c =
    let checked = IfOk-at_ok (λ _. (laid : LaidCircuit) × IsLaidIn c.args.paths c.in_ok-given.given laid) c.in_ok-checked.was c.check-checked.ensures.laid in
    record { given = c.in_ok-given.given; read = c.in_ok-given.ensures.read; laid = checked.0; laid_in = checked.1 }

pub returns-in_err-checked-clause-failed : goal.returns-in_err-checked-clause-failed
returns-in_err-checked-clause-failed g c =
    let fails = g.F.FileTexts.fails c.args.files.now in
    let text = g.F.FileTexts.text c.args.files.now in
    let failed = g.W.Sink.has_failed c.args.writer.now in
    err_as c.from_residual-in_err-checked.result c.in_err-checked.field-0.0 (IsFailure fails ⊥ text failed c.args.paths) c.from_residual-in_err-checked.ensures.1
    (refused fails ⊥ text failed c.args.paths c.in_ok-given.given c.in_ok-given.ensures.read c.in_err-checked.field-0.0 c.in_err-checked.ensures.refused)
