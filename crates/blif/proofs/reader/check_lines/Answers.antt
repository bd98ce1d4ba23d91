use Rattle.blif.proofs.Prelude.{◌∙◌, [], sym, ap, err_from_is_err_and, sights_of}
use Rattle.blif.proofs.Answering.{declared_is}
use Rattle.blif.proofs.reader.check_lines.Goals as goal

pub check_each-requires-clause-begun : goal.check_each-requires-clause-begun
check_each-requires-clause-begun c =
    let begun = c.new-checker.ensures in
    begun ∙ ap (λ declared. sights_of declared []) (sym (declared_is c.new-checker.result c.args.declared [] begun))

pub returns : goal.returns
returns c = rw (declared_is c.new-checker.result c.args.declared [] c.new-checker.ensures) at c.in_ok-check_each.ensures

pub returns-in_err-check_each : goal.returns-in_err-check_each
returns-in_err-check_each c =
    let p = err_from_is_err_and c.from_residual.result c.from_residual.ensures.1 in
    rw (p.1, p.2) (rw (declared_is c.new-checker.result c.args.declared [] c.new-checker.ensures) at c.in_err-check_each.ensures)
