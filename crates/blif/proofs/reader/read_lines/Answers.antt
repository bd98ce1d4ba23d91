use Rattle.blif.proofs.Prelude.{◌∙◌, [], map, sym, ap, flat_map, err_from_is_err_and, Sights, names_of, sights_of, number_of, first_fault, line_faults}
use Rattle.blif.proofs.Numbered.{numbered_all}
use Rattle.blif.proofs.Answering.{declared_is, gives_line_fault, gives_built, lawful_built}
use Rattle.blif.proofs.reader.read_lines.Goals as goal

pub returns-in_err-checker-clause-gives : goal.returns-in_err-checker-clause-gives
returns-in_err-checker-clause-gives c =
    let p = err_from_is_err_and c.from_residual-in_err-checker.result c.from_residual-in_err-checker.ensures.1 in
    rw (p.1, p.2) (gives_line_fault c.args.lut_size c.args.lines.now c.in_ok-declared.declared c.in_err-checker.field-0.0 c.requires c.in_ok-declared.ensures c.in_err-checker.ensures)

pub build-requires-clause-sights : goal.build-requires-clause-sights
build-requires-clause-sights c =
    let sights = c.in_ok-checker.ensures.1 in
    sights ∙ ap (λ d. sights_of d c.args.lines.now) (sym (declared_is c.in_ok-checker.checker c.in_ok-declared.declared c.args.lines.now sights))

pub build-requires-clause-numbers : goal.build-requires-clause-numbers
unfolding sights_of
build-requires-clause-numbers c =
    let names = flat_map names_of c.args.lines.now in
    c.as_slice.ensures ∙ c.in_ok-checker.ensures.3 ∙ numbered_all [] names
    ∙ ap (λ s. let t : Sights = s in map (number_of t.nets) names) (sym c.in_ok-checker.ensures.1)

pub returns-clause-gives : goal.returns-clause-gives
returns-clause-gives c =
    let same = declared_is c.in_ok-checker.checker c.in_ok-declared.declared c.args.lines.now c.in_ok-checker.ensures.1 in
    gives_built c.args.lut_size c.args.lines.now c.in_ok-checker.checker.declared c.build.result c.requires (same ∙ c.in_ok-declared.ensures) (ap (λ d. first_fault (line_faults c.args.lut_size d [] c.args.lines.now)) same ∙ c.in_ok-checker.ensures.0) c.build.ensures

pub returns-clause-lawful : goal.returns-clause-lawful
returns-clause-lawful c =
    let sights = c.in_ok-checker.ensures.1 in
    let same = declared_is c.in_ok-checker.checker c.in_ok-declared.declared c.args.lines.now sights in
    lawful_built c.args.lut_size c.args.lines.now c.in_ok-checker.checker.declared c.build.result c.requires (rw (same, ← sights) c.in_ok-checker.ensures.2) (ap (λ d. first_fault (line_faults c.args.lut_size d [] c.args.lines.now)) same ∙ c.in_ok-checker.ensures.0) c.build.ensures
