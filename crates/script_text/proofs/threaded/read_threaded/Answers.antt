use Rattle.script_text.proofs.Prelude.{rules, ◌≡◌, ◌∙◌, length, sym, ap, Ok, parts_of, threaded_from, threaded_of, heard_by, parts_read}
use Rattle.script_text.proofs.ApartLemmas.{script-apart}
use Rattle.script_text.proofs.LineLemmas.{no_lines}
use Rattle.script_text.proofs.threaded.read_threaded.Goals as goal

pub returns-clause-apart : goal.returns-clause-apart
returns-clause-apart c =
    let none : length c.loop-rest.rest.now ≡ 0 = search rules in
    let read : threaded_of c.args.number c.args.text.now ≡ Ok (parts_read c.loop-rest.reader) =
    sym c.loop-rest.invariant.same ∙ ap (λ lines. threaded_from c.loop-rest.number (heard_by c.loop-rest.reader) lines) (no_lines c.loop-rest.rest.now none) in
    let is : threaded_of c.args.number c.args.text.now ≡ Ok (parts_of c.into_script.result) = read ∙ ap Ok (sym c.into_script.ensures) in
    script-apart c.args.number c.args.text.now (parts_of c.into_script.result) is
