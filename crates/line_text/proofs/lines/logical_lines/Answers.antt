use Rattle.line_text.proofs.Prelude.{◌≡◌, ◌<◌, length, arith, ap, sym, ◌∙◌, enumerate_from, physical_lines, reading_of, open_line, line_if, Reading, nat_tests, first_line}
use Rattle.line_text.proofs.LineLemmas.{content-again}
use Rattle.line_text.proofs.TextSteps.{gives-err, is_content-ascii, is_content-length, read_from-end, read_from-err, read_from-not_ascii, read_from-ok}
use Rattle.line_text.proofs.RisingLines.{rises_given}
use Rattle.line_text.proofs.OnePass.{read_all, lines_of-read, unread}
use Rattle.line_text.proofs.lines.logical_lines.Goals as goal

pub loop-rest-init : goal.loop-rest-init
loop-rest-init c =
    let reader = c.new-reader.result in
    let fresh : reading_of reader ≡ unread = ap (λ b. let r : Reading = record { done = (reading_of reader).done; unfinished = line_if b (open_line reader) } in r) c.new-reader.ensures.open ∙ ap (λ done. let r : Reading = record { done = done; unfinished = unread.unfinished } in r) c.new-reader.ensures.done in
    record {
      read = lines_of-read c.args.text.now ∙ ap (λ r. read_all r (enumerate_from 1 (physical_lines c.args.text.now))) (sym fresh);
      number = omega arith;
      count = omega (arith, c.new-reader.ensures.count);
    }

pub returns-in_default-clause-gives : goal.returns-in_default-clause-gives
returns-in_default-clause-gives c =
    c.loop-rest.invariant.read ∙ read_from-not_ascii (reading_of c.loop-rest.reader) c.loop-rest.number c.loop-rest.rest.now (grind (arith, nat_tests, c.loop-rest-test.ensures)) c.in_default.ensures

pub read_line-requires-clause-ascii : goal.read_line-requires-clause-ascii
read_line-requires-clause-ascii c = is_content-ascii c.loop-rest.rest.now _ _ c.in-Some.ensures

pub read_line-requires-clause-no_comment : goal.read_line-requires-clause-no_comment
read_line-requires-clause-no_comment c = content-again (first_line c.loop-rest.rest.now) _ c.in-Some.ensures.kept

pub returns-in_err-read_line-clause-gives : goal.returns-in_err-read_line-clause-gives
returns-in_err-read_line-clause-gives c =
    gives-err _ c.from_residual.result c.in_err-read_line.field-0.0 c.from_residual.ensures.1
    (read_from-err (reading_of c.loop-rest.reader) (reading_of c.read_line.new.self) c.loop-rest.number c.loop-rest.rest.now _ _ _ c.in_err-read_line.field-0.0 (grind (arith, nat_tests, c.loop-rest-test.ensures)) c.in-Some.ensures c.loop-rest.invariant.read c.in_err-read_line.ensures.read)

pub loop-rest-preserved : goal.loop-rest-preserved
loop-rest-preserved c =
    let filled : 0 < length c.loop-rest.rest.now = grind (arith, nat_tests, c.loop-rest-test.ensures) in
    let room = is_content-length c.loop-rest.rest.now _ _ filled c.in-Some.ensures in
    record {
      read = c.loop-rest.invariant.read ∙ read_from-ok (reading_of c.loop-rest.reader) (reading_of c.read_line.new.self) c.loop-rest.number c.loop-rest.rest.now _ _ filled c.in-Some.ensures c.in_ok-read_line.ensures.read;
      number = omega arith;
      count = omega (arith, c.in_ok-read_line.ensures.count);
    }

pub returns-clause-gives : goal.returns-clause-gives
returns-clause-gives c =
    let reading = reading_of c.loop-rest.reader in
    let none : length c.loop-rest.rest.now ≡ 0 = grind (arith, nat_tests, c.loop-rest-test.ensures) in
    rw (c.loop-rest.invariant.read ∙ read_from-end reading c.loop-rest.number c.loop-rest.rest.now none) c.finish.ensures

pub returns-clause-rises : goal.returns-clause-rises
returns-clause-rises c = rises_given c.args.text.now c.finish.result (returns-clause-gives c)
