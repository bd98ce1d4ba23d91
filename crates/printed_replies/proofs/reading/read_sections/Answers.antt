use Rattle.printed_replies.proofs.Prelude.{◌≡◌, ◌<◌, length, Ok, Err, Some, slice_get, sym, ◌∙◌, ap, arith, rules, answered_lines, rest_at, section_read, places_of, asked_in}
use Rattle.printed_replies.proofs.ReadLemmas.{section_is_not, section_is_read}
use Rattle.printed_replies.proofs.SectionLemmas.{session_at}
use Rattle.printed_replies.proofs.reading.read_sections.Goals as goal

pub read_section-requires-in-loop-number : goal.read_section-requires-in-loop-number
read_section-requires-in-loop-number c =
    let sections = c.args.sections.now in
    let name = c.name-name.result.now in
    let asked = asked_in (answered_lines c.args.lines.now.items) in
    let at : slice_get sections.names c.loop-number.number ≡ Some name = search rules in
    c.as_slice-places.ensures.value ∙ session_at (λ list. list.items) asked sections.names c.loop-number.number name sections.sessions.items c.index.result.now c.requires.names c.requires.sessions at c.index.ensures
    ∙ ap (places_of (Some name)) (sym c.loop-number.invariant.asked)

pub returns-in-Err-clause-read : goal.returns-in-Err-clause-read
returns-in-Err-clause-read c =
    let old = answered_lines c.loop-number.lines.items in
    let bytes = c.loop-number.rest.now in
    let name = c.name-name.result.now in
    let at : slice_get c.args.sections.now.names c.loop-number.number ≡ Some name = search rules in
    let stops : section_read (Some name) old bytes ≡ Err c.in-Err.left.bytes = search rules in
    sym c.loop-number.invariant.read ∙ section_is_not c.args.sections.now.names c.loop-number.number c.in-Err.left.bytes name old bytes at stops

pub loop-number-preserved : goal.loop-number-preserved
loop-number-preserved c =
    let old = answered_lines c.loop-number.lines.items in
    let new = answered_lines c.read_section-in-loop-number.new.lines.items in
    let bytes = c.loop-number.rest.now in
    let name = c.name-name.result.now in
    let at : slice_get c.args.sections.now.names c.loop-number.number ≡ Some name = search rules in
    let is : section_read (Some name) old bytes ≡ Ok (new, rest_at c.in-Ok.place) = search rules in
    let within : c.loop-number.number < length c.args.sections.now.names = search rules in
    record {
      within = omega (arith, within);
      asked = c.in-Ok.ensures.asked ∙ c.loop-number.invariant.asked;
      read = section_is_read c.args.sections.now.names c.loop-number.number name old new bytes (rest_at c.in-Ok.place) at is ∙ c.loop-number.invariant.read;
    }
