use Rattle.printed_replies.proofs.Prelude.{◌≡◌, ◌<◌, ◌≤◌, ◌+◌, length, get_or, Ok, Err, ap, refl, sym, ◌∙◌, arith, rules, drop_all, answered_lines, rest_at, speaker_of, and_then, answered_line, lines_read, reply_read}
use Rattle.printed_replies.proofs.SectionLemmas.{index_within, read_next, read_stops, reads_at, reads_own, same_asked}
use Rattle.printed_replies.proofs.reading.read_section.Goals as goal

pub loop-number-init : goal.loop-number-init
loop-number-init c =
    let speaker = speaker_of c.args.speaker in
    let lines = answered_lines c.args.lines.now.items in
    record {
      within = omega arith;
      live = search rules;
      asked = refl;
      read = ap (λ ps. reads_at (rest_at c.in_ok-place.place) ps lines) c.requires ∙ reads_own speaker (rest_at c.in_ok-place.place) lines ∙ sym (ap (λ r. and_then r (λ rest. lines_read speaker rest lines)) c.in_ok-place.ensures);
    }

pub index-requires : goal.index-requires
index-requires c =
    let inside = index_within (speaker_of c.args.speaker) c.args.places.now c.loop-number.number c.loop-number.lines.items c.args.lines.now.items c.requires c.loop-number.invariant.asked (search rules) in
    search rules

pub index_mut-requires : goal.index_mut-requires
index_mut-requires c =
    let inside = index_within (speaker_of c.args.speaker) c.args.places.now c.loop-number.number c.loop-number.lines.items c.args.lines.now.items c.requires c.loop-number.invariant.asked (search rules) in
    search rules

pub returns-in-Err-clause-read : goal.returns-in-Err-clause-read
returns-in-Err-clause-read c =
    let within : c.loop-number.number < length c.args.places.now = search rules in
    let inside = index_within (speaker_of c.args.speaker) c.args.places.now c.loop-number.number c.loop-number.lines.items c.args.lines.now.items c.requires c.loop-number.invariant.asked within in
    let stops : reply_read (rest_at c.loop-number.place) (answered_line c.index.result.now).asked ≡ Err c.in-Err.left.bytes = search rules in
    sym c.loop-number.invariant.read ∙ read_stops (rest_at c.loop-number.place) c.args.places.now c.loop-number.number c.in-Err.left.bytes c.loop-number.lines.items c.index.result.now within inside c.index.ensures stops

pub loop-number-preserved : goal.loop-number-preserved
loop-number-preserved c =
    let items = c.loop-number.lines.items in
    let within : c.loop-number.number < length c.args.places.now = search rules in
    let inside = index_within (speaker_of c.args.speaker) c.args.places.now c.loop-number.number items c.args.lines.now.items c.requires c.loop-number.invariant.asked within in
    let more : c.in-Ok.next.live ≤ c.loop-number.place.live + 1 = search rules in
    let live : c.loop-number.place.live ≤ c.loop-number.number = c.loop-number.invariant.live in
    let reads : reply_read (rest_at c.loop-number.place) (answered_line c.index.result.now).asked ≡ Ok (answered_line c.in-Ok.line, rest_at c.in-Ok.next) = search rules in
    record {
      within = omega (arith, within);
      live = omega (arith, more, live);
      asked = same_asked (rest_at c.loop-number.place) (rest_at c.in-Ok.next) items (get_or c.args.places.now c.loop-number.number 0) c.index.result.now c.in-Ok.line inside c.index.ensures reads ∙ c.loop-number.invariant.asked;
      read = read_next (rest_at c.loop-number.place) (rest_at c.in-Ok.next) c.args.places.now c.loop-number.number items c.index.result.now c.in-Ok.line within inside c.index.ensures reads ∙ c.loop-number.invariant.read;
    }

pub returns-clause-read : goal.returns-clause-read
returns-clause-read c =
    sym c.loop-number.invariant.read ∙ ap (λ ps. reads_at (rest_at c.loop-number.place) ps (answered_lines c.loop-number.lines.items)) (drop_all c.loop-number.number c.args.places.now (search rules))
