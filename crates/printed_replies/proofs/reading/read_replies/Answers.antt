use Rattle.printed_replies.proofs.Prelude.{◌∙◌, List, map, ap, sym, subst, asked_in, AskedLine, asked_line, AreSections}
use Rattle.printed_replies.proofs.SectionLemmas.{asked_again}
use Rattle.printed_replies.proofs.reading.read_replies.Goals as goal

pub read_sections-requires : goal.read_sections-requires
read_sections-requires c =
    subst (λ (asked : List AskedLine). AreSections asked c.in_ok-sections.sections) (sym (ap asked_in c.in_ok-lines.ensures ∙ asked_again (map asked_line c.args.asked.now))) c.in_ok-sections.ensures

pub new-requires : goal.new-requires
new-requires c =
    subst (λ (asked : List AskedLine). AreSections asked c.in_ok-sections.sections) (sym (c.in-Ok.ensures.asked ∙ (ap asked_in c.in_ok-lines.ensures ∙ asked_again (map asked_line c.args.asked.now)))) c.in_ok-sections.ensures
