use Rattle.layout_files.proofs.Prelude.{◌∙◌, ◌++◌, ap, sym, Decides-eqb, strip_suffix_is, append_cancel_right, net_name}
use Rattle.layout_files.proofs.Printing.{in_None, in_Some}
use Rattle.layout_files.proofs.route_lines.net_before.Goals as goal

pub returns-in-None-clause-read : goal.returns-in-None-clause-read
returns-in-None-clause-read c = λ circuit net same names within is.
    let found = strip_suffix_is Decides-eqb c.args.word.now c.as_bytes.result.now c.strip_suffix.result c.strip_suffix.ensures.cases in
    absurd (in_None _ _ c.strip_suffix.result c.in-None.is found (net_name circuit net) (is ∙ ap (λ end. net_name circuit net ++ end) (sym c.as_bytes.ensures.value)))

pub returns-in-Some-clause-read : goal.returns-in-Some-clause-read
returns-in-Some-clause-read c = λ circuit net same names within is.
    let found = strip_suffix_is Decides-eqb c.args.word.now c.as_bytes.result.now c.strip_suffix.result c.strip_suffix.ensures.cases in
    c.net_named.ensures.read circuit net same names within
    (append_cancel_right c.in-Some.name.now (net_name circuit net) c.args.end.now (ap (λ end. c.in-Some.name.now ++ end) (sym c.as_bytes.ensures.value) ∙ sym (in_Some _ _ c.strip_suffix.result c.in-Some.name c.in-Some.is found) ∙ is))
