use Rattle.line_text.proofs.Prelude.{ap, ◌∙◌, ◌∷◌}
use Rattle.line_text.proofs.LineLemmas.{is_content-comment, is_content-end, is_content-line, is_empty, not_ascii-other}
use Rattle.line_text.proofs.physical_line.split_content.Goals as goal

pub returns-in_default : goal.returns-in_default
returns-in_default c =
    is_content-end c.args.text.now _ _ c.split_plain.ensures.front c.split_plain.ensures.back (is_empty _ c.in_default.ensures.cases)

pub returns-then-stop-eq10 : goal.returns-then-stop-eq10
returns-then-stop-eq10 c =
    is_content-line c.args.text.now _ _ _ c.split_plain.ensures.front c.split_plain.ensures.back (c.in-Some.ensures.cases.0 ∙ ap (λ b. b ∷ c.in-Some.rest.now) c.if-stop-eq10.true)

pub returns-then-stop-eq35 : goal.returns-then-stop-eq35
returns-then-stop-eq35 c =
    is_content-comment c.args.text.now _ _ c.in-Some.rest.now _ c.split_plain.ensures.front c.split_plain.ensures.back (c.in-Some.ensures.cases.0 ∙ ap (λ b. b ∷ c.in-Some.rest.now) c.if-stop-eq35.true) c.split_line.ensures.later

pub returns : goal.returns
returns c =
    not_ascii-other c.args.text.now _ c.in-Some.rest.now c.in-Some.stop.now c.split_plain.ensures.back c.in-Some.ensures.cases.0 c.if-stop-eq10.false c.if-stop-eq35.false
