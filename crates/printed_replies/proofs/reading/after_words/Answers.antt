use Rattle.printed_replies.proofs.Prelude.{◌≡◌, ◌∙◌, Some, None, option_map, ap, codes, rules, after_prefix}
use Rattle.printed_replies.proofs.BehindLemmas.{heading_none, heading_some}
use Rattle.printed_replies.proofs.reading.after_words.Goals as goal

pub returns-in_err-after_prefix-2 : goal.returns-in_err-after_prefix-2
returns-in_err-after_prefix-2 c =
    let x = c.in_ok-after_prefix.field-0.now in
    let first : Some x ≡ after_prefix (codes "== ") c.args.printed.now = search rules in
    let second : None ≡ after_prefix c.args.name.now x = search rules in
    ap (option_map (λ rest. rest.now)) c.from_residual-in_err-after_prefix-2.ensures ∙ heading_none c.args.name.now c.args.printed.now x first second

pub returns : goal.returns
returns c =
    let x = c.in_ok-after_prefix.field-0.now in
    let y = c.in_ok-after_prefix-2.field-0.now in
    let first : Some x ≡ after_prefix (codes "== ") c.args.printed.now = search rules in
    let second : Some y ≡ after_prefix c.args.name.now x = search rules in
    c.after_prefix-3.ensures ∙ heading_some c.args.name.now c.args.printed.now x y first second
