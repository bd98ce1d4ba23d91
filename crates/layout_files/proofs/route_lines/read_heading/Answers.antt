use Rattle.layout_files.proofs.Prelude.{ℕ, List, ◌++◌, ◌∷◌, ◌∙◌, [], Some, ap, codes, decimal, sym, append_assoc, net_name, left_after, heading_end, name_end}
use Rattle.layout_files.proofs.Printing.{took}
use Rattle.layout_files.proofs.Reading.{net_plain, plain_append}
use Rattle.layout_files.proofs.ReadingRoutes.{end_plain, global_read, heading_read, heading_rest, heading_split, rest_stops}
use Rattle.layout_files.proofs.route_lines.read_heading.Goals as goal

pub returns-clause-read : goal.returns-clause-read
returns-clause-read c = λ circuit net global after same names within e.
    let name = net_name circuit net in
    let number = decimal c.args.number in
    let rest = name ++ (heading_end global ++ after) in
    let begun = c.expect-2.ensures ∙ c.text.ensures.left ∙ ap (λ v. left_after v (codes "Net ")) (c.expect.ensures ∙ e ∙ ap Some (heading_read circuit c.args.number net (heading_end global ++ after))) in
    let numbered = took c.expect-2.new.self c.print.new.self (number ++ (32 ∷ 40 ∷ [])) rest (begun ∙ ap Some (sym (append_assoc number (32 ∷ 40 ∷ []) rest))) c.print.ensures.left in
    let worded = c.word-word.ensures.read (name ++ name_end global) (heading_rest global ++ after) (plain_append name (name_end global) (net_plain circuit net names) (end_plain global)) (rest_stops global after)
    (c.expect-3.ensures ∙ numbered ∙ ap Some (heading_split global name after)) in
    let told = global_read global c.takes-is_global.result after c.word-word.new.self c.takes-is_global.new.self worded.1 c.takes-is_global.ensures.whether c.takes-is_global.ensures.left in
    let found = c.net_before-net.ensures.read circuit net same names within (worded.0 ∙ ap (λ (end : List ℕ). name ++ end) (sym (c.name_end.ensures ∙ ap name_end told.0))) in
    (found.0, told.0, c.text-3.ensures.left ∙ ap (λ v. left_after v (codes "\n")) (c.expect-4.ensures ∙ c.text-2.ensures.left ∙ ap (λ v. left_after v (codes "\n")) (found.1 ∙ told.1)))
