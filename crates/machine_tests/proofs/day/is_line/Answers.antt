use Rattle.std.proofs.Common.{◌≤◌, ◌∙◌, length, sym, rules}
use Rattle.machine_tests.proofs.Kept.{line_of}
use Rattle.machine_tests.proofs.day.is_line.Goals as goal

pub returns-then-line-le-MAX_FED_LINE : goal.returns-then-line-le-MAX_FED_LINE
returns-then-line-le-MAX_FED_LINE c = λ none.
    let short : length c.args.line.now ≤ 1048640 = search rules in
    line_of c.args.line.now short (sym c.has_no_feed.ensures ∙ none)
