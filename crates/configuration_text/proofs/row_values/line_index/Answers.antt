use Rattle.configuration_text.proofs.Prelude.{◌≡◌, ◌==◌, Bool, not, true, false, rules, tests, JoinedLine}
use Rattle.configuration_text.proofs.Rest.{prefix_more, prefix_stop}
use Rattle.configuration_text.proofs.row_values.line_index.Goals as goal

pub returns-then-number : goal.returns-then-number
returns-then-number c =
    let p : JoinedLine → Bool = λ line. not (line.number == c.args.number) in
    let no : p c.line.result ≡ false = search (rules, tests) in
    prefix_stop p c.args.netlist.now c.loop-place.place c.line.result _ c.line.ensures no c.loop-place.invariant

pub loop-place-preserved : goal.loop-place-preserved
loop-place-preserved c =
    let p : JoinedLine → Bool = λ line. not (line.number == c.args.number) in
    let yes : p c.line.result ≡ true = search (rules, tests) in
    prefix_more p c.args.netlist.now c.loop-place.place c.line.result _ c.line.ensures yes c.loop-place.invariant
