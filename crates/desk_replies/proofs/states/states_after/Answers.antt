use Rattle.desk_replies.proofs.Prelude.{ℕ, ◌≡◌, ◌∙◌, ◌+◌, List, [], ◌++◌, length, map, drop, ap, sym, arith, append_assoc, length-map, AnsweredLine, answered_line, named_act, Act, StateAfter, state_after, states_from}
use Rattle.std.proofs.lemmas.List.{append-nil}
use Rattle.desk_replies.proofs.StateLemmas.{no_more, states_next}
use Rattle.desk_replies.proofs.states.states_after.Goals as goal

pub loop-number-preserved : goal.loop-number-preserved
loop-number-preserved c =
    let number : ℕ = c.loop-number.number in
    let acts : List (Act (List ℕ)) = map named_act c.args.acts.now in
    let lines : List AnsweredLine = map answered_line c.lines-lines.result.now in
    let before : List StateAfter = map state_after c.loop-number.states.items in
    let later : List StateAfter = states_from (number + 1) (drop (number + 1) acts) (drop (number + 1) lines) in
    let next = states_next c.args.acts.now c.lines-lines.result.now number c.index-acts-number.result _ (omega arith) (omega arith) c.index-acts-number.is in
    ap (λ (states : List StateAfter). states ++ later) c.in_ok-add_states.ensures ∙ (append_assoc before _ later ∙ (ap (λ (states : List StateAfter). before ++ states) (sym next) ∙ c.loop-number.invariant))

pub returns : goal.returns
returns c =
    let acts : List (Act (List ℕ)) = map named_act c.args.acts.now in
    let lines : List AnsweredLine = map answered_line c.lines-lines.result.now in
    let long_acts : length acts ≡ length c.args.acts.now = length-map c.args.acts.now named_act in
    let long_lines : length lines ≡ length c.lines-lines.result.now = length-map c.lines-lines.result.now answered_line in
    let before : List StateAfter = map state_after c.loop-number.states.items in
    let none : states_from c.loop-number.number (drop c.loop-number.number acts) (drop c.loop-number.number lines) ≡ [] = no_more acts lines c.loop-number.number (omega arith) in
    sym (append-nil before) ∙ (ap (λ (states : List StateAfter). before ++ states) (sym none) ∙ (c.loop-number.invariant ∙ ap (states_from 0 acts) c.lines-lines.ensures))
