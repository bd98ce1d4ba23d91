use Rattle.script_replies.proofs.Prelude.{◌≡◌, ◌∙◌, length, map, ap, arith, length-map, answered_line, named_act, account_now, account_of}
use Rattle.script_replies.proofs.AccountLemmas.{accounts_within, add_next, all_added, none_yet}
use Rattle.script_replies.proofs.accounts.add_acts.Goals as goal

pub loop-place-init : goal.loop-place-init
loop-place-init c = c.requires.empty ∙ none_yet (map named_act c.args.acts.now) (map answered_line c.args.lines.now) c.args.names.now

pub add_act-requires : goal.add_act-requires
add_act-requires c =
    accounts_within (map named_act c.args.acts.now) (map answered_line c.args.lines.now) c.loop-place.place c.args.names.now (map account_now c.loop-place.accounts.items) (omega arith) c.loop-place.invariant

pub loop-place-preserved : goal.loop-place-preserved
loop-place-preserved c =
    add_next c.args.acts.now c.args.lines.now c.args.names.now c.loop-place.place c.index-acts-place.result _ (map account_now c.loop-place.accounts.items) (map account_now c.add_act.new.accounts.items)
    (omega arith) (omega arith) c.index-acts-place.is c.requires.names c.loop-place.invariant c.add_act.ensures

pub returns : goal.returns
returns c =
    let acts = map named_act c.args.acts.now in
    let lines = map answered_line c.args.lines.now in
    let long_acts : length acts ≡ length c.args.acts.now = length-map c.args.acts.now named_act in
    let long_lines : length lines ≡ length c.args.lines.now = length-map c.args.lines.now answered_line in
    c.loop-place.invariant ∙ all_added acts lines c.loop-place.place c.args.names.now (omega arith) ∙ ap (map (λ name. account_of name acts lines)) c.requires.names
