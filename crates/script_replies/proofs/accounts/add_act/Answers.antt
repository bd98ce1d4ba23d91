use Rattle.script_replies.proofs.Prelude.{◌≡◌, ◌<◌, ◌-◌, ◌^◌, Some, length, sym, subst, rules, named_act, name_in, IsWithin, Account}
use Rattle.script_replies.proofs.AccountLemmas.{is_updated, within_at}
use Rattle.script_replies.proofs.accounts.add_act.Goals as goal

pub account_after-account-requires : goal.account_after-account-requires
account_after-account-requires c =
    let inside : c.number-number.result < length c.args.accounts.now.items = search rules in
    subst (λ (a : Account). IsWithin (2 ^ 64 - 1) a.usage) (sym c.index.ensures) (within_at c.args.accounts.now.items c.number-number.result c.index.result.now inside c.requires)

pub returns-then-number-len : goal.returns-then-number-len
returns-then-number-len c =
    let inside : c.number-number.result < length c.args.accounts.now.items = search rules in
    let named : name_in (named_act c.args.act.now) ≡ Some c.in-Some.name.now = search rules in
    is_updated c.args.names.now c.args.accounts.now.items (named_act c.args.act.now) c.args.reply.now c.in-Some.name.now c.number-number.result c.index.result.now c.account_after-account.result inside c.number-number.ensures.number named
    c.index.ensures c.account_after-account.ensures
