use Rattle.desk_circuits.proofs.Prelude.{ℕ, ◌≤◌, List, length, subst, arith, take_all, slice_get-get_or, writes_part, account_now, Account, ShowsEach, ShowsUsage}
use Rattle.desk_circuits.proofs.Shown.{each_map, shown_more, shown_part, usage_unknown}
use Rattle.desk_circuits.proofs.usages.write_usages.Goals as goal

pub loop-account-preserved : goal.loop-account-preserved
loop-account-preserved g c =
    let accounts = c.args.accounts.now in
    let at = c.loop-account.account-index in
    let here = slice_get-get_or accounts at _ c.loop-account-test.true in
    shown_more (λ account. ShowsUsage c.args.is_table (account_now account)) accounts at _ _ _ _ here c.loop-account.invariant c.in_ok-write_account.ensures

pub returns-in_err-write_account : goal.returns-in_err-write_account
returns-in_err-write_account g c =
    let accounts = c.args.accounts.now in
    let at = c.loop-account.account-index in
    let here = slice_get-get_or accounts at _ c.loop-account-test.true in
    let part = shown_part (λ account. ShowsUsage c.args.is_table (account_now account)) (λ account. usage_unknown c.args.is_table (account_now account)) accounts at _ _ _ _ here c.loop-account.invariant c.in_err-write_account.ensures in
    (part.0, each_map (ShowsUsage c.args.is_table) account_now accounts part.0 part.1, writes_part c.from_residual.result c.from_residual.ensures.0 part.2)

pub returns : goal.returns
returns g c =
    let shows : Account → List ℕ → Type 0 = λ account. ShowsUsage c.args.is_table (account_now account) in
    let accounts = c.args.accounts.now in
    let past : length accounts ≤ c.loop-account.account-index = (let t = c.loop-account-test.false in omega (arith, t)) in
    let shown = c.loop-account.invariant in
    let all = subst (λ xs. ShowsEach shows xs shown.0) (take_all c.loop-account.account-index accounts past) shown.1 in
    (shown.0, each_map (ShowsUsage c.args.is_table) account_now accounts shown.0 all, shown.2)
