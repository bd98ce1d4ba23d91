use Rattle.desk_circuits.proofs.Prelude.{◌≡◌, ◌++◌, List, map, take, account_now, AreFactsOf, NameFacts}
use Rattle.desk_circuits.proofs.usages.add_facts.Given as goal

-- the accounts before this one are added
abbrev pub invariant-loop-account : goal.invariant-loop-account
invariant-loop-account l =
    (added : List NameFacts) × (l.facts.items ≡ l.initial.facts.items ++ added) × AreFactsOf (map account_now (take l.account-index l.accounts)) added
