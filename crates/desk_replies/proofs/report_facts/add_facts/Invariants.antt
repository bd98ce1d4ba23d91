use Rattle.desk_replies.proofs.Prelude.{◌≡◌, ◌++◌, List, option_map, take, AreFactsOf, told_accounts, TenancyFacts}
use Rattle.desk_replies.proofs.report_facts.add_facts.Given as goal

-- the tenancies before this one are added
abbrev pub invariant-loop-uses : goal.invariant-loop-uses
invariant-loop-uses l =
    (added : List TenancyFacts) × (l.facts.items ≡ l.initial.facts.items ++ added) × AreFactsOf (option_map told_accounts l.told) (take l.uses-index l.tenancies) added
