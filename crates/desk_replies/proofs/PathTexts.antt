-- Texts of longest paths, and what is written around them.
use Rattle.desk_replies.proofs.Prelude.{ℕ, Bool, List, Option, Some, None, Result, Ok, Err, refl, OnOk, TenancyUse, report_text, Report, all_then, TakesAll, Failed, NameAccount, IsOfAccount, ShowsPath, ShowsPaths, account_of, path_text, ArePathsShown, AreTextsOf, WritesSome}

-- no circuit is of each account
circuit_unknown : (account : Option NameAccount) → IsOfAccount account None
circuit_unknown (Some account) = tt
circuit_unknown None = refl

pub path_unknown : (is_row : Bool) (accounts : List NameAccount) (uses : TenancyUse) → (text : List ℕ) × ShowsPath is_row accounts uses text
path_unknown is_row accounts uses = (path_text is_row uses None, (None, circuit_unknown (account_of accounts uses.tenancy.name.now), refl))

-- the report, the paths, and where routings are overused
pub told_written : {S : Type 0} (contents : S → Option (List ℕ)) (has_failed : S → Bool) (a b c d : S) (IsOverused : TenancyUse → List ℕ → Type 0) (accounts : List NameAccount) (report : Report) (paths : List ℕ) (r : Result (Unit {0}) Failed) → TakesAll contents has_failed a b (report_text report) →
    ShowsPaths accounts report paths → TakesAll contents has_failed b c paths → OnOk r (WritesSome contents has_failed c d (AreTextsOf IsOverused report.tenancies.items)) → OnOk r (ArePathsShown contents has_failed a d IsOverused accounts report)
told_written contents has_failed a b c d IsOverused accounts report paths (Ok u) first shows second over = (paths, over.0, shows, over.1, all_then first (all_then second over.2))
told_written contents has_failed a b c d IsOverused accounts report paths (Err failed) first shows second over = tt
