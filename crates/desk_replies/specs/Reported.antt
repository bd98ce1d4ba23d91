-- What `report` prints.
use Rattle.std.specs.Prelude.{ℕ, ◌≡◌, List, ◌++◌, Bool, true, false, Option, Some, None, Ok, IfSome}
use Rattle.desk_replies.specs.Prelude.{Gives, device_in, ListedDevice, DeviceSize, IsReport, report_text, Report, json_text, TakesAll, AnsweredLine, NameAccount, accounts_of, replies_in, script_of, Act, TenancyUse}
use Rattle.desk_replies.specs.Paths.{AreFactsOf, ShowsPathTable, ShowsPaths}
use Rattle.desk_replies.specs.Moves.{AreMoves}
use Rattle.desk_replies.specs.Overused.{IsOveruseOf}
use Rattle.desk_replies.specs.ReportJson.{report_json}
use Rattle.desk_replies.specs.Tables.{table_text}
use Rattle.desk_replies.specs.Written.{AreTextsOf}
use Rattle.desk_replies.specs.declared.report.ReportForm.{ReportForm}
use Rattle.desk_replies.specs.declared.report.ReportForm.TheVariants.{Lines, Table, Json, Moves}
use Rattle.desk_replies.specs.declared.report.ReportWishes.{ReportWishes}
use Rattle.desk_replies.specs.declared.report_facts.TenancyFacts.{TenancyFacts}
use Rattle.desk_replies.specs.declared.shared_device.SharedDevice.{SharedDevice}

-- the report is of the device of that size which the text prints
pub record IsReportOf (size : DeviceSize) (printed : List ℕ) (report : Report) : Type 0 where
  pub device : ListedDevice
  pub read : Gives (device_in size printed) (Ok device)
  pub of : IsReport device report

-- these are the accounts of a script's names, by the replies to it which the text prints
pub record AreAccountsOf (printed : List ℕ) (accounts : List NameAccount) : Type 0 where
  pub number : ℕ
  pub script : List ℕ
  pub acts : List (Act (List ℕ))
  pub are_acts : script_of number script ≡ Ok acts
  pub replies : List AnsweredLine
  pub are_replies : replies_in acts printed ≡ Ok replies
  pub are_accounts : accounts ≡ accounts_of acts replies

module _ {S : Type 0} (contents : S → Option (List ℕ)) (has_failed : S → Bool) (old new : S) where
  -- the report is written as one object, with facts of its tenancies, by these accounts
  abbrev pub IsObject : Option (List NameAccount) → Report → Type 0
  IsObject accounts report =
      (facts : List TenancyFacts) × AreFactsOf accounts report.tenancies.items facts × TakesAll contents has_failed old new (json_text (report_json report facts))

  -- the report is written, then the longest path of each tenancy's netlist, and then where the
  -- routings of the tenancies are overused
  abbrev pub ArePathsShown : (TenancyUse → List ℕ → Type 0) → List NameAccount → Report → Type 0
  ArePathsShown IsOverused accounts report =
      (paths overused : List ℕ) × ShowsPaths accounts report paths × AreTextsOf IsOverused report.tenancies.items overused × TakesAll contents has_failed old new (report_text report ++ (paths ++ overused))

  -- the table is written, with the longest path of each tenancy's netlist
  abbrev pub IsPathTableShown : List NameAccount → Report → Type 0
  IsPathTableShown accounts report = (table : List ℕ) × ShowsPathTable accounts report table × TakesAll contents has_failed old new table

  -- just the report is written in that form, by these accounts, or moves
  abbrev pub IsShownBy : (TenancyUse → List ℕ → Type 0) → ReportForm → List NameAccount → Report → Type 0
  IsShownBy IsOverused Lines accounts report = ArePathsShown IsOverused accounts report
  IsShownBy IsOverused Table accounts report = IsPathTableShown accounts report
  IsShownBy IsOverused Json accounts report = IsObject (Some accounts) report
  IsShownBy IsOverused Moves accounts report = AreMoves contents has_failed old new report

  abbrev pub IsShownAlone : ReportForm → Report → Type 0
  IsShownAlone Lines report = TakesAll contents has_failed old new (report_text report)
  IsShownAlone Table report = TakesAll contents has_failed old new (table_text report)
  IsShownAlone Json report = IsObject None report
  IsShownAlone Moves report = AreMoves contents has_failed old new report

  -- with the script by its names' accounts, acts and replies, on some device; else without them
  abbrev pub IsShown : ReportForm → Bool → List ℕ → Report → Type 0
  IsShown form true printed report =
      (accounts : List NameAccount) × (are : AreAccountsOf printed accounts) × (device : Option SharedDevice) × IsShownBy (IsOveruseOf device are.acts are.replies) form accounts report
  IsShown form false printed report = IsShownAlone form report

  -- a report of what the whole input prints, if that is known, is written
  pub record IsReported (input : Option (List ℕ)) (wishes : ReportWishes) (has_script : Bool) : Type 0 where
    pub printed : List ℕ
    pub are_printed : IfSome input (λ bytes. printed ≡ bytes)
    pub report : Report
    pub of : IsReportOf wishes.size printed report
    pub shown : IsShown wishes.form has_script printed report
