-- How errands end, and what they have written then.
use Rattle.std.specs.Prelude.{ℕ, ◌≡◌, ◌⊎◌, Bool, List, ◌++◌, decimal, Option, None, Result, codes, is_some, IfErr, IfOk, IfSome, ⊤}
use Rattle.std.specs.Option.{ForSome}
use Rattle.line_text.specs.Writing.{TakesAll, Writes}
use Rattle.line_text.specs.declared.source.Failed.{Failed}
use Rattle.live_run.specs.declared.options.TheConstants.{RESULTS_VERSION}
use Rattle.tenancy_script.specs.declared.script.ScriptParameters.{ScriptParameters}
use Rattle.desk_common.specs.Outcomes.{done_so, lines_so, written_so}
use Rattle.desk_common.specs.declared.outcome.Outcome.{Outcome}
use Rattle.desk_common.specs.declared.outcome.Outcome.TheVariants.{InputFailed, NoMemory}
use Rattle.desk_layouts.specs.Checked.{IsChecked}
use Rattle.desk_layouts.specs.Configured.{IsConfigured}
use Rattle.desk_layouts.specs.Drawn.{IsDrawn}
use Rattle.desk_layouts.specs.Refused.{IsFailure}
use Rattle.desk_log.specs.Shortened.{IsPrintOf, IsUnprinted}
use Rattle.desk_netlists.specs.Jobs.{IsDone}
use Rattle.desk_netlists.specs.Scripts.{Prints}
use Rattle.desk_replies.specs.Paged.{IsPageShown}
use Rattle.desk_replies.specs.Pictured.{IsPictureEnd}
use Rattle.desk_replies.specs.Reported.{IsReported}
use Rattle.desk_replies.specs.Served.{AreServed}
use Rattle.desk.specs.declared.errand.Errand.{Errand}
use Rattle.desk.specs.declared.errand.Errand.TheVariants.{Script, Files, Route, Check, Configure, Strip, Picture, Report, Page, Log}

-- the versions of the three programs, a line each, with what they were built from
abbrev pub versions_text : List ℕ → List ℕ
versions_text built_from =
    codes "fpgad_desk 1.0" ++ (built_from ++ (codes "\nfpgad 1.0" ++ (built_from ++ (codes "\nfpgad_live " ++ (decimal RESULTS_VERSION ++ (built_from ++ codes "\n"))))))

-- the outcome is that of a tool that says this if it is done, and this if it fails
pub record EndsAs {T : Type 0} (ends_so : Result T Outcome → Outcome) (says : T → Type 0) (fails : Outcome → Type 0) (outcome : Outcome) : Type 0 where
  pub result : Result T Outcome
  pub ended : outcome ≡ ends_so result
  pub done : IfOk result says
  pub failed : IfErr result fails

module _ {S : Type 0} (contents : S → Option (List ℕ)) (has_failed : S → Bool) (old new : S) where
  -- a text is written, or the output fails on the way
  pub record IsHelpWritten (outcome : Outcome) : Type 0 where
    pub help : List ℕ
    pub written : Result (Unit {0}) Failed
    pub writes : Writes contents has_failed old new help written
    pub ended : outcome ≡ written_so written

  -- the help is written, or memory ran out
  abbrev pub IsHelpEnd : Outcome → Type 0
  IsHelpEnd outcome = (outcome ≡ NoMemory) ⊎ IsHelpWritten outcome

module _ {S : Type 0} (contents : S → Option (List ℕ)) (has_failed : S → Bool) (old new : S) (input : Option (List ℕ)) where
  -- the netlist of a script is the whole input, if that is known
  pub record IsInputPrinted (wishes : ScriptParameters) (outcome : Outcome) : Type 0 where
    pub netlist : List ℕ
    pub is_input : IfSome input (λ bytes. netlist ≡ bytes)
    pub prints : Prints contents has_failed old new wishes netlist outcome

  -- or the input could not be read, or memory ran out
  abbrev pub IsScriptEnd : ScriptParameters → Outcome → Type 0
  IsScriptEnd wishes outcome = (outcome ≡ InputFailed) ⊎ ((outcome ≡ NoMemory) ⊎ IsInputPrinted wishes outcome)

  -- The errand is done, or it fails, as its tool says. `text` gives the text of a file by its path,
  -- if that is known, and `fails` what is known of a path whose file failed; what was written into
  -- folders is not known. Nothing is said of a random script and the lists of tools.
  abbrev pub IsEndOf : (List ℕ → Option (List ℕ)) → (List ℕ → Type 0) → Errand → Outcome → Type 0
  IsEndOf text fails (Script wishes) outcome = IsScriptEnd wishes outcome
  IsEndOf text fails (Files wishes) outcome = EndsAs lines_so (λ refused. AreServed contents has_failed old new text input wishes refused None None) (λ _. ⊤) outcome
  IsEndOf text fails (Route wishes) outcome = EndsAs done_so (λ _. IsDone text wishes None None) (λ _. ⊤) outcome
  IsEndOf text fails (Check paths) outcome = EndsAs done_so (λ _. IsChecked text paths × TakesAll contents has_failed old new (codes "implements\n")) (IsFailure fails ⊥ text (has_failed new) paths) outcome
  IsEndOf text fails (Configure wishes) outcome = EndsAs done_so (λ _. (printed : List ℕ) × IsConfigured text wishes.paths printed × TakesAll contents has_failed old new printed) (IsFailure fails (ForSome wishes.verilog (λ path. fails path.now)) text (has_failed new) wishes.paths) outcome
  IsEndOf text fails (Strip wishes) outcome = EndsAs done_so (λ _. IsDrawn contents has_failed old new text wishes) (λ _. ⊤) outcome
  IsEndOf text fails (Picture size) outcome = IsPictureEnd input size outcome
  IsEndOf text fails (Report wishes) outcome = EndsAs done_so (λ _. IsReported contents has_failed old new input wishes (is_some wishes.script)) (λ _. ⊤) outcome
  IsEndOf text fails (Page wishes) outcome = EndsAs done_so (λ _. IsPageShown contents has_failed old new text input wishes) (λ _. ⊤) outcome
  IsEndOf text fails (Log wishes) outcome = EndsAs done_so (λ _. (printed : List ℕ) × TakesAll contents has_failed old new printed × IsPrintOf text wishes printed) (IsUnprinted fails text (has_failed new) wishes) outcome
  IsEndOf text fails other outcome = ⊤
