-- What the words of a call ask for.
use Rattle.std.specs.Prelude.{ℕ, ◌≡◌, List, Some, codes}
use Rattle.option_words.specs.Values.{text_of}
use Rattle.option_words.specs.declared.given.Given.{Given}
use Rattle.desk_layouts.specs.Asked.{IsAskedFor, IsConfigureAskedFor}
use Rattle.desk_layouts.specs.StripAsked.{IsStripAskedFor}
use Rattle.desk_log.specs.Shortened.{IsAskedFor as IsLogAskedFor}
use Rattle.desk_netlists.specs.Asked.{IsRandomAskedFor, IsRouteAskedFor, IsScriptAskedFor}
use Rattle.desk_replies.specs.Asked.{IsDeviceAskedFor, IsFilesAskedFor, IsPageAskedFor, IsReportAskedFor}
use Rattle.desk.specs.declared.errand.Errand.{Errand}
use Rattle.desk.specs.declared.errand.Errand.TheVariants.{Script, Files, Route, Check, Configure, Strip, Picture, Report, Page, Random, Log, Tools}
use Rattle.desk.specs.declared.tools.ToolsForm.{ToolsForm}
use Rattle.desk.specs.declared.tools.ToolsForm.TheVariants.{Bash, Zsh, Fish, Manual}

-- the script is for the shell that is given
abbrev pub IsShellAskedFor : Given → ToolsForm → Type 0
IsShellAskedFor given Bash = text_of given (codes "shell") ≡ Some (codes "bash")
IsShellAskedFor given Zsh = text_of given (codes "shell") ≡ Some (codes "zsh")
IsShellAskedFor given Fish = text_of given (codes "shell") ≡ Some (codes "fish")
IsShellAskedFor given Manual = ⊥

-- the name is that of the tool for a shell, or of the one for the manual
abbrev pub AreToolsAskedFor : List ℕ → Given → ToolsForm → Type 0
AreToolsAskedFor name given Manual = name ≡ codes "man"
AreToolsAskedFor name given shell = (name ≡ codes "completion") × IsShellAskedFor given shell

-- the name is that of the errand's tool, and each of its wishes is that of its own option
abbrev pub IsErrandOf : List ℕ → Given → Errand → Type 0
IsErrandOf name given (Script wishes) = (name ≡ codes "script") × IsScriptAskedFor given wishes
IsErrandOf name given (Files wishes) = (name ≡ codes "files") × IsFilesAskedFor given wishes
IsErrandOf name given (Route wishes) = (name ≡ codes "route") × IsRouteAskedFor given wishes
IsErrandOf name given (Check paths) = (name ≡ codes "check") × IsAskedFor given paths
IsErrandOf name given (Configure wishes) = (name ≡ codes "configure") × IsConfigureAskedFor given wishes
IsErrandOf name given (Strip wishes) = (name ≡ codes "strip") × IsStripAskedFor given wishes
IsErrandOf name given (Picture size) = (name ≡ codes "picture") × IsDeviceAskedFor given size
IsErrandOf name given (Report wishes) = (name ≡ codes "report") × IsReportAskedFor given wishes
IsErrandOf name given (Page wishes) = (name ≡ codes "page") × IsPageAskedFor given wishes
IsErrandOf name given (Random wishes) = (name ≡ codes "random") × IsRandomAskedFor given wishes
IsErrandOf name given (Log wishes) = (name ≡ codes "log") × IsLogAskedFor given wishes
IsErrandOf name given (Tools form) = AreToolsAskedFor name given form
