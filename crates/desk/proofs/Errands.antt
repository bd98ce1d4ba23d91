-- A call without a shell asks for no errand.
use Rattle.std.proofs.Common.{◌≡◌, ◌∙◌, ℕ, true, false, List, Result, Ok, Err, OnErr, codes, refl, sym}
use Rattle.std.proofs.lemmas.Slice.Eq.{bytes_eq-Decides}
use Rattle.std.specs.Str.{bytes_eq}
use Rattle.option_words.specs.declared.given.Given.{Given}
use Rattle.desk.specs.Errands.{IsErrandOf, IsShellAskedFor}
use Rattle.desk.specs.declared.errand.Errand.{Errand}
use Rattle.desk.specs.declared.errand.Errand.TheVariants.{Script, Files, Route, Check, Configure, Strip, Picture, Report, Page, Random, Log, Tools}
use Rattle.desk.specs.declared.tools.ToolsForm.{ToolsForm}
use Rattle.desk.specs.declared.tools.ToolsForm.TheVariants.{Bash, Zsh, Fish, Manual}

-- what holds, holds of an error
pub on_error : {T E P : Type 0} (result : Result T E) → P → OnErr result P
on_error (Ok value) h = tt
on_error (Err error) h = h

-- the name of the tool of an errand
abbrev name_of : Errand → List ℕ
name_of (Script wishes) = codes "script"
name_of (Files wishes) = codes "files"
name_of (Route wishes) = codes "route"
name_of (Check paths) = codes "check"
name_of (Configure wishes) = codes "configure"
name_of (Strip wishes) = codes "strip"
name_of (Picture size) = codes "picture"
name_of (Report wishes) = codes "report"
name_of (Page wishes) = codes "page"
name_of (Random wishes) = codes "random"
name_of (Log wishes) = codes "log"
name_of (Tools Manual) = codes "man"
name_of (Tools shell) = codes "completion"

module _ (name : List ℕ) (given : Given) where
  is_named : (errand : Errand) → IsErrandOf name given errand → name ≡ name_of errand
  is_named (Script wishes) asked = asked.0
  is_named (Files wishes) asked = asked.0
  is_named (Route wishes) asked = asked.0
  is_named (Check paths) asked = asked.0
  is_named (Configure wishes) asked = asked.0
  is_named (Strip wishes) asked = asked.0
  is_named (Picture size) asked = asked.0
  is_named (Report wishes) asked = asked.0
  is_named (Page wishes) asked = asked.0
  is_named (Random wishes) asked = asked.0
  is_named (Log wishes) asked = asked.0
  is_named (Tools Manual) asked = asked
  is_named (Tools Bash) asked = asked.0
  is_named (Tools Zsh) asked = asked.0
  is_named (Tools Fish) asked = asked.0

  -- the name is not that of another errand
  other : (own : List ℕ) (errand : Errand) → bytes_eq own (name_of errand) ≡ false → name ≡ own → IsErrandOf name given errand → ⊥
  other own errand differ is asked =
      let same : bytes_eq own (name_of errand) ≡ true = (bytes_eq-Decides own (name_of errand)).1 (sym is ∙ is_named errand asked) in
      let e : true ≡ false = sym same ∙ differ in
      absurd cc

  pub no_shell : name ≡ codes "completion" → ((form : ToolsForm) → IsShellAskedFor given form → ⊥) → (errand : Errand) → IsErrandOf name given errand → ⊥
  no_shell is none (Script wishes) asked = other (codes "completion") (Script wishes) refl is asked
  no_shell is none (Files wishes) asked = other (codes "completion") (Files wishes) refl is asked
  no_shell is none (Route wishes) asked = other (codes "completion") (Route wishes) refl is asked
  no_shell is none (Check paths) asked = other (codes "completion") (Check paths) refl is asked
  no_shell is none (Configure wishes) asked = other (codes "completion") (Configure wishes) refl is asked
  no_shell is none (Strip wishes) asked = other (codes "completion") (Strip wishes) refl is asked
  no_shell is none (Picture size) asked = other (codes "completion") (Picture size) refl is asked
  no_shell is none (Report wishes) asked = other (codes "completion") (Report wishes) refl is asked
  no_shell is none (Page wishes) asked = other (codes "completion") (Page wishes) refl is asked
  no_shell is none (Random wishes) asked = other (codes "completion") (Random wishes) refl is asked
  no_shell is none (Log wishes) asked = other (codes "completion") (Log wishes) refl is asked
  no_shell is none (Tools Manual) asked = other (codes "completion") (Tools Manual) refl is asked
  no_shell is none (Tools Bash) asked = none Bash asked.1
  no_shell is none (Tools Zsh) asked = none Zsh asked.1
  no_shell is none (Tools Fish) asked = none Fish asked.1
