-- The start of a script.
use Rattle.fpgad_run.proofs.Prelude.{◌≡◌, ℕ, Result, Ok, ap, ◌∙◌, Arch, ArchFault, Start, checked_start}

-- neither the architecture nor the script is refused
pub start_read : {A : Type 0} (start : Start A) (meant : Result Arch ArchFault) (said : Result A ℕ) (arch : Arch) (value : A) → start ≡ checked_start meant said → meant ≡ Ok arch → said ≡ Ok value → start ≡ Ok (arch, value)
start_read start meant said arch value starts reads says = starts ∙ ap (λ m. checked_start m said) reads ∙ ap (checked_start (Ok arch)) says
