-- Private: the texts of a run.
use Rattle.std.specs.Prelude.{ℕ, ◌≡◌, ◌+◌, ◌<◌, ◌^◌, List, length}
use Rattle.fpgad_run.specs.Prelude.{arch_of, script_of, threaded_of}
use Rattle.fpgad_run.specs.declared.inputs.Architecture.{Architecture}
use Rattle.fpgad_run.specs.declared.inputs.Texts.{Texts}
use Rattle.fpgad_run.specs.OnThreads.{threaded_start_of}
use Rattle.fpgad_run.specs.Program.{checked_start, start_of}

-- the texts are those of the input
pub record AreTexts (architecture : Architecture) (input : List ℕ) (texts : Texts) : Type 0 where
  pub in_order : (tracks : ℕ) → start_of tracks architecture input ≡ checked_start (arch_of texts.architecture.now tracks) (script_of texts.number texts.script.now)
  pub on_threads : (tracks : ℕ) → threaded_start_of tracks architecture input ≡ checked_start (arch_of texts.architecture.now tracks) (threaded_of texts.number texts.script.now)
  pub counted : texts.number + length texts.script.now < 2 ^ 64
