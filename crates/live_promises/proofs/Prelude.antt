-- The names that this crate's proofs use, but for its own lemmas.
pub use Rattle.std.proofs.Common.{List, [], ap, append-nil, append_assoc, arith, drop, inl, inr, map, refl, subst, suc, sym, take, true, zero, ℕ, ◌++◌, ◌+◌, ◌∙◌, ◌∷◌, ◌≡◌, ◌⊎◌}
pub use Rattle.std.proofs.Math.Seq.{take-nil}
pub use Rattle.std.proofs.lemmas.Grind.{flat_map-append}
pub use Rattle.std.proofs.lemmas.List.{take-append-drop}
pub use Rattle.std.specs.List.{AllByRecursion, flat_map}
pub use Rattle.std.specs.Prelude.{⊤}
pub use Rattle.dialogue.specs.History.{bytes_kept, bytes_told}
pub use Rattle.dialogue.specs.History.Event.{Kept, Told}
pub use Rattle.fpgad_run.proofs.Telling.{IsHeadline, answered_runs, told_runs}
pub use Rattle.fpgad_run.specs.Run.{IsAnswered}
pub use Rattle.live_input.specs.Serving.{AreTaken}
pub use Rattle.live_lines.specs.Live.{Takes}
pub use Rattle.live_machine.specs.Account.{log_drained, told_drained}
pub use Rattle.live_machine.specs.Machine.{Happens}
pub use Rattle.live_machine.specs.Machine.Call.{Drain, GiveUp, Line, PutStep, ServeHeld}
pub use Rattle.live_machine.specs.Turn.Turn.{Answers, Loses, Works}
pub use Rattle.live_promises.specs.Moments.{IsBackedByTurns}
pub use Rattle.live_promises.specs.Prelude.{AreToldAlone, Call, Device, Event, IsAccount, IsCut, IsDay, LiveState, MachineState, Run, Tagged, Telling, Tells, Turn, begins, begins_with, calls_of, empty_service, events_of, is_name, items_for, items_to_come, kept_in, kept_of, output_of, replies_for, replies_of, said_by, served_lines, told_in, told_to}
pub use Rattle.live_promises.specs.Told.{IsToldLive, of_script}
pub use Rattle.live_threads.specs.Serving.{EndsIn, IsPart, events_in}
pub use Rattle.operator.specs.Serving.{Stage}
pub use Rattle.script_text.specs.declared.act.Act.{Act}
pub use Rattle.sessions.proofs.StepLemmas.{Run-append}
