-- The names that this crate's proofs use, but for its own lemmas.
pub use Rattle.std.proofs.Common.{Bool, Err, List, None, Ok, Option, Some, [], ap, append-nil, append_assoc, arith, false, inl, inr, length, map, not, refl, rules, subst, suc, sym, take, take-take, take_all, true, zero, ℕ, ◌&&◌, ◌++◌, ◌+◌, ◌<◌, ◌∙◌, ◌∷◌, ◌≡◌, ◌≢◌, ◌≤◌, ◌⊎◌}
pub use Rattle.std.proofs.KnownBytes.{Appends-nil, Appends-trans, Consumes-nil, Consumes-trans}
pub use Rattle.std.proofs.lemmas.Bool.{and_from, and_parts}
pub use Rattle.std.proofs.lemmas.Grind.{flat_map-append}
pub use Rattle.std.proofs.lemmas.List.{length-append, map-append}
pub use Rattle.std.specs.Io.KnownBytes.{Consumes, IsAtEnd}
pub use Rattle.std.specs.List.{AllByRecursion, flat_map, list_all, onto_first}
pub use Rattle.std.specs.Prelude.{IfErr, IfOk, IfSome, OnErr, OnOk, Result, is_err, option_map, ◌==◌}
pub use Rattle.std.specs.declared.vec.Vec.{Vec}
pub use Rattle.dialogue.specs.History.{Follows}
pub use Rattle.line_feed.proofs.CutLemmas.{kept_none}
pub use Rattle.line_feed.specs.Feed.{ReadsAhead, Refills}
pub use Rattle.line_feed.specs.Pieces.{TakesPiece}
unfoldable pub use Rattle.line_feed.specs.Pieces.{kept_of}
pub use Rattle.line_service.proofs.LineLemmas.{both_lines, ended_then, lines_push, none_ended}
pub use Rattle.line_service.proofs.TalkLemmas.{answered_append, split_line}
pub use Rattle.line_service.specs.Conversation.{ended_lines}
pub use Rattle.live_lines.specs.Live.Asked.{Echoes, Figures, NoForm, Nothing}
pub use Rattle.live_machine.specs.Account.{line_in}
pub use Rattle.live_machine.specs.Machine.{is_busy, is_by_hand, is_outside}
pub use Rattle.live_machine.specs.Machine.Call.{GiveUp, Line, PutStep}
pub use Rattle.live_machine.specs.Parts.{EndsPut, HasTurns, IsGivenUp, IsTurnOf, PutsStep, TakesTurn}
pub use Rattle.live_machine.specs.Workers.{NeedNotWait}
pub use Rattle.live_machine.specs.declared.machine.Machine.{Machine}
pub use Rattle.live_machine.specs.declared.machine.steps.StepEnd.{StepEnd}
pub use Rattle.live_machine.specs.declared.machine.steps.StepEnd.TheVariants.{Again, Dropped, GivenUp, Made}
pub use Rattle.live_run.proofs.RetellLemmas.{part_told, retold_none, retold_then}
pub use Rattle.live_run.specs.Retelling.{is_told}
pub use Rattle.live_run.specs.declared.outcome.Outcome.TheVariants.{ArchRefused, ArchUnreadable, LogDiffers, LogInUse, LogIsStream, LogUnreadable, TooManyLines}
pub use Rattle.live_threads.specs.Endings.{IsProgramEnd, IsProgramRun, run_status}
pub use Rattle.live_threads.specs.Ends.{IsResumed, IsWhole, PutsSome, Resumes, RunsInput, RunsOpened, RunsService, ServesInput, StopsResuming, empty_on}
pub use Rattle.live_threads.specs.Fed.{AreFirst, AreReadLines, Fed, IsFed, PutsLines, TakesSome}
pub use Rattle.live_threads.specs.Outlet.{view_of}
pub use Rattle.live_threads.specs.Prelude.{AnswersLine, Asked, Basis, Call, CommandLine, Consumer, Done, Drain, EndsMachine, Event, FailedDevice, Fails, Happens, Input, IsHome, IsKept, IsLine, IsReady, IsRetold, Kept, LiveState, MachineState, NoMemory, Operates, Outcome, Producer, Put, Run, RunsLine, SameConsumer, SameProducer, Says, ServiceState, Step, Stopped, Take, TellsPart, Told, View, ahead_of, asked_of, begins_on, begins_with, is_one_line, is_ready, kept_lines, line_of, lines_in, machine_of, physical_lines, received, sent, state_in, status_of, text_told, with_feed, without_workers}
pub use Rattle.live_threads.specs.Replays.{ArePuts, CutsLine, HasReply, IsServable, LeadsFrom, LeadsTo, PutsHeld, Replays, ReplaysSome, ServesLine, StopsLine, StopsReplay, move_no_job, moves_job, put_line}
pub use Rattle.live_threads.specs.Serving.{EndsIn, HasStopped, IsServed, ServesSome, events_in, events_of}
pub use Rattle.live_threads.specs.Taken.{ClosesAs, ClosesTexts, CutsClosing, EndsServing, StopsClosing, StopsServing, TakesLines, cut_lines, lines_of}
pub use Rattle.live_threads.specs.declared.letters.InputEnd.{InputEnd}
pub use Rattle.live_threads.specs.declared.opened.ServesOpened.{ServesOpened}
pub use Rattle.live_threads.specs.declared.outlet.Devices.{Devices}
pub use Rattle.rtrb.specs.Ends.{SameRing}
pub use Rattle.rtrb.specs.declared.end.End.{End}
pub use Rattle.script_text.specs.declared.operator_line.OperatorLine.TheVariants.{Admit, Evict, Move, Owners}
pub use Rattle.tagged_lines.proofs.TagLemmas.{is_line, line_then}
