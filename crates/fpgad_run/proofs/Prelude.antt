-- The names that this crate's proofs use, but for its own lemmas.
pub use Rattle.std.proofs.Common.{List, Ok, Result, Some, [], add-one, ap, append-nil, arith, codes, false, get_or, length, length-append, refl, rules, slice_get, subst, suc, sym, true, zero, ℕ, ◌++◌, ◌<◌, ◌∙◌, ◌∷◌, ◌≡◌, ◌≤◌}
pub use Rattle.std.proofs.Math.ListN.{set}
pub use Rattle.std.proofs.lemmas.Grind.{flat_map-append}
pub use Rattle.std.proofs.lemmas.Iterator.Adapters.{YieldsList-from_vec}
pub use Rattle.std.proofs.lemmas.Iterator.Consumers.{YieldsList-end, YieldsList-turn}
pub use Rattle.std.proofs.lemmas.List.{get_or_default, length-map, length-set, map-id, map_push}
pub use Rattle.std.specs.List.{flat_map}
pub use Rattle.std.specs.Prelude.{IfOk, OnOk, is_ok, map}
pub use Rattle.std.specs.Str.{bytes_eq}
pub use Rattle.std.specs.declared.alloc.AllocError.{AllocError}
pub use Rattle.fpgad_run.specs.EndToEnd.{AreToldAlone}
pub use Rattle.fpgad_run.specs.Prelude.{Act, Answer, Arch, ArchFault, AreOwnJournals, AreParted, Asks, Basis, Call, Device, EachIsAlone, Failed, HasOneOwner, IsAnswer, IsBook, IsServedOnThreads, LineIsToldAlone, MemorySink, Run, Section, ServiceState, Session, SessionLine, Stage, answer_text, empty_service, last_id, named_act, output_of, own_graph, section_of, sink_text}
pub use Rattle.fpgad_run.specs.Program.{IsReplies, Start, checked_start, device_of}
pub use Rattle.fpgad_run.specs.Run.{IsAnswered, Telling, Tells, calls_of, replies_text, sections_after, told_operator, told_session, with_text}
pub use Rattle.fpgad_run.specs.Told.{Begins, IsEven, Serves, sections_in, sections_of, stage_of, told_so_far}
pub use Rattle.fpgad_run.specs.Zipped.{named_sections}
pub use Rattle.fpgad_run.specs.declared.in_order.Running.{Running}
pub use Rattle.fpgad_run.specs.declared.options.Options.{Options}
pub use Rattle.fpgad_run.specs.declared.sections.Sections.{Sections}
pub use Rattle.line_text.proofs.NameLemmas.{number_of-first, number_of-later, with_name-first, with_name-later}
pub use Rattle.line_text.specs.Names.{number_of, with_name}
pub use Rattle.line_text.specs.Writing.{Writes}
pub use Rattle.operator.proofs.OperatorLemmas.{on_ok}
pub use Rattle.operator.proofs.Stepping.{lengths-run, steady_asks}
pub use Rattle.operator.specs.HeldJobs.{HeldList}
pub use Rattle.script_text.specs.Threaded.{parts_of}
pub use Rattle.script_text.specs.declared.replies.SessionReplies.{SessionReplies}
pub use Rattle.sessions.proofs.StepLemmas.{Run-append}
pub use Rattle.sessions.specs.declared.line.SessionLine.TheVariants.{Blank}
