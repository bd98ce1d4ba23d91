-- The names that this crate's proofs use, but for its own lemmas.
pub use Rattle.std.proofs.Common.{List, None, Option, Result, Some, [], ap, append-nil, append_assoc, arith, codes, cond, false, get_or, inl, inr, length, length-append, ltb, refl, rules, subst, suc, sym, take, true, zero, ℕ, ◌++◌, ◌+◌, ◌-◌, ◌<◌, ◌∙◌, ◌∷◌, ◌≡◌, ◌≢◌, ◌≤◌}
pub use Rattle.std.proofs.Math.ListN.{set}
pub use Rattle.std.proofs.lemmas.Bool.Decides.{nat_tests}
pub use Rattle.std.proofs.lemmas.Grind.{flat_map-append}
pub use Rattle.std.proofs.lemmas.List.{map_push, reverse-append, reverse-reverse}
pub use Rattle.std.proofs.lemmas.List.Elements.{All-push, filter_map-append}
pub use Rattle.std.proofs.lemmas.Option.{slice_get-map, slice_get_past, slice_get_read}
pub use Rattle.std.specs.Borrow.{Bor}
pub use Rattle.std.specs.List.{filter_map, flat_map}
pub use Rattle.std.specs.Map.{lookup}
pub use Rattle.std.specs.Prelude.{All, IfSome, OnErr, OnOk, is_some, option_copied, option_map, reverse, slice_get, unwrap_or, vec_len, ⊤}
pub use Rattle.std.specs.Str.{bytes_eq}
pub use Rattle.operator.specs.Held.{sink_text}
pub use Rattle.operator.specs.HeldJobs.{HeldList, Holds, PutsHeld, job_at, without_job}
pub use Rattle.operator.specs.Ids.{AreLastIds, newest_first}
pub use Rattle.operator.specs.OperatorText.{admitted_text, evicted_text, last_id, list_text, moved_text, name_of, names_after, outcome_text, refused_text, taken_text}
pub use Rattle.operator.specs.Operators.{Steps, Tries}
pub use Rattle.operator.specs.OwnersText.{owned_text, owners_text}
pub use Rattle.operator.specs.Prelude.{Basis, Call, GiveBack, Happens, History, JobState, MakesStep, Nothing, OpRefusal, OperatorLine, Recorded, Run, ServiceState, StepOutcome, StepsAndPuts, Take, Unfit, live_of, own_graph, state_of, texts}
pub use Rattle.operator.specs.Serving.{IsAdmission, IsServed, Stage, Tried, tried_calls, tried_text}
pub use Rattle.service_core.proofs.MovedStrips.{same_histories}
pub use Rattle.service_core.specs.Calls.{IsAdmitted, IsEvicted, IsGivenBack, IsMoved, IsTaken}
pub use Rattle.service_core.specs.Run.{IsGivenBackTo}
pub use Rattle.service_core.specs.Run.Call.{Admit, Evict, Move, Owners}
pub use Rattle.service_core.specs.Service.{with_changed}
pub use Rattle.sessions.proofs.Fitting.{none_never, own_after, taken_fits}
pub use Rattle.sessions.proofs.StepLemmas.{Run-append, given_runs, take_happens}
pub use Rattle.sessions.specs.SessionAnswer.{Asks, AsksCommand, EndsWait}
pub use Rattle.sessions.specs.Steps.{MadeStep, Waits}
pub use Rattle.sessions.specs.declared.line.SessionLine.{SessionLine}
pub use Rattle.sessions.specs.declared.line.SessionLine.TheVariants.{Blank, Command, Refused, Wait}
pub use Rattle.sessions.specs.declared.told.Answer.{Answer}
pub use Rattle.tenant_slot.specs.declared.reply.StateName.{StateName}
pub use Rattle.tenant_slot.specs.declared.reply.StepReply.TheVariants.{Finished}
