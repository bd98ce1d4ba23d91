-- The names that this crate's proofs use, but for its own lemmas.
pub use Rattle.std.proofs.Common.{Bool, List, None, Option, Result, Some, [], ap, append-nil, append_assoc, arith, codes, cond, decimal, eqb, false, get_or, if◌then◌else◌, length, nat_eq, not, refl, rules, subst, suc, sym, take, true, ℕ, ◌&&◌, ◌++◌, ◌+◌, ◌<◌, ◌∙◌, ◌∷◌, ◌≡◌, ◌≢◌, ◌≤◌}
pub use Rattle.std.proofs.KnownBytes.{Appends-nil, Appends-trans}
pub use Rattle.std.proofs.Math.ListN.{set}
pub use Rattle.std.proofs.Math.Seq.{take-suc}
pub use Rattle.std.proofs.lemmas.Bool.{false≢true}
pub use Rattle.std.proofs.lemmas.Bool.Decides.{nat_tests}
pub use Rattle.std.proofs.lemmas.Grind.{flat_map-append}
pub use Rattle.std.proofs.lemmas.List.{get_or_default, length-reverse, length-take-le, reverse-append}
pub use Rattle.std.proofs.lemmas.List.Folds.{list_all-append}
pub use Rattle.std.proofs.lemmas.Option.{get_or_from_slice_get, slice_get_within}
pub use Rattle.std.proofs.lemmas.Slice.Eq.{bytes_eq-Decides}
pub use Rattle.std.specs.Borrow.{Bor}
pub use Rattle.std.specs.Io.KnownBytes.{Appends}
pub use Rattle.std.specs.List.{flat_map, list_all, position_or_len}
pub use Rattle.std.specs.Prelude.{IfOk, is_ok, is_some, nat_le, nat_lt, option_copied, reverse, slice_get, ⊤}
pub use Rattle.std.specs.Str.{bytes_eq}
pub use Rattle.std.specs.declared.alloc.AllocError.{AllocError}
pub use Rattle.blif.specs.declared.fault.BlifFault.{BlifFault}
pub use Rattle.cluster.specs.Clusters.{PackedCircuit}
pub use Rattle.grid.specs.declared.Strip.{Strip}
pub use Rattle.grid.specs.declared.place.Place.{Place}
pub use Rattle.job_state.specs.declared.work.Work.{Work}
pub use Rattle.line_text.proofs.NameLemmas.{number_of-first, number_of-later, with_name-later}
pub use Rattle.line_text.specs.Names.{with_name}
pub use Rattle.line_text.specs.Writing.{Writes}
pub use Rattle.line_text.specs.declared.memory_sink.MemorySink.{MemorySink}
pub use Rattle.line_text.specs.declared.source.Failed.{Failed}
pub use Rattle.live_lines.specs.Acts.{IsAnswered, Telling, Tells}
pub use Rattle.live_lines.specs.Ends.{Ends, EndsLast, IsNamed, IsWithin, ending_for, open_text_refusal}
pub use Rattle.live_lines.specs.Figures.{AppendsFigures, AppendsRow, IsRow}
pub use Rattle.live_lines.specs.Laws.{item_for, items_for, replies_for, reply_for, said_by}
pub use Rattle.live_lines.specs.Live.{Asked, HasTag, LiveState, Takes, TakesAsked, TakesItem, TakesLine, TakesOperator, TellsFigures, TellsItem, asked_by, asked_of, asks, for_name, is_open, operator_told, stage_of, state_of, told_by}
pub use Rattle.live_lines.specs.Live.Asked.{Echoes, Figures, NoForm, Nothing, Operates, Says}
pub use Rattle.live_lines.specs.Prelude.{Act, Answer, Asks, Call, GivesItem, History, Operator, OperatorLine, Refused, Run, ServiceState, Session, SessionLine, Stage, Tagged, TextSoFar, UnfinishedUpload, answer_text, answer_told, blank_word, have_tags, id_of, is_good_id, is_name, is_of, items_to_come, last_id, live_of, named_operator, number_of, output_of, owner_of, physical_lines, rest_of, session_refusal_text, sink_text, tag_of, tagged_text, told_in, told_to, with_last_feed}
pub use Rattle.live_lines.specs.Said.{HearsLine, Texts, no_texts, text_in, texts_of}
pub use Rattle.live_lines.specs.declared.asked.LineRequest.{LineRequest}
pub use Rattle.live_lines.specs.declared.said.LastName.{LastName}
pub use Rattle.live_lines.specs.declared.said.LastName.TheVariants.{Missing}
pub use Rattle.live_lines.specs.declared.said.Said.{Said}
pub use Rattle.operator.proofs.OperatorLemmas.{on_ok}
pub use Rattle.operator.proofs.Stepping.{lengths-run, steady_asks}
pub use Rattle.operator.specs.HeldJobs.{HeldList}
pub use Rattle.operator.specs.OperatorText.{name_of}
pub use Rattle.operator.specs.Operators.{Answers}
pub use Rattle.rr_graph.specs.Graph.{Basis}
pub use Rattle.rr_graph.specs.declared.node.Node.{Node}
pub use Rattle.script_text.specs.Script.{is_name_byte}
unfoldable pub use Rattle.script_text.specs.Script.{form_in}
pub use Rattle.service_core.specs.Receipt.{Receipted}
pub use Rattle.service_core.specs.Run.{Happens, IsReceipt}
pub use Rattle.service_core.specs.Run.Call.{GiveBack, Take, Tenant}
pub use Rattle.service_core.specs.declared.not_served.NotServed.{NotServed}
pub use Rattle.service_core.specs.declared.not_served.NotServed.TheVariants.{JournalFull, NoMemory, NoSuchTenancy}
pub use Rattle.sessions.specs.Reading.{item_and}
pub use Rattle.sessions.specs.SessionAnswer.{AsksCommand, EndsWait, IsAnswer}
pub use Rattle.sessions.specs.SessionText.{cause_text, ending_text, numbered_line, reply_text, step_text, unserved_text}
pub use Rattle.sessions.specs.declared.line.SessionLine.TheVariants.{Blank, Command, Wait}
pub use Rattle.sessions.specs.declared.refusal.SessionRefusal.{SessionRefusal}
pub use Rattle.sessions.specs.declared.refusal.SessionRefusal.TheVariants.{BadNumber, Evicted, UnknownCommand}
pub use Rattle.sessions.specs.declared.steps.StepOutcome.{StepOutcome}
pub use Rattle.sessions.specs.declared.told.Answer.TheVariants.{Served}
pub use Rattle.tagged_lines.proofs.IdLemmas.{first_of_owner, has_none, is_lawful, own_id, own_owner}
pub use Rattle.tagged_lines.proofs.TagLemmas.{apart, both, same, same_tag}
pub use Rattle.tagged_lines.specs.Tags.{is_tag, is_whole}
pub use Rattle.tenant_slot.specs.Names.{file_text, refusal_number, refusal_text, state_text}
pub use Rattle.tenant_slot.specs.Results.{place_file_of, route_file_of}
pub use Rattle.tenant_slot.specs.SingleUser.{State, answer_to, serve, step}
pub use Rattle.tenant_slot.specs.declared.command.Command.TheVariants.{Status}
pub use Rattle.tenant_slot.specs.declared.reply.Refusal.TheVariants.{WrongState}
pub use Rattle.tenant_slot.specs.declared.reply.Reply.{Reply}
pub use Rattle.tenant_slot.specs.declared.reply.Reply.TheVariants.{Accepted, File, Step}
unfoldable pub use Rattle.vpr_files.specs.NetFile.{net_text_of}
unfoldable pub use Rattle.vpr_files.specs.PlaceFile.{place_text_of}
unfoldable pub use Rattle.vpr_files.specs.RouteFile.{route_text_of}
pub use Rattle.vpr_files.specs.TextLines.{line_of, text_of, word_after_space}
