-- The names of the crates below that this crate's definitions and contracts use.
pub use Rattle.arch_file.specs.Arch.{IsWithin}
pub use Rattle.arch_file.specs.declared.arch.TheConstants.{MAX_TRACKS}
pub use Rattle.cluster.specs.Clusters.{PackedCircuit}
pub use Rattle.desk_circuits.specs.Channels.{channel_json}
pub use Rattle.desk_circuits.specs.EachText.{ShowsEach}
pub use Rattle.desk_circuits.specs.Json.{circuit_members, usages_json}
pub use Rattle.desk_circuits.specs.Measured.{IsOfFilesIfAny, ShowsPresentStops}
pub use Rattle.desk_circuits.specs.PathLines.{longest_line}
pub use Rattle.desk_circuits.specs.Usages.{AreFactsOf, ShowsUsages, path_fields}
pub use Rattle.desk_circuits.specs.declared.longest.MeasuredCircuit.{MeasuredCircuit}
pub use Rattle.desk_circuits.specs.declared.usages.NameFacts.{NameFacts}
pub use Rattle.desk_circuits.specs.declared.usages_json.LineCounts.{LineCounts}
pub use Rattle.desk_common.specs.Outputs.{AreAdded, IsBeginning, NamedBytes}
pub use Rattle.desk_common.specs.declared.outcome.Outcome.{Outcome}
pub use Rattle.desk_common.specs.declared.outcome.Outcome.TheVariants.{Done, InputFailed, NoMemory, OutputFailed, ReplyRefused}
pub use Rattle.device_lines.specs.Reading.{Gives, device_in}
pub use Rattle.device_lines.specs.declared.device.ListedDevice.{ListedDevice}
pub use Rattle.device_lines.specs.declared.size.DeviceSize.{DeviceSize}
pub use Rattle.device_lines.specs.declared.tenancy.Tenancy.{Tenancy}
pub use Rattle.device_report.specs.Report.{IsReport}
pub use Rattle.device_report.specs.Text.{is_routed, report_text, used_text}
pub use Rattle.device_report.specs.declared.columns.ColumnUse.{ColumnUse}
pub use Rattle.device_report.specs.declared.report.Report.{Report}
pub use Rattle.device_report.specs.declared.tenancies.ResourceUse.{ResourceUse}
pub use Rattle.device_report.specs.declared.tenancies.TenancyUse.{TenancyUse}
pub use Rattle.device_report.specs.declared.widest.Room.{Room}
pub use Rattle.grid.specs.declared.TheConstants.{MAX_COLUMNS, MAX_ROWS}
pub use Rattle.indexmap.specs.IndexMap.{insert_entry}
pub use Rattle.json.specs.Json.{Json, null, string}
pub use Rattle.json.specs.Tree.{json_tokens}
pub use Rattle.json_text.specs.Values.{json_text, known_number, list_of, member_tokens, name_of, number_of, object_of}
pub use Rattle.line_text.specs.Decimal.{decimal_of}
pub use Rattle.line_text.specs.Lines.{physical_lines}
pub use Rattle.line_text.specs.Physical.{first_line}
pub use Rattle.line_text.specs.Words.{is_blank}
pub use Rattle.line_text.specs.Writing.{TakesAll, Writes}
pub use Rattle.line_text.specs.declared.memory_sink.MemorySink.{MemorySink}
pub use Rattle.one_user.specs.Crowding.{net_between}
pub use Rattle.one_user.specs.CrowdingText.{crowding_text}
pub use Rattle.one_user.specs.Tracks.{IsCrowdingWith, IsLawful}
pub use Rattle.one_user.specs.declared.crowding.CrowdedNode.{CrowdedNode}
pub use Rattle.one_user.specs.declared.crowding.Crowding.{Crowding}
pub use Rattle.one_user.specs.declared.device.Request.{Request}
pub use Rattle.one_user.specs.declared.least.DevicePlan.{DevicePlan}
pub use Rattle.option_words.specs.Values.{is_given, text_of}
pub use Rattle.option_words.specs.declared.given.Given.{Given}
pub use Rattle.page.specs.Pages.{element_text}
pub use Rattle.page.specs.declared.page.Viewer.{Viewer}
pub use Rattle.printed_replies.specs.Printing.{asked_in}
pub use Rattle.printed_replies.specs.Replies.{AnsweredLine, answered_line, names_of}
pub use Rattle.printed_replies.specs.Sections.{session_places}
pub use Rattle.script_replies.specs.Accounts.{NameAccount, account_now, accounts_of}
pub use Rattle.script_replies.specs.Asking.{replies_in}
pub use Rattle.script_replies.specs.LineReplies.{line_replies, line_reply}
pub use Rattle.script_replies.specs.Present.{states_of}
pub use Rattle.script_replies.specs.ScriptLines.{lines_asked, numbered}
pub use Rattle.script_replies.specs.Told.{is_refused, refused_text, told_text}
pub use Rattle.script_replies.specs.Usage.{first_word, is_refusal}
pub use Rattle.script_replies.specs.declared.lines.ScriptLine.{ScriptLine}
pub use Rattle.script_replies.specs.declared.listing.ToldLine.{ToldLine}
pub use Rattle.script_text.specs.Cuts.{HasNoEnd, IsCut}
pub use Rattle.script_text.specs.Script.{named_act, named_operator, script_of, without_blanks}
pub use Rattle.script_text.specs.declared.act.Act.{Act}
pub use Rattle.script_text.specs.declared.act.Act.TheVariants.{Operator, Session}
pub use Rattle.script_text.specs.declared.operator_line.OperatorLine.{OperatorLine}
pub use Rattle.script_text.specs.declared.operator_line.OperatorLine.TheVariants.{Admit, Evict, List, Move, Owners, Put, Step, Take}
pub use Rattle.sessions.specs.declared.line.SessionLine.{SessionLine}
pub use Rattle.sessions.specs.declared.line.SessionLine.TheVariants.{Command}
pub use Rattle.strip_moves.specs.Gaps.{gaps_of}
pub use Rattle.strip_moves.specs.Moves.{IsJoining}
pub use Rattle.strip_moves.specs.declared.joining.Joining.{Joining}
pub use Rattle.strip_moves.specs.declared.joining.StripMove.{StripMove}
pub use Rattle.strip_place.specs.declared.placing.TheConstants.{MAX_EFFORT}
pub use Rattle.strips.specs.Plan.{IsLaidOut, Plan}
pub use Rattle.strips.specs.declared.placed_strip.PlacedStrip.{PlacedStrip}
pub use Rattle.tenant_slot.specs.declared.command.Command.TheVariants.{Change, Pack, Place, Upload, Withdraw}
pub use Rattle.vpr_files.specs.NodeText.{kind_word}
