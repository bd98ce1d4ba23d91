-- The names of the crates below that this crate's definitions and contracts use.
pub use Rattle.arch_file.specs.Arch.{IsArch, IsWithin, arch_of}
pub use Rattle.arch_file.specs.declared.arch.Arch.{Arch}
pub use Rattle.arch_file.specs.declared.arch.TheConstants.{MAX_IO_RAT, MAX_TRACKS}
pub use Rattle.blif.specs.CircuitOf.{circuit_of}
pub use Rattle.blif.specs.LawfulCircuits.{IsCircuit}
pub use Rattle.blif.specs.declared.circuit.Circuit.{Circuit}
pub use Rattle.circuit_use.specs.declared.lacking.Lacking.{Lacking}
pub use Rattle.circuit_use.specs.declared.lacking.Lacking.TheVariants.{Blocks, BlocksAndPads, Nothing, Pads}
pub use Rattle.configuration.specs.ConfigurationText.{configuration_text}
pub use Rattle.desk_circuits.specs.Channels.{channel_json}
pub use Rattle.desk_circuits.specs.Json.{circuit_members, net_name}
pub use Rattle.desk_common.specs.Numbers.{IsNumberIn}
pub use Rattle.desk_common.specs.Outputs.{AreAdded, IsBeginning, NamedBytes, named}
pub use Rattle.desk_common.specs.declared.outcome.Outcome.{Outcome}
pub use Rattle.desk_common.specs.declared.outcome.Outcome.TheVariants.{Done, OutputFailed, TextRefused}
pub use Rattle.device_report.specs.declared.channels.ChannelUse.{ChannelUse}
pub use Rattle.device_report.specs.declared.tenancies.ResourceUse.{ResourceUse}
pub use Rattle.grid.specs.declared.TheConstants.{MAX_COLUMNS, MAX_ROWS}
pub use Rattle.json.specs.Json.{Json, null, string}
pub use Rattle.json.specs.Tree.{json_tokens}
pub use Rattle.json_text.specs.Values.{json_text, known_number, list_of, member_tokens, name_of, number_of, object_of}
pub use Rattle.layout_verdict.specs.Texts.{IsReadFrom}
pub use Rattle.layout_verdict.specs.Verdicts.{IsImplemented}
pub use Rattle.layout_verdict.specs.declared.laid_circuit.LaidCircuit.{LaidCircuit}
pub use Rattle.layout_verdict.specs.declared.shape.StripShape.{StripShape}
pub use Rattle.line_text.specs.Lines.{JoinedLine, lines_of}
pub use Rattle.line_text.specs.Writing.{TakesAll, TakesPart}
pub use Rattle.one_user.specs.Counting.{AreCounts, HasRoom, NoColumnsBelow, NoRowsBelow, NoSquareBelow}
pub use Rattle.one_user.specs.Outcomes.{task_on}
pub use Rattle.one_user.specs.Pinned.{IsLeastPinned, IsPinnedRun}
pub use Rattle.one_user.specs.Tracks.{AreUnroutedBelow, ComesTo}
pub use Rattle.one_user.specs.declared.device.Request.{Request}
pub use Rattle.one_user.specs.declared.figures.PackedCounts.{PackedCounts}
pub use Rattle.one_user.specs.declared.least.DevicePlan.{DevicePlan}
pub use Rattle.one_user.specs.declared.outcome.Files.{Files}
pub use Rattle.one_user.specs.declared.outcome.FlowOutcome.{FlowOutcome}
pub use Rattle.one_user.specs.declared.outcome.Run.{Run}
pub use Rattle.one_user.specs.declared.outcome.Unrouted.{Unrouted}
pub use Rattle.one_user.specs.declared.pinned.PinnedEnd.{PinnedEnd}
pub use Rattle.one_user.specs.declared.pinned.PinnedEnd.TheVariants.{Placed}
pub use Rattle.option_words.specs.Values.{is_given, text_of}
pub use Rattle.option_words.specs.declared.given.Given.{Given}
pub use Rattle.path_stops.specs.declared.stops.StopKind.{StopKind}
pub use Rattle.path_stops.specs.declared.stops.StopKind.TheVariants.{End, Start, Table}
pub use Rattle.pin_file.specs.PinFiles.{Pin, pins_in}
pub use Rattle.pin_file.specs.Reading.{pins_read}
pub use Rattle.random_script.specs.Plans.{HavePlan}
pub use Rattle.random_script.specs.declared.plan.LoadParameters.{LoadParameters}
pub use Rattle.random_script.specs.declared.plan.Phase.{Phase}
pub use Rattle.random_script.specs.declared.plan.Phase.TheVariants.{Packing, Placing, Reading, Routing}
pub use Rattle.script_text.specs.Script.{is_name}
pub use Rattle.strip_place.specs.declared.placing.TheConstants.{MAX_EFFORT}
pub use Rattle.strips.specs.Windows.{device_strip}
pub use Rattle.tenancy_script.specs.Faults.{refusal_of}
pub use Rattle.tenancy_script.specs.Printed.{printed_script}
pub use Rattle.tenancy_script.specs.Says.{IsOf}
pub use Rattle.tenancy_script.specs.declared.script.ScriptParameters.{ScriptParameters}
pub use Rattle.tenancy_script.specs.declared.script.TenancyScript.{TenancyScript}
