-- The names of the crates below that this crate's definitions and contracts use.
pub use Rattle.arch_file.specs.declared.arch.TheConstants.{MAX_PINS}
pub use Rattle.device_book.specs.declared.book.Owned.{Owned}
pub use Rattle.device_lines.specs.Lines.{Listed, OwnedNode, change_in, is_end, is_name, is_within, listed_on}
pub use Rattle.device_lines.specs.Reading.{Seen, Step, after_line, device_in, first_line, is_in_strip, lines_of, lines_read, list_line, nothing_seen, owner_seen, plus}
pub use Rattle.device_lines.specs.declared.fault.DeviceFault.{DeviceFault}
pub use Rattle.device_lines.specs.declared.fault.DeviceFault.TheVariants.{NoList, NoOwners, NotThere}
pub use Rattle.device_lines.specs.declared.fault.InputFault.{InputFault}
pub use Rattle.device_lines.specs.declared.size.DeviceSize.{DeviceSize}
pub use Rattle.fpgad_run.specs.Program.{IsReplies, Start, device_of, start_of}
pub use Rattle.fpgad_run.specs.Run.{Telling, Tells}
pub use Rattle.fpgad_run.specs.declared.inputs.Architecture.{Architecture}
pub use Rattle.fpgad_run.specs.declared.options.Options.{Options}
pub use Rattle.operator.specs.OperatorText.{list_text}
pub use Rattle.operator.specs.OwnersText.{owners_text}
pub use Rattle.operator.specs.Serving.{Stage}
pub use Rattle.rr_graph.specs.Resources.{IsEarlier}
pub use Rattle.rr_graph.specs.declared.resource.Resource.{Resource}
pub use Rattle.rr_graph.specs.declared.resource.ResourceKind.{ResourceKind}
pub use Rattle.rr_graph.specs.declared.resource.ResourceKind.TheVariants.{ChanX, ChanY, Ipin, Opin, Pad}
pub use Rattle.script_text.specs.declared.act.Act.{Act}
pub use Rattle.script_text.specs.declared.act.Act.TheVariants.{Operator, Session}
pub use Rattle.script_text.specs.declared.operator_line.OperatorLine.TheVariants.{List, Owners}
pub use Rattle.service_core.specs.History.{History, state_of}
pub use Rattle.service_core.specs.Kept.{IsDevice}
pub use Rattle.service_core.specs.Owners.{IsOwner}
pub use Rattle.service_core.specs.Run.{Call, Run}
pub use Rattle.service_core.specs.Service.{ServiceState, empty_service, live_of}
pub use Rattle.service_core.specs.declared.device.Device.{Device}
pub use Rattle.strips.specs.Plan.{offset_of, strip_of}
pub use Rattle.strips.specs.declared.placed_strip.PlacedStrip.{PlacedStrip}
pub use Rattle.tenant_slot.specs.Names.{state_text}
