-- The names of the crates below that this crate's definitions and contracts use.
pub use Rattle.blif.specs.CircuitOf.{circuit_of}
pub use Rattle.blif.specs.LawfulCircuits.{IsCircuit}
pub use Rattle.blif.specs.LookupTables.{LookupTable}
pub use Rattle.blif.specs.declared.circuit.Circuit.{Circuit}
pub use Rattle.blif.specs.declared.latches.Latch.{Latch}
pub use Rattle.device_report.specs.Text.{channel_word}
pub use Rattle.device_report.specs.declared.channels.ChannelUse.{ChannelUse}
pub use Rattle.json.specs.Json.{Json, null, string}
pub use Rattle.json.specs.Tree.{json_tokens}
pub use Rattle.json_text.specs.Values.{json_text, known_number, list_of, member_tokens, name_of, number_of, object_of}
pub use Rattle.line_text.specs.Writing.{Writes}
pub use Rattle.longest_path.specs.Paths.{IsLongest, IsLoop}
pub use Rattle.longest_path.specs.declared.longest.Longest.{Longest}
pub use Rattle.longest_path.specs.declared.longest.Longest.TheVariants.{Loop, NoPath, Path}
pub use Rattle.longest_path.specs.declared.longest.LongestPath.{LongestPath}
pub use Rattle.path_stops.specs.Measured.{IsMeasured}
pub use Rattle.path_stops.specs.Stops.{stops_of}
pub use Rattle.path_stops.specs.Text.{stop_text}
pub use Rattle.path_stops.specs.declared.measured.MeasuredStop.{MeasuredStop}
pub use Rattle.path_stops.specs.declared.stops.StopKind.{StopKind}
pub use Rattle.path_stops.specs.declared.stops.StopKind.TheVariants.{End, Start, Table}
pub use Rattle.script_replies.specs.Accounts.{NameAccount, account_now}
pub use Rattle.script_replies.specs.Present.{FileStates, states_of}
pub use Rattle.script_replies.specs.declared.usage.Usage.{Usage}
pub use Rattle.strip_files.specs.BlockLines.{AreBlocksNamed, AreElementsNamed}
pub use Rattle.strip_files.specs.NetLines.{AreNamed}
pub use Rattle.strip_files.specs.NodeLines.{AreTold, node_lines}
pub use Rattle.strip_files.specs.PlaceLines.{HavePlaces}
pub use Rattle.strip_files.specs.Starts.{AreBegun, AreBlocksBegun}
pub use Rattle.strip_files.specs.declared.reader.RoutedStrip.{RoutedStrip}
pub use Rattle.strip_files.specs.declared.reader.StripTexts.{StripTexts}
