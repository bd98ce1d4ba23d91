-- The names of the crates below that this crate's definitions and contracts use.
pub use Rattle.arch_file.specs.Arch.{IsWithin, arch_of}
pub use Rattle.arch_file.specs.declared.arch.Arch.{Arch}
pub use Rattle.arch_file.specs.declared.arch.TheConstants.{MAX_TRACKS}
pub use Rattle.blif.specs.CircuitOf.{circuit_of}
pub use Rattle.blif.specs.LawfulCircuits.{IsCircuit}
pub use Rattle.blif.specs.LookupTables.{LookupTable}
pub use Rattle.blif.specs.declared.circuit.Circuit.{Circuit}
pub use Rattle.blif.specs.declared.fault.BlifFault.{BlifFault}
pub use Rattle.configuration.specs.Configuration.{configuration_of}
pub use Rattle.configuration.specs.ConfigurationText.{configuration_text}
pub use Rattle.configuration.specs.Lines.{ConfigurationLine}
pub use Rattle.configuration.specs.Wired.{AreBlesApart, Configures, HasOneDriver, HasValues, Spot}
pub use Rattle.desk_common.specs.Numbers.{IsNumberIn}
pub use Rattle.desk_common.specs.Outcomes.{IsFileFailure}
pub use Rattle.desk_common.specs.Outputs.{IsBeginning}
pub use Rattle.desk_common.specs.declared.outcome.Outcome.{Outcome}
pub use Rattle.desk_common.specs.declared.outcome.Outcome.TheVariants.{ArchRefused, FileFailed, LayoutRefused, NetlistRefused, NoMemory, OtherCircuit, OutputFailed, StripRefused}
pub use Rattle.desk_common.specs.declared.paths.FileRole.{FileRole}
pub use Rattle.desk_common.specs.declared.paths.FileRole.TheVariants.{Architecture, Net, Netlist, Places, Routes, Verilog}
pub use Rattle.grid.specs.Sizes.{IsStripSize}
pub use Rattle.grid.specs.declared.Strip.{Strip}
pub use Rattle.implements.specs.Holding.{holds_table}
pub use Rattle.implements.specs.Layouts.{Layout, traced_ble}
pub use Rattle.layout_files.specs.Cursors.{IsPlain}
pub use Rattle.layout_text.specs.LayoutText.{place_text}
pub use Rattle.layout_verdict.specs.Shapes.{AreLawful}
pub use Rattle.layout_verdict.specs.Texts.{IsReadFrom, Texts}
pub use Rattle.layout_verdict.specs.Verdicts.{CanBeFiled, HaveNoLayout, IsImplemented, IsOnlyReading}
pub use Rattle.layout_verdict.specs.declared.laid_circuit.LaidCircuit.{LaidCircuit}
pub use Rattle.layout_verdict.specs.declared.shape.StripShape.{StripShape}
pub use Rattle.line_text.specs.Lines.{JoinedLine, lines_of, physical_lines}
pub use Rattle.line_text.specs.Physical.{first_line, later_lines}
pub use Rattle.line_text.specs.Writing.{TakesAll}
pub use Rattle.option_words.specs.Values.{is_given, number_of, text_of}
pub use Rattle.option_words.specs.declared.given.Given.{Given}
pub use Rattle.page.specs.Pages.{page_text}
pub use Rattle.page.specs.declared.page.PageItem.{PageItem}
pub use Rattle.page.specs.declared.page.Viewer.{Viewer}
pub use Rattle.strip_files.specs.NetLines.{AreNamed}
pub use Rattle.strip_files.specs.SizeLines.{HasSize}
pub use Rattle.strip_files.specs.declared.reader.RoutedStrip.{RoutedStrip}
pub use Rattle.strip_files.specs.declared.reader.StripTexts.{StripTexts}
pub use Rattle.strip_files.specs.declared.size.StripSize.{StripSize}
pub use Rattle.strip_picture.specs.declared.picture.Full.{Full}
pub use Rattle.strip_picture.specs.declared.picture.Full.TheVariants.{Fullest, Tracks}
