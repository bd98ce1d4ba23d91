-- The names of the crates below that this crate's definitions and contracts use.
pub use Rattle.arch_file.specs.Arch.{arch_of}
pub use Rattle.arch_file.specs.declared.arch.Arch.{Arch}
pub use Rattle.desk_common.specs.Outputs.{IsBeginning}
pub use Rattle.desk_common.specs.declared.outcome.Outcome.{Outcome}
pub use Rattle.desk_common.specs.declared.outcome.Outcome.TheVariants.{ArchRefused, FileFailed, LogDiffers, NoMemory, OutputFailed}
pub use Rattle.desk_common.specs.declared.paths.FileRole.{FileRole}
pub use Rattle.desk_common.specs.declared.paths.FileRole.TheVariants.{Architecture, Log}
pub use Rattle.line_text.specs.Writing.{TakesAll}
pub use Rattle.line_text.specs.declared.lines.TheConstants.{MAX_TEXT}
pub use Rattle.live_input.specs.Serving.{AnswersLine, begins, is_ready, kept_lines, state_in}
pub use Rattle.live_lines.specs.Live.{LiveState}
pub use Rattle.live_log.specs.Alike.{IsSafe}
pub use Rattle.live_log.specs.Kept.{lines_in}
pub use Rattle.live_log.specs.declared.checking.CheckedLog.{CheckedLog}
pub use Rattle.live_run.specs.Headings.{heading}
pub use Rattle.live_run.specs.Limits.{device_of}
pub use Rattle.live_run.specs.Sums.{first_differing, no_lines}
pub use Rattle.live_run.specs.WholePart.{whole_bytes}
pub use Rattle.live_run.specs.declared.options.Options.{Options}
pub use Rattle.option_words.specs.Values.{number_of, text_of}
pub use Rattle.option_words.specs.declared.given.Given.{Given}
pub use Rattle.service_core.specs.Kept.{IsDevice}
pub use Rattle.service_core.specs.declared.device.Device.{Device}
pub use Rattle.sessions.specs.Fitting.{own_graph}
pub use Rattle.tagged_lines.specs.Tags.{with_feed}
