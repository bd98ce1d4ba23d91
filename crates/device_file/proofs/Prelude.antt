-- The names that this crate's proofs use, but for its own lemmas.
pub use Rattle.std.proofs.Common.{Bool, Err, List, None, Ok, Option, Result, Some, [], ap, arith, cond, drop, false, get_or, length, length-drop, map, refl, rules, subst, sym, take, tests, true, ℕ, ◌+◌, ◌-◌, ◌<◌, ◌==◌, ◌||◌, ◌∙◌, ◌∷◌, ◌≡◌, ◌≤◌}
pub use Rattle.std.proofs.lemmas.Bool.Decides.{nat_tests}
pub use Rattle.std.proofs.lemmas.Iterator.{YieldsList-from_slice}
pub use Rattle.std.proofs.lemmas.Iterator.Search.{any_from_yields_List}
pub use Rattle.std.proofs.lemmas.List.{at_drop_more, drop_all, nil_from_length, take_all}
pub use Rattle.std.specs.List.{list_any, position_or_len}
pub use Rattle.std.specs.Prelude.{option_map}
pub use Rattle.std.specs.Str.{bytes_eq}
pub use Rattle.device_file.specs.DeviceFiles.{FoundFault, Given, Read, Step, Unfinished, all_values, begins_comment, line_read, nothing_read, then_read, values_at_end, word_read}
unfoldable pub use Rattle.device_file.specs.DeviceFiles.{lines_read, values_in, words_read}
pub use Rattle.device_file.specs.Reading.{IsError, Refuses, given_of, read_of, unfinished_of}
pub use Rattle.device_file.specs.declared.fault.DeviceFileFault.{DeviceFileFault}
pub use Rattle.device_file.specs.declared.fault.FaultKind.TheVariants.{NoValue}
pub use Rattle.device_file.specs.declared.reader.OptionValue.{OptionValue}
pub use Rattle.line_text.specs.Lines.{physical_lines}
pub use Rattle.line_text.specs.Words.{texts}
pub use Rattle.line_text.specs.declared.text_error.TextError.{TextError}
pub use Rattle.line_text.specs.declared.text_error.TextError.TheVariants.{Fault, NoMemory}
