-- The names that this crate's proofs use, but for its own lemmas.
pub use Rattle.std.proofs.Common.{Err, List, None, Ok, Option, Result, Some, [], ap, arith, codes, drop, length, refl, slice_get, sym, ℕ, ◌++◌, ◌+◌, ◌∙◌, ◌∷◌, ◌≡◌, ◌≤◌}
pub use Rattle.std.proofs.lemmas.List.{drop_all, drop_more, map_push}
pub use Rattle.std.proofs.lemmas.Option.{get_or_from_slice_get, slice_get_within}
pub use Rattle.grid.specs.Places.{place_at}
pub use Rattle.line_text.specs.Lines.{JoinedLine}
unfoldable pub use Rattle.line_text.specs.Lines.{lines_of}
pub use Rattle.line_text.specs.declared.fault.LineFault.TheVariants.{NotAscii}
pub use Rattle.pin_file.specs.PinFiles.{Pin, pin_of, pins_in, then_pins}
unfoldable pub use Rattle.pin_file.specs.PinFiles.{pins_after}
pub use Rattle.pin_file.specs.Reading.{pin_read, pins_read}
pub use Rattle.pin_file.specs.declared.fault.PinFileFault.{PinFileFault}
pub use Rattle.pin_file.specs.declared.fault.PinFileFault.TheVariants.{NotAPin, Text}
