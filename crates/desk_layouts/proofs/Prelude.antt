-- The names that this crate's proofs use, but for its own lemmas.
pub use Rattle.std.proofs.Common.{Bool, Err, IfErr, IfSome, IsErrAnd, List, None, Ok, Option, Result, Some, [], ap, append_assoc, arith, codes, decimal, drop, inl, inr, is_some, length, map, not, refl, subst, suc, sym, true, ℕ, ◌++◌, ◌+◌, ◌<◌, ◌==◌, ◌^◌, ◌∙◌, ◌∷◌, ◌≡◌}
pub use Rattle.std.proofs.lemmas.Bool.{and_from, and_parts}
pub use Rattle.std.proofs.lemmas.Bool.Decides.{nat_tests}
pub use Rattle.std.proofs.lemmas.List.Folds.{list_all-append}
pub use Rattle.std.proofs.lemmas.Option.{IfSome_then}
pub use Rattle.std.proofs.lemmas.Result.{IfErr-weaker, IfOk-at_ok, IfOk-weaker, on_ok_weaker}
pub use Rattle.std.proofs.lemmas.Slice.Eq.{bytes_eq-Decides}
pub use Rattle.std.specs.List.{enumerate_from, list_all, position_or_len}
pub use Rattle.std.specs.Option.{ForSome, option_map_or, unwrap_or}
pub use Rattle.std.specs.Str.{bytes_eq}
pub use Rattle.desk_layouts.specs.Asked.{ArePlacesOn, IsAskedShape, IsOnlyShape}
pub use Rattle.desk_layouts.specs.Checked.{AreRead, IsLaidIn, texts_with}
pub use Rattle.desk_layouts.specs.Configured.{IsUnwritten, IsUnwrittenOr}
pub use Rattle.desk_layouts.specs.Drawn.{AreBytes, AreBytesIf, AreChecked, unpinned_text, without_nets}
pub use Rattle.desk_layouts.specs.Prelude.{Arch, ArchRefused, Architecture, CanBeFiled, Circuit, FileFailed, FileRole, HasSize, IsImplemented, IsPlain, IsReadFrom, LaidCircuit, Layout, LayoutRefused, Net, Netlist, NetlistRefused, NoMemory, OtherCircuit, Outcome, OutputFailed, Places, Routes, Strip, StripShape, StripSize, Verilog, arch_of, circuit_of, first_line, later_lines, place_text}
pub use Rattle.desk_layouts.specs.Refused.{AreRefused, HasFailed, IsFailure, IsRefusal, IsRefusalOf, IsUnread}
pub use Rattle.desk_layouts.specs.declared.given_files.GivenFiles.{GivenFiles}
pub use Rattle.desk_layouts.specs.declared.layout_input.LayoutPaths.{LayoutPaths}
pub use Rattle.desk_layouts.specs.declared.strip_check.Against.{Against}
pub use Rattle.desk_layouts.specs.declared.strip_wishes.StripWishes.{StripWishes}
pub use Rattle.layout_files.proofs.Lines.{place_heading, place_parts}
pub use Rattle.layout_files.specs.Cursors.{is_word_end}
pub use Rattle.layout_text.specs.LayoutText.{place_line}
pub use Rattle.line_text.specs.Decimal.{is_digit}
pub use Rattle.strip_files.proofs.Fronts.{before, digits_told, end_at}
pub use Rattle.strip_files.specs.SizeLines.{size_line}
pub use Rattle.vpr_files.specs.TextLines.{text_of}
