-- The names that this crate's proofs use, but for its own lemmas.
pub use Rattle.std.proofs.Common.{Bool, Err, IfNone, IfSome, IsTrue, List, MatchOption, None, Ok, OnOk, Option, Result, Some, [], ap, append-nil, append_assoc, arith, codes, cond, decimal, drop, eqb, false, filter, get_or, length, map, not, refl, subst, suc, sym, take, true, zero, ℕ, ◌%◌, ◌&&◌, ◌*◌, ◌++◌, ◌+◌, ◌-◌, ◌/◌, ◌<◌, ◌^◌, ◌∙◌, ◌∷◌, ◌≡◌, ◌≤◌}
pub use Rattle.std.proofs.lemmas.Bool.{and_from, and_parts, eq-eqb, true≢false}
pub use Rattle.std.proofs.lemmas.Bool.Decides.{Decides-eqb, nat_tests}
pub use Rattle.std.proofs.lemmas.Fmt.{decimal_by_steps, decimal_nonempty}
pub use Rattle.std.proofs.lemmas.List.{append_cancel_left, length-map, length_push, map_push, take_more}
pub use Rattle.std.proofs.lemmas.List.Folds.{list_all-append}
pub use Rattle.std.proofs.lemmas.List.Sums.{fold-append}
pub use Rattle.std.proofs.lemmas.Slice.Eq.{bytes_eq-Decides, strip_suffix_is}
pub use Rattle.std.specs.List.{before_first, list_all, position_or_len, starts_with}
pub use Rattle.std.specs.Prelude.{if◌then◌else◌, is_some, nat_le, nat_lt}
pub use Rattle.line_text.specs.Decimal.{is_digit, value_of, with_digit}
pub use Rattle.strip_files.specs.BlockLines.{AreFirst, IsLineOfBlock, IsLineOfElement, block_lines, element_lines, listed_names, listed_of, named_blocks}
pub use Rattle.strip_files.specs.EachLine.{AddsNext, AreEachFrom}
pub use Rattle.strip_files.specs.Fronts.{Stops}
pub use Rattle.strip_files.specs.NetLines.{AreNamed, IsLineOfNet, IsNetLine, net_lines, word_end}
pub use Rattle.strip_files.specs.NodeLines.{AreTold, IsLineOfNode, IsReadOn, IsTailOf, is_node_line, kind_start, node_lines}
pub use Rattle.strip_files.specs.PlaceLines.{IsLineOfPlace, IsPlaceLine, has_place, is_place_line, place_lines, places_of}
pub use Rattle.strip_files.specs.Prelude.{MAX_COLUMNS, MAX_ROWS, NodeKind, Place, decimal_of, is_no_digit, physical_lines, texts}
pub use Rattle.strip_files.specs.SizeLines.{HasSize, IsWithin}
pub use Rattle.strip_files.specs.Starts.{AddsTo, block_starts, first_elements, first_nodes, is_block_line, is_element_line, is_net_line, listed_elements, net_starts, starts_as}
unfoldable pub use Rattle.strip_files.specs.Starts.{starts_of}
pub use Rattle.strip_files.specs.declared.block.BlockKind.{BlockKind}
pub use Rattle.strip_files.specs.declared.block.ListedBlock.{ListedBlock}
pub use Rattle.strip_files.specs.declared.block.PlacedBlock.{PlacedBlock}
pub use Rattle.strip_files.specs.declared.route_node.RouteNode.{RouteNode}
pub use Rattle.strip_files.specs.declared.route_text.Net.{Net}
pub use Rattle.strip_files.specs.declared.size.StripSize.{StripSize}
