-- The names that this crate's proofs use, but for its own lemmas.
pub use Rattle.std.proofs.Common.{Bool, Err, List, None, Ok, Option, Result, Some, [], ap, arith, codes, cond, drop, eqb, false, find, get_or, length, length-drop, map, not, position, refl, subst, suc, sym, take, true, ℕ, ◌++◌, ◌+◌, ◌-◌, ◌<◌, ◌∙◌, ◌∷◌, ◌≡◌, ◌≤◌}
pub use Rattle.std.proofs.lemmas.Bool.{and_parts, eqb-true, false≢true}
pub use Rattle.std.proofs.lemmas.Bool.Decides.{nat_tests}
pub use Rattle.std.proofs.lemmas.List.{map-append, take_all}
pub use Rattle.std.proofs.lemmas.List.Splits.{slice_split_first, slice_split_none}
pub use Rattle.std.proofs.lemmas.List.Sums.{fails_before_first}
pub use Rattle.std.proofs.lemmas.Option.{cond_some, slice_get-map}
pub use Rattle.std.specs.Borrow.{Bor}
pub use Rattle.std.specs.List.{list_all, position_or_len, slice_split}
pub use Rattle.std.specs.Option.{option_map_or, option_or}
pub use Rattle.std.specs.Prelude.{All, MatchBool, MatchOption, is_some, nat_le, nat_lt, option_map, slice_get, ◌&&◌, ◌==◌, ◌||◌, ◌⊎◌}
pub use Rattle.std.specs.Str.{bytes_eq}
pub use Rattle.device_lines.specs.Lines.{Listed, OwnedNode, begins_with_digit, is_name, is_on_device, is_silent, is_state, listed_of, listed_on, owned_node}
unfoldable pub use Rattle.device_lines.specs.Lines.{change_in, first_counted, first_kind, listed_in, owned_in, owner_count, owner_line}
pub use Rattle.device_lines.specs.Owning.{IsInStrip, IsOwners}
pub use Rattle.device_lines.specs.Prelude.{ChanX, ChanY, Fault, Ipin, NoMemory, Opin, Pad, Resource, ResourceKind, TextError, resource_rank}
pub use Rattle.device_lines.specs.Reading.{IsError, IsStep, Seen, Step, after_line, are_parted, end_of, error_at, first_foreign, follows, is_chan_y, is_earlier, is_feed, is_in_strip, is_owners, last_of, later_lines, line_read, list_line, missing_part, nothing_seen, other_line, owner_fault, plus, reply_line, seen_in_list, seen_of, unless_fault, with_change, with_owned}
unfoldable pub use Rattle.device_lines.specs.Reading.{device_in, last_fault, lines_of, lines_read}
unfoldable pub use Rattle.device_lines.specs.Words.{after_text, first_number, number_field, word_field}
pub use Rattle.device_lines.specs.declared.device.OwnedResource.{OwnedResource}
pub use Rattle.device_lines.specs.declared.fault.DeviceFault.{DeviceFault}
pub use Rattle.device_lines.specs.declared.fault.DeviceFault.TheVariants.{NotParted, OutOfOrder, UnknownLine}
pub use Rattle.device_lines.specs.declared.fault.InputFault.{InputFault}
pub use Rattle.device_lines.specs.declared.reader.Place.TheVariants.{Behind}
pub use Rattle.device_lines.specs.declared.size.DeviceSize.{DeviceSize}
pub use Rattle.device_lines.specs.declared.tenancy.Tenancy.{Tenancy}
pub use Rattle.rr_graph.specs.Resources.{IsEarlier}
