-- The names that this crate's proofs use, but for its own lemmas.
pub use Rattle.std.proofs.Common.{Bool, Err, List, Ok, Result, Some, [], ap, append-nil, append_assoc, codes, false, get_or, map, refl, rules, sym, take, true, ℕ, ◌++◌, ◌+◌, ◌∙◌, ◌∷◌, ◌≡◌}
pub use Rattle.std.proofs.lemmas.Grind.{flat_map-append}
pub use Rattle.std.proofs.lemmas.List.{take_more}
pub use Rattle.std.proofs.lemmas.Option.{get_or_from_slice_get, slice_get_within}
pub use Rattle.std.proofs.lemmas.Str.{IsUtf8-from_is_utf8, is_utf8-from_IsUtf8}
pub use Rattle.std.specs.List.{flat_map, slice_get}
pub use Rattle.std.specs.Prelude.{None, OnOk, if◌then◌else◌}
pub use Rattle.std.specs.Str.{is_utf8}
pub use Rattle.json.proofs.Printed.Decimals.{IsNumber-decimal}
pub use Rattle.json.specs.Json.{Json, string}
unfoldable pub use Rattle.json.specs.Layout.{pretty_from}
unfoldable pub use Rattle.json.specs.Print.{escape_byte}
pub use Rattle.json.specs.Token.{Token, begin_array, begin_object, end_array, end_object, key}
pub use Rattle.json.specs.Tree.{items_tokens, json_tokens, members_tokens}
pub use Rattle.json_text.specs.Values.{items_of, json_text, known_number, list_of, member_of, member_tokens, members_of, object_of}
