-- The names that this crate's proofs use, but for its own lemmas.
pub use Rattle.std.proofs.Common.{Bool, List, None, Ok, Option, Some, [], ap, append_assoc, arith, codes, cond, decimal, drop, eqb, false, length, length-append, not, refl, rules, subst, suc, sym, take, true, ℕ, ◌%◌, ◌++◌, ◌+◌, ◌-◌, ◌/◌, ◌<◌, ◌^◌, ◌∙◌, ◌∷◌, ◌≡◌, ◌≤◌}
pub use Rattle.std.proofs.lemmas.Bool.{and_from, and_parts, true≢false}
pub use Rattle.std.proofs.lemmas.Bool.Decides.{nat_tests}
pub use Rattle.std.proofs.lemmas.Fmt.{decimal_by_steps, decimal_nonempty, length-decimal-le}
pub use Rattle.std.proofs.lemmas.List.Folds.{list_all-append}
pub use Rattle.std.proofs.lemmas.List.Splits.{slice_split_at, slice_split_none}
pub use Rattle.std.proofs.lemmas.List.Sums.{AllPass-from_list_all, fold-append}
pub use Rattle.std.specs.List.{All, after_first, before_first, flat_map, list_all, onto_first, position_or_len}
pub use Rattle.std.specs.Prelude.{IfSome, filter, map, nat_le, nat_lt, option_map, slice_index, ⊤, ◌&&◌}
pub use Rattle.line_text.proofs.WritingLemmas.{part_first, part_then, writes_part, writes_then}
pub use Rattle.line_text.specs.Decimal.{decimal_of, is_digit, value_of}
pub use Rattle.line_text.specs.Lines.{physical_lines}
pub use Rattle.line_text.specs.Words.{is_blank, is_filled, words_of}
pub use Rattle.script_text.specs.Script.{acts_from, begins_text, form_by, form_of, is_name, is_name_byte, operator_form, operator_line, script_of, session_form, with_act, with_line}
unfoldable pub use Rattle.script_text.specs.Script.{form_in}
pub use Rattle.script_text.specs.declared.act.Act.{Act}
pub use Rattle.script_text.specs.declared.act.Act.TheVariants.{Operator, Session}
pub use Rattle.script_text.specs.declared.operator_line.OperatorLine.TheVariants.{Admit}
pub use Rattle.sessions.proofs.KeptLemmas.{kept-all}
pub use Rattle.sessions.specs.Items.{ends_text, text_ahead, text_item, without_cr}
pub use Rattle.sessions.specs.SessionLines.{filled_form, line_form, placing, words_form}
pub use Rattle.sessions.specs.declared.line.LineForm.{LineForm}
pub use Rattle.sessions.specs.declared.line.LineForm.TheVariants.{Asks, Begins}
pub use Rattle.sessions.specs.declared.line.SessionLine.{SessionLine}
pub use Rattle.sessions.specs.declared.line.SessionLine.TheVariants.{Command, Refused, Wait}
pub use Rattle.sessions.specs.declared.line.TextKind.TheVariants.{Upload}
pub use Rattle.sessions.specs.declared.refusal.SessionRefusal.TheVariants.{UnknownCommand}
pub use Rattle.tenancy_script.specs.Faults.{fault_from, text_fault, uploaded_text}
pub use Rattle.tenancy_script.specs.Printed.{is_ended, last_feed, place_line, printed_admission, printed_commands, printed_end, printed_script, printed_upload, session_line}
pub use Rattle.tenancy_script.specs.Says.{IsWhole, acts_of, followed_by, is_within, session_lines, with_admission}
pub use Rattle.tenancy_script.specs.declared.fault.ScriptFault.TheVariants.{PointAlone, TextTooLong}
pub use Rattle.tenancy_script.specs.declared.script.TenancyScript.{TenancyScript}
pub use Rattle.tenant_slot.specs.declared.command.Command.TheVariants.{Net, Pack, Place, PlaceFile, Route, RouteFile}
