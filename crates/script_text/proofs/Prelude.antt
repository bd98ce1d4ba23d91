-- The names that this crate's proofs use, but for its own lemmas.
pub use Rattle.std.proofs.Common.{Bool, Err, List, None, Option, Some, [], ap, append-nil, append_assoc, arith, codes, cond, drop, eqb, false, get_or, inl, inr, length, length-append, length-drop, min, refl, rules, slice_get, suc, sym, take, true, vec_len, zero, ℕ, ◌++◌, ◌+◌, ◌<◌, ◌∙◌, ◌∷◌, ◌≡◌, ◌≢◌, ◌≤◌, ◌⊎◌}
pub use Rattle.std.proofs.Math.ListN.{set}
pub use Rattle.std.proofs.lemmas.Bool.{cases_lt, eqb-true}
pub use Rattle.std.proofs.lemmas.List.{drop-drop, drop_all, get_or_default, map_push, take_all}
pub use Rattle.std.proofs.lemmas.List.Elements.{All-cons, All-nil}
pub use Rattle.std.proofs.lemmas.List.Folds.{flat_map-map}
pub use Rattle.std.proofs.lemmas.List.Kept.{AllPairs-cons}
pub use Rattle.std.proofs.lemmas.List.Sums.{passes_at_first, split_at_first}
pub use Rattle.std.proofs.lemmas.Option.{slice_get-get_or}
pub use Rattle.std.proofs.lemmas.Slice.Eq.{bytes_eq-Decides}
pub use Rattle.std.specs.Borrow.{Bor}
pub use Rattle.std.specs.List.{after_first, before_first, flat_map, onto_first, position_or_len}
pub use Rattle.std.specs.Prelude.{All, IfOk, IfSome, Ok, OnOk, Result, map, option_map, slice_index, ⊤}
pub use Rattle.std.specs.Str.{bytes_eq}
pub use Rattle.line_text.proofs.NameLemmas.{number_of-first, number_of-later, with_name-first, with_name-later}
pub use Rattle.line_text.proofs.WritingLemmas.{all_loop, all_loop_end, all_same, part_first, part_loop, part_same, writes_part, writes_same, writes_then}
pub use Rattle.line_text.specs.Names.{number_of, with_name}
pub use Rattle.line_text.specs.Writing.{TakesAll}
pub use Rattle.script_text.specs.Cuts.{IsEnded, without_crs}
pub use Rattle.script_text.specs.Names.{AreNamed, names_in}
pub use Rattle.script_text.specs.Prelude.{SessionLine, TextKind, ends_text, is_blank, physical_lines, text_ahead, text_item, without_cr}
pub use Rattle.script_text.specs.Reading.{comes_to, with_acts}
pub use Rattle.script_text.specs.Replies.{heading, section_of, section_text}
pub use Rattle.script_text.specs.Script.{Acts, acts_from, named_act, named_form, script_of, with_act, without_blanks}
unfoldable pub use Rattle.script_text.specs.Script.{form_in}
pub use Rattle.script_text.specs.Texts.{bytes_ahead}
pub use Rattle.script_text.specs.Threaded.{AreApart, Heard, Parts, Said, Within, heard_so_far, hears_in, nothing_said, parts_of, said_by, threaded_from, threaded_of, with_feed, with_input}
pub use Rattle.script_text.specs.Threaded.Within.{Head, Script}
pub use Rattle.script_text.specs.Threads.{goes_on, heard_by, hears, parts_read}
pub use Rattle.script_text.specs.declared.act.Act.{Act}
pub use Rattle.script_text.specs.declared.act.Act.TheVariants.{Operator, Session}
pub use Rattle.script_text.specs.declared.form.Form.{Form}
pub use Rattle.script_text.specs.declared.form.Form.TheVariants.{Asks, Begins}
pub use Rattle.script_text.specs.declared.inputs.SessionInput.{SessionInput}
pub use Rattle.script_text.specs.declared.operator_line.OperatorLine.TheVariants.{Admit, Step}
pub use Rattle.sessions.proofs.KeptLemmas.{kept-all, kept-kept}
unfoldable pub use Rattle.sessions.specs.Items.{kept_part}
pub use Rattle.sessions.specs.declared.line.SessionLine.TheVariants.{Refused}
pub use Rattle.sessions.specs.declared.refusal.SessionRefusal.TheVariants.{UnfinishedUpload}
