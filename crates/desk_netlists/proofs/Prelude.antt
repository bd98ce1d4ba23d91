-- The names that this crate's proofs use, but for its own lemmas.
pub use Rattle.std.proofs.Common.{Bool, Bor, Err, IfOk, IfSome, IsSomeAnd, List, MatchResult, None, Ok, OnErr, Option, Result, Some, [], ap, arith, codes, inl, inr, map, refl, subst, sym, take, take-append-drop, true, ℕ, ◌++◌, ◌∙◌, ◌∷◌, ◌≡◌, ◌≤◌}
pub use Rattle.std.proofs.lemmas.Option.{same_Some, slice_get-get_or}
pub use Rattle.std.proofs.lemmas.Result.{IfOk-weaker}
pub use Rattle.std.proofs.lemmas.Str.Pattern.{NoCharPasses-char, drop_at_char}
pub use Rattle.std.specs.Bool.{◌==◌}
pub use Rattle.std.specs.List.{flat_map}
pub use Rattle.std.specs.Path.{slash}
pub use Rattle.std.specs.Str.{NoCharPasses}
pub use Rattle.std.specs.Str.Pattern.{RFindsChar, SplitsAroundMatch}
pub use Rattle.desk_common.proofs.Added.{added_then}
pub use Rattle.desk_common.specs.Outcomes.{written_so}
pub use Rattle.desk_netlists.specs.Asked.{IsSizeAskedFor}
pub use Rattle.desk_netlists.specs.Jobs.{IsDone, IsRouted, IsSizeFor, IsSized, IsTrial}
pub use Rattle.desk_netlists.specs.Prelude.{AreAdded, Files, FlowOutcome, IsBeginning, IsNumberIn, IsOf, IsReadFrom, JoinedLine, Json, LaidCircuit, MAX_EFFORT, NamedBytes, Outcome, ScriptParameters, Start, TenancyScript, circuit_members, configuration_text, json_tokens, known_number, lines_of, list_of, name_of, object_of, printed_script, string}
pub use Rattle.desk_netlists.specs.RoutedJson.{fullest_json, lacking_json, last_members, part_json, part_members, size_members, stop_json, stop_word}
pub use Rattle.desk_netlists.specs.Scripts.{Prints}
pub use Rattle.desk_netlists.specs.Written.{AreExtras, AreWritten, IsCheckedExtra, IsConfigured, IsExtra, IsLaidIn, IsLastPart, IsRoutedOf, IsStem, if_asked, of_kind, three_files}
pub use Rattle.desk_netlists.specs.declared.path_facts.StopFacts.{StopFacts}
pub use Rattle.desk_netlists.specs.declared.route.TheConstants.{MAX_READ}
pub use Rattle.desk_netlists.specs.declared.route_job.RouteJob.{RouteJob}
pub use Rattle.desk_netlists.specs.declared.route_wishes.RouteWishes.{RouteWishes}
pub use Rattle.desk_netlists.specs.declared.route_wishes.Size.{Size}
pub use Rattle.desk_netlists.specs.declared.route_wishes.Size.TheVariants.{Given, LeastColumns, LeastRows, LeastSquare}
pub use Rattle.desk_netlists.specs.declared.routed_table.Routed.{Routed}
pub use Rattle.json.specs.Token.{Token}
pub use Rattle.json_text.proofs.Tokens.{list_written, members_more, object_tokens, object_written, ok_then, one_member, one_more}
pub use Rattle.line_text.specs.Writing.{Writes}
pub use Rattle.line_text.specs.declared.source.Failed.{Failed}
pub use Rattle.one_user.specs.Tracks.{IsLeast}
