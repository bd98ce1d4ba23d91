-- The names that this crate's proofs use, but for its own lemmas.
pub use Rattle.std.proofs.Common.{Bool, Err, List, Ok, Result, Some, [], ap, arith, cond, drop, eqb, false, get_or, inl, inr, length, length-set, length-take-le, map, refl, replicate, set, subst, suc, sym, take, true, zero, ℕ, ◌++◌, ◌+◌, ◌-◌, ◌<◌, ◌||◌, ◌∙◌, ◌∷◌, ◌≡◌, ◌≤◌, ◌⊎◌}
pub use Rattle.std.proofs.Math.Seq.{drop-append_seam, get_or-append_seam}
pub use Rattle.std.proofs.lemmas.Bool.{cases_eq, cases_lt}
pub use Rattle.std.proofs.lemmas.Bool.Decides.{eqb_tells}
pub use Rattle.std.proofs.lemmas.List.{drop-append-le, get_or-replicate, get_or-set_other, get_or-set_same, get_or-take, get_or_append_left, get_or_past, length-drop, length-replicate, map-append}
pub use Rattle.std.proofs.lemmas.List.Elements.{All-append, All-cons, All-from_get_or, All-get_or, All-map, All-nil, All-tail, All-weaker}
pub use Rattle.std.proofs.lemmas.List.Sums.{count_by-le-length, sum_by-cons}
pub use Rattle.std.proofs.lemmas.Map.Steps.{length-le_from_distinct_below}
pub use Rattle.std.proofs.lemmas.Option.{MatchOption-at_some, get_or_from_slice_get, same_Some, slice_get-get_or, slice_get_within}
pub use Rattle.std.proofs.lemmas.Result.{IfOk-weaker}
pub use Rattle.std.specs.List.{All, AllByRecursion, count_by, list_any, slice_get}
unfoldable pub use Rattle.std.specs.List.{IsDistinct}
pub use Rattle.std.specs.Option.{MatchOption}
pub use Rattle.std.specs.Prelude.{slice_index_or}
pub use Rattle.std.specs.Result.{IfOk}
pub use Rattle.blif.specs.LawfulCircuits.{IsCircuit, IsLatchWithin, IsTableWithin}
pub use Rattle.blif.specs.LookupTables.{LookupTable}
pub use Rattle.blif.specs.declared.circuit.Circuit.{Circuit}
pub use Rattle.blif.specs.declared.circuit.TheConstants.{MAX_NETS}
pub use Rattle.blif.specs.declared.latches.Latch.{Latch}
pub use Rattle.longest_path.specs.Ends.{IsEnd}
pub use Rattle.longest_path.specs.Lasting.{AreLedTo, IsFirstLost, IsLasting, IsLedTo, IsMarked, IsMarkedAmong, IsMarkedBack, IsMissing, IsOnLoop, IsPlaceOf, NoneIsLost, NoneIsMarked}
pub use Rattle.longest_path.specs.Passes.{AreRaised, IsFarther, IsPassed}
pub use Rattle.longest_path.specs.Paths.{AreAt, HasLoop, IsIn, IsLongest, IsLoop, IsPath, IsTable, IsWay, ends_of, starts_of}
pub use Rattle.longest_path.specs.Reaches.{AreFound, AreSmall, AreUnreached, IsBegun, IsFarthest, IsFound, none, reach_of, steps_to}
pub use Rattle.longest_path.specs.Settled.{IsOnTheWay, IsSettled}
pub use Rattle.longest_path.specs.Tracing.{CanTrace, IsThrough, NoneLeads}
pub use Rattle.longest_path.specs.declared.longest.Longest.{Longest}
pub use Rattle.longest_path.specs.declared.longest.Longest.TheVariants.{Loop, NoPath, Path}
pub use Rattle.longest_path.specs.declared.reach.Reach.{Reach}
pub use Rattle.longest_path.specs.declared.trace.StepBack.{StepBack}
