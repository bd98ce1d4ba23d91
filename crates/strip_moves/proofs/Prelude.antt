-- The names that this crate's proofs use, but for its own lemmas.
pub use Rattle.std.proofs.Common.{All, Bool, Err, IsSome, List, None, Ok, Result, Some, [], ap, arith, eqb, false, get_or, if◌then◌else◌, inl, inr, length, refl, subst, suc, sym, take, zero, ℕ, ◌++◌, ◌+◌, ◌-◌, ◌<◌, ◌∙◌, ◌∷◌, ◌≡◌, ◌≢◌, ◌≤◌}
pub use Rattle.std.proofs.lemmas.Bool.{cases_lt, cases_order, true≢false}
pub use Rattle.std.proofs.lemmas.Bool.Decides.{Decides-eqb, nat_tests}
pub use Rattle.std.proofs.lemmas.List.{ext_get_or, get_or-map, get_or-take, get_or_default, length-map, length-take-le, take_more}
pub use Rattle.std.proofs.lemmas.List.Elements.{All-same, All-take}
pub use Rattle.std.specs.List.{AllPairs}
pub use Rattle.std.specs.Prelude.{option_map}
pub use Rattle.std.specs.Result.{is_ok}
pub use Rattle.device_report.specs.Widest.{IsAdmittedAt}
pub use Rattle.strip_moves.specs.Moves.{AreAccepted, AreLeftmost, CannotMove, IsMoved}
pub use Rattle.strip_moves.specs.Settled.{Blocks, IsFull, IsSettled, Sits}
pub use Rattle.strip_moves.specs.declared.joining.StripMove.{StripMove}
pub use Rattle.strips.proofs.Laid.{IsLaidOut-with, IsParted-with, IsParted-with-apart, laid_moved, moved_apart, parted_moved}
pub use Rattle.strips.specs.Plan.{AreApart, FitsAt, HasRoomFor, IsLaidOut, IsParted, Moves, Plan, moved_strip, offset_of, strip_of, with_moved, with_strip}
pub use Rattle.strips.specs.declared.layout.NoRoom.{NoRoom}
pub use Rattle.strips.specs.declared.layout.TheConstants.{MAX_STRIPS}
pub use Rattle.strips.specs.declared.placed_strip.PlacedStrip.{PlacedStrip}
