-- The names that this crate's proofs use, but for its own lemmas.
pub use Rattle.std.proofs.Common.{Bool, List, Some, [], ap, append_assoc, arith, cond, drop, false, get_or, inl, inr, is_some, leb, length, length-append, map, min, nat_le, refl, rules, set, subst, suc, sym, take, true, zero, ℕ, ◌%◌, ◌&&◌, ◌*◌, ◌++◌, ◌+◌, ◌-◌, ◌/◌, ◌<◌, ◌==◌, ◌^◌, ◌||◌, ◌∙◌, ◌∷◌, ◌≡◌, ◌≤◌, ◌⊎◌}
pub use Rattle.std.proofs.Math.ListN.{replicate}
pub use Rattle.std.proofs.Math.Nat.{mul-le-mul_left}
pub use Rattle.std.proofs.Math.Seq.{get_or-append_seam, take-append_seam}
pub use Rattle.std.proofs.lemmas.Bool.{and_from, and_parts, cases_Bool, cases_eq, cases_lt, eq-eqb, eqb-true, false≢true, le-leb, le-ltb, leb-false, leb-true, lt-ltb, ltb-true, ne_eqb, or_cases}
pub use Rattle.std.proofs.lemmas.Bool.Decides.{nat_tests}
pub use Rattle.std.proofs.lemmas.List.{append-nil, get_or-drop, get_or-map, get_or-replicate, get_or-set_other, get_or-set_same, get_or-take, get_or_append_left, get_or_default, get_or_past, get_or_push, get_or_read, length-drop, length-map, length-replicate, length-set, length-take-le, map-append, take_at, take_more, with_items_is}
pub use Rattle.std.proofs.lemmas.List.Elements.{All-append, All-cons, All-contains, All-contains_itself, All-drop, All-from_get_or, All-map, All-nil, All-take, Contains-append_cases, Contains-append_left, Contains-append_right, Contains-get_or, Contains-push, Contains-push_cases, filter-append}
pub use Rattle.std.proofs.lemmas.List.FromFn.{get_or-map-range_with_len, get_or-range_with_len, length-map-range_with_len, length-range_with_len, map-range_with_len_more}
pub use Rattle.std.proofs.lemmas.List.Kept.{AllPairs-from_increasing, IsStrictlyIncreasing-filter}
pub use Rattle.std.proofs.lemmas.List.Sums.{passes_at_first, position_or_len_is, sum_by-cons}
pub use Rattle.std.proofs.lemmas.Nat.{div-mul-add, mod-mul-add, mul-add-lt, mul-le, row_fits}
pub use Rattle.std.proofs.lemmas.Option.{get_or_from_slice_get, slice_get_within}
pub use Rattle.std.proofs.lemmas.Result.{IfOk-weaker, on_ok_weaker}
pub use Rattle.std.proofs.lemmas.Simd.{map-map}
pub use Rattle.std.specs.Cmp.Lexicographic.{slice_cmp}
pub use Rattle.std.specs.List.{range_with_len}
pub use Rattle.std.specs.List.Sorted.{IsNonDecreasing, IsStrictlyIncreasing}
pub use Rattle.std.specs.Ordering.{nat_cmp}
pub use Rattle.std.specs.Prelude.{All, Contains, IfSome, filter, if◌then◌else◌, slice_get, slice_index, slice_index_or, slice_set, sum_by}
pub use Rattle.std.specs.Vec.{with_items}
pub use Rattle.std.specs.declared.cmp.Ordering.TheVariants.{Less}
pub use Rattle.arch_file.proofs.FewPins.{few_pins}
pub use Rattle.arch_file.specs.Arch.{clock_count}
pub use Rattle.arch_file.specs.declared.arch.Arch.{Arch}
pub use Rattle.arch_file.specs.declared.arch.Pin.{Pin}
pub use Rattle.fabric_planes.specs.Aheads.{AreAheads, AreFars, AreLeast, AreSides, HaveBounds}
pub use Rattle.fabric_planes.specs.ArrivalRows.{arrival_at, arrival_for, arrival_if, column_of, first_row, first_rows, index_of, row_count, wire_beside}
pub use Rattle.fabric_planes.specs.BoundRows.{IsFarRow, IsNearRow, far_list}
pub use Rattle.fabric_planes.specs.Bounds.{AreLowered, IsMetAt, IsOutput, IsWireBound}
pub use Rattle.fabric_planes.specs.Differences.{IsPinPlace, IsPlaced, IsTarget, IsTargetAt, MOST_FAR, far_at, far_table, index_from, shift_of, target_at, target_offset, wires_to}
pub use Rattle.fabric_planes.specs.Distances.{apart_from, east_of, ends_apart, is_same_wire, north_of, south_of, west_of, wires_apart, wires_by}
pub use Rattle.fabric_planes.specs.Ends.{AddsRow, AreRowsBelow, IsRowFor, base_of, row_from, row_of, seen_from}
unfoldable pub use Rattle.fabric_planes.specs.Ends.{shown_ends}
pub use Rattle.fabric_planes.specs.Fars.{AreFar}
pub use Rattle.fabric_planes.specs.InputSides.{AreInputSides}
pub use Rattle.fabric_planes.specs.Labels.{AreLabels, Labels, is_there, node_at, plane_of}
unfoldable pub use Rattle.fabric_planes.specs.Labels.{family_of}
pub use Rattle.fabric_planes.specs.Laid.{IsWireOf}
pub use Rattle.fabric_planes.specs.Layout.{AreCosts, AreTerminals, IsNetSearch, IsStart, Terminals, band_of, graph_at, in_column, is_same_spot, level_at, offset_of, pins_of, place_count, place_of, planes_of, shows, stride_of, track_by, upright_at}
unfoldable pub use Rattle.fabric_planes.specs.Layout.{labels_of}
pub use Rattle.fabric_planes.specs.NetSearches.{IsPathAt, terminals_of}
pub use Rattle.fabric_planes.specs.PinRows.{apart_at, apart_by, apart_count, aparts, kind_at, listed_at, listed_by, pin_number, rows_per_track}
pub use Rattle.fabric_planes.specs.Pins.{AreArrivals, AreByPlace, ArePins, ArePrices, HasEnds, HaveEnds, IsAside, IsShownPin, ends_in}
pub use Rattle.fabric_planes.specs.PlaneBounds.{AreBounds, AreRivals}
pub use Rattle.fabric_planes.specs.Prelude.{AreNodes, AreNumbersAt, Basis, ChanX, ChanY, Family, Graph, Ipin, IsBasis, IsFamily, IsKnown, IsLawful, IsLowerBound, IsPath, IsPlace, IsPlaneBound, IsRivalBound, IsTooFar, IsWire, Leads, Node, NodeKind, Opin, Path, Sides, Sink, Source, Start, Strip, cost_of, graph_of, is_block_row, is_node, is_together, is_wire, make_node, meets, node_at_offset, places_of, rank_of, sides_at}
pub use Rattle.fabric_planes.specs.Prices.{AreByPlaceBut, ComesFrom, IsPrice, IsRepriced, IsSpot, IsWireOn}
pub use Rattle.fabric_planes.specs.RivalBounds.{AreFromSource, AreLimited, AreOverPin, AreOverSide, AreRivalsFrom, AreRivalsOver, AreShownTo, AreWiresTo, IsLead, head_over}
pub use Rattle.fabric_planes.specs.Rivals.{ComesFirst, IsHeadOf, IsOtherPath, IsPathFrom, IsPinHead, IsPinPath, IsSourceHead, IsSourcePath, IsWireHead, IsWirePath}
pub use Rattle.fabric_planes.specs.Shown.{AddsPins, ArePinsFor, IsOutputOf, IsPinAt}
pub use Rattle.fabric_planes.specs.SideBounds.{AreFew, AreLow, AreNoDearer, ArePinBounds, AreSidesBounded, AreWiresBounded, IsLowFor, IsSideBounded, by_side}
pub use Rattle.fabric_planes.specs.SidePlaces.{IsInStrip, side_places}
pub use Rattle.fabric_planes.specs.Sides.{AreSideBounds, IsAtSide, IsBySide, IsFromPin, IsFromWire, IsOwnPin, IsStartKind, columns_less, is_on_side, rows_less, side_kind}
pub use Rattle.fabric_planes.specs.Starts.{AddsWires, AreSomeStarts, HasStarts, IsStartOf, IsStartWire, KeepsStarts, is_pin_number, is_wire_number}
pub use Rattle.fabric_planes.specs.Steps.{AreSteps, AreStepsBelow, KeepsRows, NO_CLASS, most_rows, step_view}
pub use Rattle.fabric_planes.specs.Tables.{AreFirsts, AreFirstsBelow, IsFirstAt, IsFirstWire, IsNearby, NO_WIRE}
pub use Rattle.fabric_planes.specs.Ways.{IsEntry, IsWayOver, IsWireAt}
pub use Rattle.fabric_planes.specs.declared.distances.Target.{Target}
pub use Rattle.fabric_planes.specs.declared.distances.Target.TheVariants.{Block, Level, Upright}
pub use Rattle.fabric_planes.specs.declared.ends.Listed.{Listed}
pub use Rattle.fabric_planes.specs.declared.ends.View.{View}
pub use Rattle.fabric_planes.specs.declared.net_starts.NetStarts.{NetStarts}
pub use Rattle.fabric_planes.specs.declared.net_starts.StartWire.{StartWire}
pub use Rattle.fabric_planes.specs.declared.pin_bounds.PinBounds.{PinBounds}
pub use Rattle.fabric_planes.specs.declared.pins.PinAt.{PinAt}
pub use Rattle.fabric_planes.specs.declared.price_table.PriceAt.{PriceAt}
pub use Rattle.fabric_planes.specs.declared.rival_bounds.Lead.{Lead}
pub use Rattle.fabric_planes.specs.declared.rivals.Head.{Head}
pub use Rattle.fabric_planes.specs.declared.steps.Steps.{Steps}
pub use Rattle.plane_search.specs.Planes.{IsPlane}
pub use Rattle.plane_search.specs.Starts.{AreStarts}
pub use Rattle.rr_graph.proofs.Columns.{get_within, member_bounds, member_of, member_small, same_kind}
pub use Rattle.rr_graph.proofs.Definition.{definition_lawful}
pub use Rattle.rr_graph.proofs.FewEnds.{ends_few}
pub use Rattle.rr_graph.proofs.FewNodes.{few_nodes}
pub use Rattle.rr_graph.proofs.GeometryLaws.{edge_joins}
pub use Rattle.rr_graph.proofs.Listing.{contains_has, filter_has, has_contains}
pub use Rattle.rr_graph.proofs.Moves.{joins_moved}
pub use Rattle.rr_graph.proofs.Nearness.{IsNear, joins_reached, reached_near}
pub use Rattle.rr_graph.proofs.Unique.{same_rising}
pub use Rattle.rr_graph.specs.Geometry.{crosses, flexibility_of, is_block_number, is_chan_y, is_edge, is_next, is_pad_row, is_slot, joins, meets_track, runs_along}
pub use Rattle.rr_graph.specs.Graph.{IsAt, IsRoutingGraph}
pub use Rattle.rr_graph.specs.Node.{IsBefore}
pub use Rattle.rr_graph.specs.Table.{columns_right}
