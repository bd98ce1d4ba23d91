use Rattle.unread_tables.proofs.Prelude.{◌≡◌, ◌≤◌, count_by, false, not, slice_index_or, take, LookupTable}
use Rattle.unread_tables.proofs.counting.count_unmarked.Given as goal

-- the tables before this one were counted
abbrev pub invariant-loop-place : goal.invariant-loop-place
invariant-loop-place l = record {
  few : l.count ≤ l.place;
  count : l.count ≡ count_by (λ (table : LookupTable). not (slice_index_or l.marks table.output false)) (take l.place l.tables);
}
