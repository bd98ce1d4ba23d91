use Rattle.unread_tables.proofs.Prelude.{◌≡◌, ◌++◌, flat_map, take, LookupTable}
use Rattle.unread_tables.proofs.reads.add_tables.Given as goal

-- the nets of the tables before this one were added
abbrev pub invariant-loop-place : goal.invariant-loop-place
invariant-loop-place l = l.nets.items ≡ l.fn.nets.items ++ flat_map (λ (table : LookupTable). table.inputs) (take l.place l.tables)
