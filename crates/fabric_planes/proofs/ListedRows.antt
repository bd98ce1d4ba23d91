-- Rows of the ends of nodes, one after another.
use Rattle.fabric_planes.proofs.Prelude.{ℕ, ◌+◌, List, [], length-append, arith, get_or-append_seam, get_or_append_left, Basis, AddsRow, AreRowsBelow, Listed}

-- one row more
pub row_added : (basis : Basis) (listed_at : ℕ → Listed) (count : ℕ) (old new : List (List ℕ)) → AreRowsBelow basis listed_at count old → AddsRow basis (listed_at count) old new → AreRowsBelow basis listed_at (count + 1) new
row_added basis listed_at count old new are adds = grind (arith, length-append, get_or-append_seam, get_or_append_left)
