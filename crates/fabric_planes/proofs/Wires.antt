-- The wires of a strip.
use Rattle.fabric_planes.proofs.Prelude.{◌≡◌, ℕ, ◌<◌, ◌≤◌, true, arith, NodeKind, IsWire, is_node, Basis, make_node}

-- ---- wires of the strip

pub record IsLevel (basis : Basis) (x y n : ℕ) : Type 0 where
  pub from : 1 ≤ x
  pub to : x ≤ basis.strip.width
  pub row : y ≤ basis.strip.rows
  pub track : n < basis.arch.tracks

pub record IsUpright (basis : Basis) (x y n : ℕ) : Type 0 where
  pub to : x ≤ basis.strip.width
  pub from : 1 ≤ y
  pub row : y ≤ basis.strip.rows
  pub track : n < basis.arch.tracks

-- the wire of each track at the place of a wire
pub each_track : (basis : Basis) (kind : NodeKind) (x y n m : ℕ) → IsWire kind → m < basis.arch.tracks → is_node basis.arch basis.strip (make_node x kind y n) ≡ true → is_node basis.arch basis.strip (make_node x kind y m) ≡ true
each_track basis kind x y n m w l h = grind arith
