-- Bounds at the sides of a sink's block or pad, as pins are added.
use Rattle.fabric_planes.proofs.Prelude.{◌≡◌, ℕ, ◌<◌, ◌≤◌, List, get_or, subst, sym, arith, Sides, AreLow, AreNoDearer, PinBounds}

-- lesser bounds are still bounds
pub low_still : (sides : Sides) (pins others : PinBounds) (cost : ℕ) → AreNoDearer pins others → AreLow sides others cost → AreLow sides pins cost
low_still sides pins others cost falls low = grind arith

-- ---- all sides

pub by_four : (P : ℕ → Type 0) → P 0 → P 1 → P 2 → P 3 → (side : ℕ) → side < 4 → P side
by_four P a b c d side few = grind arith

pub at_index : (xs : List ℕ) (i j v : ℕ) → i ≡ j → v ≤ get_or xs j 0 → v ≤ get_or xs i 0
at_index xs i j v e le = subst (λ k. v ≤ get_or xs k 0) (sym e) le
