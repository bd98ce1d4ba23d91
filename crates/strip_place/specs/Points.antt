-- Private: the point at which a block is.
use Rattle.std.specs.Prelude.{ℕ, ◌≡◌, ◌-◌}

-- a column and a row
pub record Point : Type 0 where
  pub x : ℕ
  pub y : ℕ

-- the distances from opposite sides of a field that is larger than any strip
pub record AreOpposite (left right bottom top : ℕ) : Type 0 where
  pub across : right ≡ 65535 - left
  pub along : top ≡ 65535 - bottom
