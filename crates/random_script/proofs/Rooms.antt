-- Strips on a device with more rows.
use Rattle.std.proofs.Common.{ℕ, ◌≤◌, ◌*◌, ◌+◌, arith}
use Rattle.std.specs.Int.{div_ceil}
use Rattle.std.proofs.Math.Nat.{mul-le-mul_left}
use Rattle.std.proofs.lemmas.Grind.{div_ceil_times}
use Rattle.grid.specs.declared.TheConstants.{MAX_ROWS}
use Rattle.random_script.specs.Plans.{HasRoom}

module _ (places rows : ℕ) (some : 1 ≤ rows) (few : rows ≤ MAX_ROWS) where
  narrower : div_ceil places MAX_ROWS ≤ div_ceil places rows
  narrower = let a = div_ceil_times places MAX_ROWS (omega arith) in let b = div_ceil_times places rows some in grind arith

  lift : div_ceil places MAX_ROWS ≤ div_ceil places rows → div_ceil places MAX_ROWS + 1 ≤ div_ceil places rows + 1
  lift n = omega arith

  -- strips that fit in fewer rows fit in all
  pub in_all_rows : (tenancies : ℕ) → HasRoom tenancies places rows → HasRoom tenancies places MAX_ROWS
  in_all_rows tenancies room = let n = narrower in let narrow = room.narrow in let together = room.together in let more = mul-le-mul_left tenancies (lift n) in record { narrow = omega arith; together = omega arith }
