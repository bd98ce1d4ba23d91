-- Private: the number of nets that each BLE shares with the growing cluster.
use Rattle.std.specs.Prelude.{ℕ, ◌≡◌, ◌+◌, ◌-◌, ◌^◌, ◌<◌, List, All, nat_lt, length, slice_index_or, if◌then◌else◌}
use Rattle.ble_cluster.specs.Nets.{IsOnce, has}

-- the number of nets that the BLE with this number shares
abbrev pub gain_at : List ℕ → ℕ → ℕ
gain_at gains number = slice_index_or gains number 0

-- no BLE shares a net
abbrev pub ShareNothing : List ℕ → Type 0
ShareNothing gains = (number : ℕ) → number < length gains → gain_at gains number ≡ 0

-- 1 for each of these BLEs, which are all different, 0 for the others
abbrev pub is_raised : List ℕ → ℕ → ℕ
is_raised numbers number = if has numbers number then 1 else 0

-- each count can be increased
abbrev pub HaveRoom : List ℕ → Type 0
HaveRoom gains = All (λ gain. gain < 2 ^ 32 - 1) gains

-- the counts of these BLEs, which are all different, can be increased by one
pub record MayRise (gains numbers : List ℕ) : Type 0 where
  pub within : All (λ number. number < length gains) numbers
  pub once : IsOnce numbers
  pub room : HaveRoom gains

-- the count of the BLE can be increased by one
pub record MayRiseAt (gains : List ℕ) (number : ℕ) : Type 0 where
  pub within : number < length gains
  pub room : gain_at gains number < 2 ^ 32 - 1

-- the touched BLEs are those that share a net
pub record AreTouched (gains touched : List ℕ) : Type 0 where
  pub touches : (number : ℕ) → number < length gains → has touched number ≡ nat_lt 0 (gain_at gains number)
  pub within : All (λ number. number < length gains) touched

-- each of these BLEs shares one more net
pub record AreRaised (old new numbers : List ℕ) : Type 0 where
  pub count : length new ≡ length old
  pub raised : (number : ℕ) → number < length old → gain_at new number ≡ gain_at old number + is_raised numbers number
