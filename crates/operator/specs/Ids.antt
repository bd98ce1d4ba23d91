-- Private: how the operator keeps the last id of each name.
use Rattle.std.specs.Prelude.{ℕ, ◌≡◌, List, reverse, unwrap_or}
use Rattle.std.specs.Borrow.{Bor}
use Rattle.std.specs.Map.{lookup}
use Rattle.std.specs.Str.{bytes_eq}
use Rattle.operator.specs.Prelude.{texts}
use Rattle.operator.specs.OperatorText.{last_id}

-- the names of all ids, newest first, from those in the order of admission
abbrev pub newest_first : List (Bor (List ℕ)) → List (List ℕ)
newest_first admitted = reverse (texts admitted)

-- the entries have the last id of each name
abbrev pub AreLastIds : List (Bor (List ℕ) × ℕ) → List (List ℕ) → Type 0
AreLastIds entries names = (name : List ℕ) → unwrap_or (lookup (λ key. bytes_eq name key.now) entries) 0 ≡ last_id names name
