use Rattle.ble_cluster.proofs.Prelude.{◌≡◌, ◌∷◌, [], ◌-◌, not, length, find, range_with_len, element_at, fits_in_cluster, unfit_among}
use Rattle.ble_cluster.proofs.fit.first_unfit.Given as goal

-- each BLE so far fits alone
abbrev pub invariant-loop-number : goal.invariant-loop-number
invariant-loop-number l = find (λ number. not (fits_in_cluster l.arch (element_at l.bles number ∷ []))) (range_with_len l.number (length l.bles - l.number)) ≡ unfit_among l.arch l.bles
