-- What drives a net in a cluster.
use Rattle.configuration_text.proofs.Prelude.{◌≡◌, ◌∙◌, ℕ, ◌==◌, ◌&&◌, List, filter, Option, option_map, slice_get, sym, ap, is_some, enumerate_from, Arch, Block, Cluster, drivers_as, ble_at, BleAt, LaidBle, LaidBlock, Layout}
use Rattle.configuration_text.proofs.Found.{made_of_first}

abbrev pub index_in : ℕ → List LaidBle → Option ℕ
index_in net bles = option_map (λ ble. ble.0) (slice_get (filter (λ ble. (ble.1.name == net) && is_some ble.1.output) (enumerate_from 0 bles)) 0)

pub cluster_driver : (arch : Arch) (layout : Layout) (laid : LaidBlock) (net number : ℕ) (bles : List LaidBle) (o : Option ℕ) → laid.block ≡ Cluster number → bles ≡ laid.bles → o ≡ index_in net bles →
    option_map (λ index. BleAt (ble_at arch layout laid index)) o ≡ slice_get (drivers_as arch layout laid net laid.block) 0
cluster_driver arch layout laid net number bles o is lent e =
    made_of_first (λ index. BleAt (ble_at arch layout laid index)) (filter (λ ble. (ble.1.name == net) && is_some ble.1.output) (enumerate_from 0 laid.bles)) o (e ∙ ap (index_in net) lent)
    ∙ ap (λ (block : Block). slice_get (drivers_as arch layout laid net block) 0) (sym is)
