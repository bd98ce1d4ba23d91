-- The table in a BLE that has a latch.
use Rattle.configuration_text.proofs.Prelude.{◌≡◌, ◌∙◌, ℕ, Bool, [], ◌∷◌, cond, Option, Some, None, ap, option_map_or, Arch, LookupTable, Circuit, Latch, latch_driving, table_driving, table_within, receives, LaidBle, LaidBlock, traced_ble}

pub with_latch : (circuit : Circuit) (arch : Arch) (laid : LaidBlock) (ble : LaidBle) (name : ℕ) (latch : Latch) (alone : Bool) → ble.name ≡ name → latch_driving circuit name ≡ Some latch → receives (traced_ble arch laid ble) (latch.input ∷ []) ≡ alone →
    table_within circuit arch laid ble ≡ cond alone None (table_driving circuit latch.input)
with_latch circuit arch laid ble name latch alone named is e =
    let inner : Latch → Option LookupTable = λ l. cond (receives (traced_ble arch laid ble) (l.input ∷ [])) None (table_driving circuit l.input) in
    ap (λ (n : ℕ). option_map_or inner (latch_driving circuit n) (table_driving circuit n)) named
    ∙ ap (λ (o : Option Latch). option_map_or inner o (table_driving circuit name)) is
    ∙ ap (λ (b : Bool). cond b None (table_driving circuit latch.input)) e
