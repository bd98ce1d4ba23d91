-- Each table and each latch is in just one BLE of a packed circuit.
use Rattle.implements.proofs.Prelude.{◌≡◌, ℕ, true, count_by, flat_map, LogicElement, PackedCircuit, blocks_of, IsPacked, IsLawfulPacking, AreBlesOf, holds_latch, holds_table}
use Rattle.implements.proofs.Results.{packed_bles}
use Rattle.implements.proofs.BleKinds.{ble_is, is_some_of, table_holds}
use Rattle.implements.proofs.BleHolders.{latch_holder, latch_out, table_out}
use Rattle.implements.proofs.BleMembers.{of_table, table_in_bles}
use Rattle.implements.proofs.Members.{all_members}
use Rattle.implements.proofs.PackedBles.{from_packed, packed_apart, to_packed}
use Rattle.implements.proofs.Unique.{one_counted}

pub packed_held : (packed : PackedCircuit) → IsPacked packed → IsLawfulPacking packed → AreBlesOf packed.circuit (flat_map (packed_bles packed) (blocks_of packed))
packed_held packed lawful laws =
    let circuit = packed.circuit in
    let elements = flat_map (packed_bles packed) (blocks_of packed) in
    let out : LogicElement → ℕ = λ element. element.output in
    let apart = packed_apart packed lawful laws in
    record {
      each = all_members (λ element. is_some_of circuit element ≡ true) elements (λ element c. ble_is circuit element (from_packed packed lawful laws element c));
      tables = all_members (λ table. count_by (λ element. holds_table circuit element table) elements ≡ 1) circuit.tables (λ table c.
          one_counted out (λ element. holds_table circuit element table) (of_table circuit table).output elements (of_table circuit table) apart
          (λ element d holds. table_out circuit lawful.circuit element table (from_packed packed lawful laws element d) c holds)
          (to_packed packed lawful laws (of_table circuit table) (table_in_bles circuit table c))
          (table_holds circuit table));
      latches = all_members (λ latch. count_by (λ element. holds_latch circuit element latch) elements ≡ 1) circuit.latches (λ latch c.
          let q = latch_holder circuit latch c in
          one_counted out (λ element. holds_latch circuit element latch) latch.output elements q.0 apart
          (λ element d holds. latch_out circuit element latch holds)
          (to_packed packed lawful laws q.0 q.1)
          q.2);
    }
