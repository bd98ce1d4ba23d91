-- What is wrong with BLEs by their places is wrong with them by their numbers.
use Rattle.layout_check.proofs.Prelude.{◌≡◌, ℕ, ◌<◌, List, [], ◌++◌, Some, length, slice_get, ap, subst, sym, ◌∙◌, arith, flat_map, Arch, Circuit, LogicElement, AreBlesOf, LaidBlock, Layout, traced_bles, Basis, BleNumber, HoldFault, Ble as WrongBle, TableTwice as WrongTableTwice, LatchTwice as WrongLatchTwice, IsHeldFault, IsNumberOf, IsBleAt, IsWrong}
use Rattle.layout_check.specs.declared.held.HeldFault.TheVariants.{Ble, TableTwice, LatchTwice}
use Rattle.layout_check.proofs.BlePlaces.{bles_in, numbers_differ, place_within, traced_at, traced_in}

module _ (circuit : Circuit) (basis : Basis) (layout : Layout) (blocks : List LaidBlock) (same : blocks ≡ layout.blocks) where
  abbrev elements : List LogicElement
  elements = traced_bles basis.arch layout

  place_told : (place : ℕ) (element : LogicElement) → slice_get elements place ≡ Some element → place < length (bles_in blocks)
  place_told place element at = subst (λ bs. place < length (bles_in bs)) (sym same) (place_within basis.arch layout.blocks place element at)

  at_told : (place : ℕ) (number : BleNumber) (element : LogicElement) → IsNumberOf blocks place number → slice_get elements place ≡ Some element → IsBleAt basis.arch layout.blocks number element
  at_told place number element so at = traced_at basis.arch layout.blocks place number element (subst (λ bs. IsNumberOf bs place number) same so) at

  pub ble_small : (place : ℕ) (fault : HoldFault) → IsHeldFault circuit elements (Ble place fault) → place < length (bles_in blocks)
  ble_small place fault (element, at, said) = place_told place element at

  pub table_small : (k place other : ℕ) → IsHeldFault circuit elements (TableTwice k place other) → (place < length (bles_in blocks)) × (other < length (bles_in blocks))
  table_small k place other (table, at, less, first, second) = (place_told place first.0 first.1, place_told other second.0 second.1)

  pub latch_small : (k place other : ℕ) → IsHeldFault circuit elements (LatchTwice k place other) → (place < length (bles_in blocks)) × (other < length (bles_in blocks))
  latch_small k place other (latch, at, less, first, second) = (place_told place first.0 first.1, place_told other second.0 second.1)

  pub ble_told : (place : ℕ) (fault : HoldFault) (number : BleNumber) → IsNumberOf blocks place number → IsHeldFault circuit elements (Ble place fault) → IsWrong circuit basis layout (WrongBle number fault)
  ble_told place fault number so (element, at, said) = (element, at_told place number element so at, said)

  pub table_told : (k place other : ℕ) (number second : BleNumber) → IsNumberOf blocks place number → IsNumberOf blocks other second → IsHeldFault circuit elements (TableTwice k place other) → IsWrong circuit basis layout (WrongTableTwice k number second)
  table_told k place other number second a b h3 = search (numbers_differ, at_told, arith)

  pub latch_told : (k place other : ℕ) (number second : BleNumber) → IsNumberOf blocks place number → IsNumberOf blocks other second → IsHeldFault circuit elements (LatchTwice k place other) → IsWrong circuit basis layout (WrongLatchTwice k number second)
  latch_told k place other number second a b h3 = search (numbers_differ, at_told, arith)
