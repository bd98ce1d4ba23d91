-- A BLE that drives what a latch drives, by what drives the latch's data.
use Rattle.layout_check.proofs.Prelude.{◌≡◌, ℕ, ◌<◌, ◌≤◌, List, [], ◌∷◌, Some, get_or, length, slice_get, true, sym, ap, ◌∙◌, subst, arith, inl, inr, ◌⊎◌, cases_lt, get_or_past, slice_get-get_or, Circuit, Latch, LookupTable, LogicElement, is_read_once, is_same_net, receives, at_member, ReadFault, Owner, Nothing, Table, IsLatchOrPair, DrivesAsPair, IsHoldFault, IsReadFault, AreNets, owner_of}
use Rattle.layout_check.specs.declared.fault.HoldFault.TheVariants.{Latch as LatchAlone}
use Rattle.layout_check.proofs.HeldParts.{to_pair}
use Rattle.layout_check.proofs.Receiving.{never_received}

module _ (circuit : Circuit) (owners : List Owner) (counts : List ℕ) (nets : AreNets circuit owners counts) (element : LogicElement) (number : ℕ) (slice : List Latch) (d : Latch) (same : slice ≡ circuit.latches) (small : number < length circuit.latches)
    (drives : (latch : Latch) → slice_get circuit.latches number ≡ Some latch → element.output ≡ latch.output) where
  abbrev it : Latch
  it = get_or slice number d

  at : slice_get circuit.latches number ≡ Some it
  at = slice_get-get_or circuit.latches number d small ∙ ap (λ (xs : List Latch). Some (get_or xs number d)) (sym same)

  -- a net that something owns is counted
  owned_small : (net k : ℕ) → owner_of owners net ≡ Table k → net < length counts
  owned_small net k owned = by (cases_lt net (length owners))
    where
      by : (net < length owners) ⊎ (length owners ≤ net) → net < length counts
      by (inl less) = let long = nets.long in omega (arith, less, long)
      by (inr past) = let none : owner_of owners net ≡ Nothing = get_or_past owners net Nothing past in absurd cc

  pub pair_found : (table : ℕ) (fault : ReadFault) → owner_of owners it.input ≡ Table table → IsReadFault element (it.input ∷ []) fault →
      (read : LookupTable) × (stored : Latch) × DrivesAsPair circuit element table number read stored × (read.output < length counts)
  pair_found table fault owned said =
      let q = nets.owned.of_table it.input table owned in (
        q.1,
        it,
        record { at = q.2; drives = record { at = at; same = drives it at }; stored = sym q.3; never_alone = never_received element (it.input ∷ []) fault said },
        subst (λ net. net < length counts) (sym q.3) (owned_small it.input table owned),
      )

  pub pair_told : (table : ℕ) → owner_of owners it.input ≡ Table table → is_same_net element.clock it.control ≡ true →
      ((read : LookupTable) → slice_get circuit.tables table ≡ Some read → (receives element read.inputs ≡ true) × (is_read_once circuit read.output ≡ true)) → IsLatchOrPair circuit element number (Some table)
  pair_told table owned clock says =
      let q = nets.owned.of_table it.input table owned in
      let both = says q.1 q.2 in
      (q.1, it, q.2, at, to_pair circuit element q.1 it (record { stored = sym q.3; once = both.1; output = drives it at; reads = both.0; clock = clock }))

  -- no table drives its data
  pub alone_told : (owner : Owner) (fault : ReadFault) → owner_of owners it.input ≡ owner → ((k : ℕ) → owner ≡ Table k → ⊥) → IsReadFault element (it.input ∷ []) fault → IsHoldFault circuit element (LatchAlone number fault)
  alone_told owner fault owned no_table said = (
    it,
    record { at = at; same = drives it at },
    (λ table c stored. let m = at_member circuit.tables table c in no_table m.0 (sym owned ∙ ap (owner_of owners) stored ∙ nets.owned.tables m.0 table m.1 m.2)),
    said,
  )
