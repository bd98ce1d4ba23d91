-- What a slot has when a command is lawful.
use Rattle.tenant_slot.proofs.Prelude.{◌≡◌, ℕ, Some, refl, Arch, Strip, KeptPlaces, Content, Empty, Packed, Placed, Routed, Unrouted, Netlist, HasContent, IsNetlist, netlist_in, text_of}
use Rattle.tenant_slot.specs.declared.content.Content.TheVariants.{Loaded}

-- what the slot keeps is what its text results in
module _ (arch : Arch) (strip : Strip) (keeps : KeptPlaces) (seed effort : ℕ) where
  pub netlist_kept : (content : Content) (netlist : Netlist) → netlist_in content ≡ Some netlist → HasContent arch strip keeps seed effort content → (netlist.text ≡ text_of content) × IsNetlist arch.lut_size netlist
  netlist_kept Empty netlist is has = absurd (cc)
  netlist_kept (Loaded kept) netlist is has = let same : kept ≡ netlist = cc in rw (← same) (refl, has)
  netlist_kept (Packed kept packing) netlist is has = let same : kept ≡ netlist = cc in rw (← same) (refl, has.0)
  netlist_kept (Placed kept packing placing) netlist is has = let same : kept ≡ netlist = cc in rw (← same) (refl, has.0)
  netlist_kept (Routed kept packing placing routing) netlist is has = let same : kept ≡ netlist = cc in rw (← same) (refl, has.0)
  netlist_kept (Unrouted kept packing placing failure) netlist is has = let same : kept ≡ netlist = cc in rw (← same) (refl, has.0)
