-- A strip's move, with all that its tenancy owns, keeps the book exact.
use Rattle.service_core.proofs.Prelude.{◌≡◌, ◌≢◌, inl, inr, ℕ, ◌+◌, ◌-◌, ◌≤◌, List, get_or, map, Bool, true, false, eqb, Option, Some, None, refl, sym, ap, ◌∙◌, subst, arith, Result, All, option_map, is_err, Decides-eqb, false≢true, Resource, has, moved_resource, PlacedStrip, IsParted, Moves, Plan, moved_strip, offset_of, strip_of, with_moved, found_id, IsNoOneElses, Owners, OwnsJust, Shifts, extent_of, owner_of, routed_set, Device, History, state_of, IsLiveIn, IsSound, held_at, placed_at, routed_in, live_of, StandsIn}
use Rattle.strips.specs.declared.layout.NoRoom.{NoRoom}
use Rattle.service_core.proofs.Booking.{its_width, placed_strip, stands_there}
use Rattle.service_core.proofs.Exact.{exact_shifted}
use Rattle.service_core.proofs.Holdings.{all_had, moved_same}
use Rattle.service_core.proofs.Keeps.{live_is}
use Rattle.service_core.proofs.MovedStrips.{IsService-moved, placed_width-moved, strip_of-moved}
use Rattle.service_core.proofs.Owning.{in_window, nobody_else, own_owned, owned_in}

-- the other strips keep their offsets
moved_not : (id offset k : ℕ) (o : Option PlacedStrip) → ((s : PlacedStrip) → o ≡ Some s → eqb s.id id ≡ false) → option_map (moved_strip id offset) o ≡ o
moved_not id offset k o other = grind arith

differs : (k id : ℕ) → k ≢ id → (b : Bool) → eqb k id ≡ b → eqb k id ≡ false
differs k id differ b e = grind arith

pub other_stands : (strips : List PlacedStrip) (id offset k : ℕ) → k ≢ id → strip_of (map (moved_strip id offset) strips) k ≡ strip_of strips k
other_stands strips id offset k differ = grind (arith, strip_of-moved, found_id)

-- the moved strip has the new offset
pub own_stands : (strips : List PlacedStrip) (id from offset : ℕ) → offset_of strips id ≡ Some from → offset_of (map (moved_strip id offset) strips) id ≡ Some offset
own_stands strips id from offset at = grind (arith, strip_of-moved, found_id)

other_owned : (strips : List PlacedStrip) (hs : List History) (id offset k : ℕ) → k ≢ id → owned_in (map (moved_strip id offset) strips) hs k ≡ owned_in strips hs k
other_owned strips hs id offset k differ = ap (λ o. placed_at (option_map (λ (s : PlacedStrip). s.offset) o) (routed_in (live_of hs k))) (other_stands strips id offset k differ)

-- the plan with the strip at its new offset, and a live tenancy that has it
module _ (book : Owners) (device : Device) (strips : List PlacedStrip) (hs : List History) (id from offset : ℕ) (h : History)
    (was : IsSound book device strips hs) (live : IsLiveIn hs id) (is : h ≡ get_or hs (id - 1) h) (at : offset_of strips id ≡ Some from)
    (parted : IsParted (record { columns = device.columns; strips = map (moved_strip id offset) strips })) where
  abbrev pub moved : List PlacedStrip
  moved = map (moved_strip id offset) strips

  old_owned : owned_in strips hs id ≡ held_at from h
  old_owned = own_owned strips hs id from h at (live_is hs id h live is)

  new_owned : owned_in moved hs id ≡ held_at offset h
  new_owned = own_owned moved hs id offset h (own_stands strips id from offset at) (live_is hs id h live is)

  -- nobody else owns anything at the new offset
  others_apart : (r : Resource) (k : ℕ) → k ≢ id → has (held_at offset h) r ≡ true → has (owned_in moved hs k) r ≡ true → ⊥
  others_apart r k differ its theirs =
      let place = placed_strip moved id offset (own_stands strips id from offset at) in
      let linked : (j : ℕ) → _ = λ j. placed_width-moved id offset strips j ∙ was.kept.linked j in
      let width : place.0.width ≡ h.strip.width = its_width moved hs id place.0 h linked place.1 (live_is hs id h live is) in
      let window : (offset ≤ r.x) × (r.x ≤ offset + h.strip.width) = in_window offset h r its in
      let same_place : place.0.offset ≡ offset = place.2 in
      nobody_else (record { columns = device.columns; strips = moved }) hs id k place.0 r parted linked place.1
      (omega (arith, window.0, same_place)) (omega (arith, window.1, same_place, width)) theirs differ

  -- the book has a place for everything in the moved strip
  pub stands_moved : StandsIn (extent_of device.arch device.columns device.rows) offset h.arch h.strip
  stands_moved = stands_there (record { device = device; plan = record { columns = device.columns; strips = moved }; histories = hs }) id offset h
      (record { columns = refl; parted = parted; of_live = λ j. placed_width-moved id offset strips j ∙ was.kept.linked j }) was.kept.alone (own_stands strips id from offset at) (live_is hs id h live is)

  pub owns_held : (resources : List Resource) → ((r : Resource) → has resources r ≡ has (routed_set (state_of h)) r) → OwnsJust book id (map (moved_resource from) resources)
  owns_held resources same r =
      let both = was.book.exact r id in
      let listed : has (map (moved_resource from) resources) r ≡ has (owned_in strips hs id) r = moved_same from resources (routed_set (state_of h)) same r ∙ ap (λ xs. has xs r) (sym old_owned) in
      ((λ owns. listed ∙ both.0 owns), (λ has_it. both.1 (sym listed ∙ has_it)))

  pub no_one_elses : (resources : List Resource) → ((r : Resource) → has resources r ≡ has (routed_set (state_of h)) r) → All (IsNoOneElses book id) (map (moved_resource offset) resources)
  no_one_elses resources same = all_had (IsNoOneElses book id) (map (moved_resource offset) resources) (λ r its. by_owner r (sym (moved_same offset resources (routed_set (state_of h)) same r) ∙ its) (owner_of book r) refl)
    where
      by_owner : (r : Resource) → has (held_at offset h) r ≡ true → (o : Option ℕ) → owner_of book r ≡ o → IsNoOneElses book id r
      by_owner r its None e = inl e
      by_owner r its (Some k) e = by_id (eqb k id) refl
        where
          by_id : (b : Bool) → eqb k id ≡ b → IsNoOneElses book id r
          by_id true same = inr (e ∙ ap Some ((Decides-eqb k id).0 same))
          by_id false differ =
              let other : k ≢ id = λ same. false≢true (sym differ ∙ (Decides-eqb k id).1 same) in
              absurd (others_apart r k other its (ap (λ xs. has xs r) (other_owned strips hs id offset k other) ∙ (was.book.exact r k).0 e))

  pub sound_moved : (left : Owners) → Shifts book id (held_at from h) (held_at offset h) left → IsSound left device moved hs
  sound_moved left shifted = record {
    lawful = was.lawful;
    kept = IsService-moved device strips hs id offset was.kept;
    book = record {
      extent = shifted.0 ∙ was.book.extent;
      exact = exact_shifted book left (owned_in strips hs) (owned_in moved hs) id
          (subst (λ xs. Shifts book id (owned_in strips hs id) xs left) (sym new_owned) (subst (λ xs. Shifts book id xs (held_at offset h) left) (sym old_owned) shifted))
          (λ k differ. other_owned strips hs id offset k differ)
          (λ r k differ its theirs. others_apart r k differ (ap (λ xs. has xs r) (sym new_owned) ∙ its) theirs)
          was.book.exact;
    };
  }

-- a shift by a list of exactly what is occupied
pub shifted_held : (book left : Owners) (id from offset : ℕ) (held resources : List Resource) → ((r : Resource) → has resources r ≡ has held r) →
    Shifts book id (map (moved_resource from) resources) (map (moved_resource offset) resources) left → Shifts book id (map (moved_resource from) held) (map (moved_resource offset) held) left
shifted_held book left id from offset held resources same shifted = grind (arith, moved_same)

-- a strip that has moved
pub moved_there : (old : Plan) (id offset : ℕ) (answer : Result (Unit {0}) NoRoom) (new : Plan) → Moves old id offset answer new → is_err answer ≡ false → IsParted (with_moved old id offset) × (new ≡ with_moved old id offset)
moved_there old id offset answer new moves ok = grind arith
