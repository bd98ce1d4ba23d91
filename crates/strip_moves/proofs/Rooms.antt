-- A strip of a layout can be added to the strips before it.
use Rattle.strip_moves.proofs.Prelude.{◌≡◌, ◌≢◌, ◌∙◌, ℕ, suc, ◌+◌, ◌<◌, ◌≤◌, eqb, Bool, false, List, [], ◌∷◌, Some, None, All, length, get_or, take, if◌then◌else◌, refl, sym, ap, subst, arith, AllPairs, option_map, nat_tests, get_or-take, get_or_default, length-take-le, take_more, All-take, IsParted-with, IsParted-with-apart, AreApart, HasRoomFor, IsLaidOut, IsParted, Plan, offset_of, strip_of, with_strip, PlacedStrip}

-- no strip has the id
new_id : (xs : List PlacedStrip) (id : ℕ) → ((k : ℕ) (d : PlacedStrip) → k < length xs → (get_or xs k d).id ≢ id) → offset_of xs id ≡ None
new_id [] id other = refl
new_id (x ∷ xs) id other =
    let first : x.id ≢ id = other 0 x (omega arith) in
    let test : eqb x.id id ≡ false = grind (arith, nat_tests) in
    ap (λ (b : Bool). option_map (λ (strip : PlacedStrip). strip.offset) (if b then Some x else strip_of xs id)) test
    ∙ new_id xs id (λ k d lt. other (suc k) d (omega (arith, lt)))

pairs_taken : (R : PlacedStrip → PlacedStrip → Type 0) (xs : List PlacedStrip) (n : ℕ) → n ≤ length xs → AllPairs R xs → AllPairs R (take n xs)
pairs_taken R xs n within all i j d less lt =
    let count = length-take-le n xs within in
    let second : j < n = omega (arith, lt, count) in
    let first : i < n = omega (arith, less, second) in
    let both = all i j d less (omega (arith, second, within)) in
    rw (get_or-take n xs i d first, get_or-take n xs j d second) both

-- the strip at that place can be added to those before it
pub has_room : (columns place : ℕ) (strips : List PlacedStrip) (strip : PlacedStrip) → place < length strips → ((d : PlacedStrip) → get_or strips place d ≡ strip) → IsLaidOut (record { columns = columns; strips = strips }) →
    HasRoomFor (record { columns = columns; strips = take place strips }) strip
has_room columns place strips strip within at laid =
    let few = laid.few in
    let low : place ≤ length strips = omega (arith, within) in
    let count = length-take-le place strips low in
    let plan : Plan = record { columns = columns; strips = take place strips } in
    let nameless : PlacedStrip = record { id = 0; offset = strip.offset; width = strip.width } in
    let ends : strip.offset + strip.width ≤ columns = subst (λ (s : PlacedStrip). s.offset + s.width ≤ columns) (at strip) (laid.parted.inside place strip within) in
    let parted : IsParted plan = record {
      inside = All-take (λ s. s.offset + s.width ≤ columns) place strips laid.parted.inside;
      apart = pairs_taken AreApart strips place low laid.parted.apart;
    } in
    let apart : All (λ s. AreApart s nameless) (take place strips) = λ k d lt.
    (let first : k < place = omega (arith, lt, count) in
    rw (get_or-take place strips k d first) (subst (λ (s : PlacedStrip). AreApart (get_or strips k d) s) (at d) (laid.parted.apart k place d first within))) in
    record {
      few = omega (arith, count, within, few);
      fits = record {
        wide = subst (λ (s : PlacedStrip). 0 < s.width) (at strip) (laid.wide place strip within);
        parted = IsParted-with plan nameless parted ends apart;
      };
      new = new_id (take place strips) strip.id (λ k d lt.
          (let first : k < place = omega (arith, lt, count) in
          rw (get_or-take place strips k d first) (subst (λ (s : PlacedStrip). (get_or strips k d).id ≢ s.id) (at d) (laid.distinct k place d first within))));
    }

pub has_room_at : (columns place : ℕ) (strips : List PlacedStrip) (d : PlacedStrip) → place < length strips → IsLaidOut (record { columns = columns; strips = strips }) → HasRoomFor (record { columns = columns; strips = take place strips }) (get_or strips place d)
has_room_at columns place strips d within laid = has_room columns place strips (get_or strips place d) within (λ e. get_or_default strips place e d within) laid

-- the plan with the strip at that place
pub plan_more : (columns place : ℕ) (strips : List PlacedStrip) (plan new : Plan) (d : PlacedStrip) → place < length strips → plan ≡ record { columns = columns; strips = take place strips } → new ≡ with_strip plan (get_or strips place d) → new ≡ record { columns = columns; strips = take (place + 1) strips }
plan_more columns place strips plan new d within is added =
    added ∙ ap (λ (p : Plan). with_strip p (get_or strips place d)) is ∙ sym (ap (λ (xs : List PlacedStrip). record { columns = columns; strips = xs }) (take_more strips place d within))

-- a strip that can be added is apart from all others
pub apart_from_all : (plan : Plan) (strip : PlacedStrip) → HasRoomFor plan strip → All (λ s. AreApart s strip) plan.strips
apart_from_all plan strip room = IsParted-with-apart plan (record { id = 0; offset = strip.offset; width = strip.width }) room.fits.parted
