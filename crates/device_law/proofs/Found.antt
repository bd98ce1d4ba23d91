-- The tenancy with an id is found in a list.
use Rattle.device_law.proofs.Prelude.{◌≡◌, ℕ, ◌+◌, ◌<◌, ◌≤◌, ◌⊎◌, inl, inr, Bool, true, false, cond, eqb, List, [], ◌∷◌, ◌++◌, length, map, Option, Some, None, refl, sym, ap, ◌∙◌, subst, arith, ⊤, ◌==◌, find, nat_lt, option_map, position, IsSomeAnd, option_map_or, option_or, position_or_len, cases_lt, nat_tests, find-append, PlacedStrip, strip_of, Resource, Listed, OwnedNode, is_in_strip, is_owners, with_id, strip_listed, without_state}
use Rattle.std.specs.Prelude.{not}
use Rattle.device_law.proofs.Each.{Each, each-append, each-weaken}
use Rattle.device_law.proofs.StripEntries.{strip_entries, strip_entry}

-- the tenancy's line has that strip
abbrev HasStrip : PlacedStrip → Listed → Type 0
HasStrip s one = (one.offset ≡ s.offset) × (one.width ≡ s.width)

ids_few : (strips : List PlacedStrip) (names : List (List ℕ)) → Each (λ (one : Listed). one.id ≤ length names) (strip_entries strips names)
ids_few strips [] = tt
ids_few strips (newest ∷ older) = grind (arith, each-append, each-weaken, ids_few strips older)

past_all : (xs : List Listed) (count id : ℕ) → count < id → Each (λ (one : Listed). one.id ≤ count) xs → with_id xs id ≡ None
past_all [] count id past each = refl
past_all (one ∷ xs) count id past each = grind (arith, past_all xs count id past each.1)

strip_found : (strips : List PlacedStrip) (names : List (List ℕ)) (id : ℕ) (s : PlacedStrip) → 0 < id → id ≤ length names → strip_of strips id ≡ Some s → IsSomeAnd (with_id (strip_entries strips names) id) (HasStrip s)
strip_found strips [] id s some few found = absurd (omega (arith, some, few))
strip_found strips (newest ∷ older) id s some few found =
    subst (λ o. IsSomeAnd o (HasStrip s)) (sym (find-append (λ (one : Listed). one.id == id) (strip_entries strips older) (strip_entry (strip_of strips (length older + 1)) (length older + 1) newest))) (by (cases_lt (length older) id) (λ within. strip_found strips older id s some within found))
  where
    first : (o p : Option Listed) → IsSomeAnd o (HasStrip s) → IsSomeAnd (option_or o p) (HasStrip s)
    first None p never = absurd never
    first (Some one) p has = has

    by : (length older < id) ⊎ (id ≤ length older) → (id ≤ length older → IsSomeAnd (with_id (strip_entries strips older) id) (HasStrip s)) → IsSomeAnd (option_or (with_id (strip_entries strips older) id) (with_id (strip_entry (strip_of strips (length older + 1)) (length older + 1) newest) id)) (HasStrip s)
    by (inl past) older_found =
        let same : length older + 1 ≡ id = omega (arith, past, few) in
        let here : strip_of strips (length older + 1) ≡ Some s = ap (strip_of strips) same ∙ found in
        let own : ((length older + 1) == id) ≡ true = grind (arith, nat_tests, same) in
        let P : Option Listed → Type 0 = λ o. IsSomeAnd (option_or o (with_id (strip_entry (strip_of strips (length older + 1)) (length older + 1) newest) id)) (HasStrip s) in
        let Q : Option PlacedStrip → Type 0 = λ o. IsSomeAnd (with_id (strip_entry o (length older + 1) newest) id) (HasStrip s) in
        let R : Bool → Type 0 = λ b. IsSomeAnd (cond b (Some (record { id = length older + 1; name = newest; offset = s.offset; width = s.width; state = [] })) None) (HasStrip s) in
        subst P (sym (past_all (strip_entries strips older) (length older) id past (ids_few strips older))) (subst Q (sym here) (subst R (sym own) (refl, refl)))
    by (inr within) older_found = first (with_id (strip_entries strips older) id) _ (older_found within)

-- the names of states don't matter
bare_found : (xs : List Listed) (id : ℕ) → with_id (map without_state xs) id ≡ option_map without_state (with_id xs id)
bare_found [] id = refl
bare_found (one ∷ xs) id = grind (arith, bare_found xs id)

-- an owned node in the strip of a listed tenancy
pub record OwnedIn (strips : List PlacedStrip) (count : ℕ) (one : OwnedNode) : Type 0 where
  pub some : 0 < one.owner
  pub few : one.owner ≤ count
  pub strip : PlacedStrip
  pub found : strip_of strips one.owner ≡ Some strip
  pub within : is_in_strip one.node (strip_listed strip) ≡ true

by_strip : (node : Resource) (s : PlacedStrip) (one : Listed) → HasStrip s one → is_in_strip node (strip_listed s) ≡ true → is_in_strip node one ≡ true
by_strip node s one has within = grind arith

is_owners_of : (strips : List PlacedStrip) (names : List (List ℕ)) (listed : List Listed) (one : OwnedNode) → map without_state listed ≡ strip_entries strips names → OwnedIn strips (length names) one → is_owners listed one ≡ true
is_owners_of strips names listed one same is =
    let here = strip_found strips names one.owner is.strip is.some is.few is.found in
    let P : List Listed → Type 0 = λ xs. IsSomeAnd (with_id xs one.owner) (HasStrip is.strip) in
    let Q : Option Listed → Type 0 = λ o. IsSomeAnd o (HasStrip is.strip) in
    by (with_id listed one.owner) (subst Q (bare_found listed one.owner) (subst P (sym same) here))
  where
    by : (o : Option Listed) → IsSomeAnd (option_map without_state o) (HasStrip is.strip) → option_map_or (is_in_strip one.node) o false ≡ true
    by None never = absurd never
    by (Some found) has = by_strip one.node is.strip found has is.within

-- so no node is outside
pub none_foreign : (strips : List PlacedStrip) (names : List (List ℕ)) (listed : List Listed) (owned : List OwnedNode) → map without_state listed ≡ strip_entries strips names → Each (OwnedIn strips (length names)) owned →
    position (λ one. not (is_owners listed one)) owned ≡ None
none_foreign strips names listed owned same each =
    let all = past owned each in
    let end : nat_lt (position_or_len (λ one. not (is_owners listed one)) owned) (length owned) ≡ false = grind (arith, nat_tests, all) in
    ap (λ b. cond b (Some (position_or_len (λ one. not (is_owners listed one)) owned)) None) end
  where
    past : (owned : List OwnedNode) → Each (OwnedIn strips (length names)) owned → position_or_len (λ one. not (is_owners listed one)) owned ≡ length owned
    past [] each = refl
    past (one ∷ owned) each =
        ap (λ b. cond (not (not b)) (1 + position_or_len (λ one. not (is_owners listed one)) owned) 0) (is_owners_of strips names listed one same each.0) ∙ (let rest = past owned each.1 in omega (arith, rest))
