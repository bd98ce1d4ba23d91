-- The tenancies that `op list` shows, by their strips.
use Rattle.device_law.proofs.Prelude.{◌≡◌, ℕ, ◌+◌, ◌<◌, ◌≤◌, ◌⊎◌, inl, inr, Bool, true, false, cond, eqb, List, [], ◌∷◌, ◌++◌, length, map, Option, Some, None, refl, sym, ap, ◌∙◌, subst, arith, length-append, ⊤, option_map, cases_lt, nat_tests, PlacedStrip, moved_strip, strip_of, strips_without, strip_of-push, strip_of-without, History, ServiceState, live_width, placed_width, strip_of-moved, Listed, entries, entry_of, without_state}

abbrev pub strip_entry : Option PlacedStrip → ℕ → List ℕ → List Listed
strip_entry None id name = []
strip_entry (Some s) id name = record { id = id; name = name; offset = s.offset; width = s.width; state = [] } ∷ []

-- the live tenancies by rising id, from the strips of the plan. The names are those of all ids,
-- newest first
abbrev pub strip_entries : List PlacedStrip → List (List ℕ) → List Listed
strip_entries strips [] = []
strip_entries strips (newest ∷ older) = strip_entries strips older ++ strip_entry (strip_of strips (length older + 1)) (length older + 1) newest

map_both : (xs ys : List Listed) → map without_state (xs ++ ys) ≡ map without_state xs ++ map without_state ys
map_both [] ys = refl
map_both (x ∷ xs) ys = ap (λ zs. without_state x ∷ zs) (map_both xs ys)

one_entry : (o : Option PlacedStrip) (l : Option History) (id : ℕ) (name : List ℕ) → option_map (λ (s : PlacedStrip). s.width) o ≡ option_map (λ (h : History). h.strip.width) l →
    map without_state (entry_of l (option_map (λ (s : PlacedStrip). s.offset) o) id name) ≡ strip_entry o id name
one_entry o l id name e = grind arith

-- these are the live tenancies, without the names of their states
pub bare_entries : (state : ServiceState) (names : List (List ℕ)) → ((id : ℕ) → placed_width state.plan.strips id ≡ live_width state.histories id) → map without_state (entries state names) ≡ strip_entries state.plan.strips names
bare_entries state [] linked = refl
bare_entries state (newest ∷ older) linked = grind (arith, map_both, bare_entries state older linked)

-- how many there are
one_few : (o : Option PlacedStrip) (id : ℕ) (name : List ℕ) → length (strip_entry o id name) ≤ 1
one_few o id name = grind arith

pub entries_few : (strips : List PlacedStrip) (names : List (List ℕ)) → length (strip_entries strips names) ≤ length names
entries_few strips [] = omega arith
entries_few strips (newest ∷ older) = grind (arith, length-append, entries_few strips older)

-- strips that are the same for the ids of the names
pub entries_same : (strips other : List PlacedStrip) (names : List (List ℕ)) → ((id : ℕ) → id ≤ length names → strip_of other id ≡ strip_of strips id) → strip_entries other names ≡ strip_entries strips names
entries_same strips other [] same = refl
entries_same strips other (newest ∷ older) same =
    let id = length older + 1 in
    ap (λ xs. xs ++ strip_entry (strip_of other id) id newest) (entries_same strips other older (λ i few. same i (omega (arith, few))))
    ∙ ap (λ o. strip_entries strips older ++ strip_entry o id newest) (same id (omega arith))

-- with one more tenancy
pub entries_admitted : (strips : List PlacedStrip) (names : List (List ℕ)) (name : List ℕ) (s : PlacedStrip) → s.id ≡ length names + 1 → strip_of strips (length names + 1) ≡ None →
    length (strip_entries (strips ++ s ∷ []) (name ∷ names)) ≡ length (strip_entries strips names) + 1
entries_admitted strips names name s id new = grind (arith, entries_same, strip_of-push, length-append)

-- without one
gone : (strips : List PlacedStrip) (id other : ℕ) (b : Bool) → eqb other id ≡ b → strip_of (strips_without strips id) other ≡ cond b None (strip_of strips other)
gone strips id other b e = strip_of-without strips id other ∙ ap (λ t. cond t None (strip_of strips other)) e

pub entries_evicted : (strips : List PlacedStrip) (names : List (List ℕ)) (id : ℕ) (s : PlacedStrip) → 0 < id → id ≤ length names → strip_of strips id ≡ Some s →
    length (strip_entries (strips_without strips id) names) + 1 ≡ length (strip_entries strips names)
entries_evicted strips [] id s some few found = absurd (omega (arith, some, few))
entries_evicted strips (newest ∷ older) id s some few found = by (cases_lt id (length older + 1)) (λ less. entries_evicted strips older id s some (omega (arith, less)) found)
  where
    now : length (strip_entries (strips_without strips id) (newest ∷ older)) ≡ length (strip_entries (strips_without strips id) older) + length (strip_entry (strip_of (strips_without strips id) (length older + 1)) (length older + 1) newest)
    now = length-append (strip_entries (strips_without strips id) older) (strip_entry (strip_of (strips_without strips id) (length older + 1)) (length older + 1) newest)

    was : length (strip_entries strips (newest ∷ older)) ≡ length (strip_entries strips older) + length (strip_entry (strip_of strips (length older + 1)) (length older + 1) newest)
    was = length-append (strip_entries strips older) (strip_entry (strip_of strips (length older + 1)) (length older + 1) newest)

    by : (id < length older + 1) ⊎ (length older + 1 ≤ id) → (id < length older + 1 → length (strip_entries (strips_without strips id) older) + 1 ≡ length (strip_entries strips older)) → length (strip_entries (strips_without strips id) (newest ∷ older)) + 1 ≡ length (strip_entries strips (newest ∷ older))
    by (inl less) fewer =
        let rest = fewer less in
        let other : eqb (length older + 1) id ≡ false = grind (arith, nat_tests, less) in
        let last : length (strip_entry (strip_of (strips_without strips id) (length older + 1)) (length older + 1) newest) ≡ length (strip_entry (strip_of strips (length older + 1)) (length older + 1) newest) =
        ap (λ o. length (strip_entry o (length older + 1) newest)) (gone strips id (length older + 1) false other) in
        omega (arith, now, was, rest, last)
    by (inr more) fewer =
        let same : id ≡ length older + 1 = omega (arith, more, few) in
        let own : eqb (length older + 1) id ≡ true = grind (arith, nat_tests, same) in
        let last : length (strip_entry (strip_of (strips_without strips id) (length older + 1)) (length older + 1) newest) ≡ 0 = ap (λ o. length (strip_entry o (length older + 1) newest)) (gone strips id (length older + 1) true own) in
        let here : length (strip_entry (strip_of strips (length older + 1)) (length older + 1) newest) ≡ 1 = ap (λ o. length (strip_entry o (length older + 1) newest)) (ap (strip_of strips) (sym same) ∙ found) in
        let rest : length (strip_entries (strips_without strips id) older) ≡ length (strip_entries strips older) =
        ap (λ xs. length xs) (entries_same strips (strips_without strips id) older (λ i below. let other : eqb i id ≡ false = grind (arith, nat_tests, same, below) in gone strips id i false other)) in
        omega (arith, now, was, rest, last, here)

pub entries_moved : (strips : List PlacedStrip) (names : List (List ℕ)) (id offset : ℕ) → length (strip_entries (map (moved_strip id offset) strips) names) ≡ length (strip_entries strips names)
entries_moved strips [] id offset = refl
entries_moved strips (newest ∷ older) id offset = grind (arith, strip_of-moved, length-append, entries_moved strips older id offset)
