-- The figures, line by line.
use Rattle.live_lines.proofs.Prelude.{◌≡◌, ℕ, suc, ◌+◌, ◌<◌, ◌≤◌, List, [], ◌∷◌, ◌++◌, Option, Some, length, take, sym, ap, subst, ◌∙◌, arith, append-nil, append_assoc, option_copied, reverse, slice_get, Bor, take-suc, length-reverse, length-take-le, reverse-append, get_or_from_slice_get, slice_get_within, History, ServiceState, live_of, name_of, AppendsFigures, AppendsRow, IsRow}

-- the lines of one more tenancy
row_of : (live : Option History) (id : ℕ) (name mid after : List ℕ) → AppendsRow live id name mid after → (row : List ℕ) × IsRow live id name row × (after ≡ mid ++ row)
row_of live id name mid after same = grind (arith, append-nil)

rows_with : (service : ServiceState) (number : ℕ) (older : List (List ℕ)) (name before mid after : List ℕ) → AppendsFigures service number older before mid → AppendsRow (live_of service.histories (length older + 1)) (length older + 1) name mid after → AppendsFigures service number (name ∷ older) before after
rows_with service number older name before mid after h1 appends = grind (arith, row_of, append_assoc)

-- the names of the ids up to that one
abbrev pub names_up_to : ℕ → List (List ℕ) → List (List ℕ)
names_up_to place names = reverse (take place (reverse names))

one_more : (names : List (List ℕ)) (place : ℕ) (name : List ℕ) → slice_get (reverse names) place ≡ Some name → names_up_to (place + 1) names ≡ name ∷ names_up_to place names
one_more names place name is =
    let own = reverse names in
    let within : place < length own = slice_get_within own place name is in
    let next : place + 1 ≡ suc place = omega arith in
    let taken : take (place + 1) own ≡ take place own ++ name ∷ [] = ap (λ n. take n own) next ∙ (take-suc own place name within ∙ ap (λ x. take place own ++ x ∷ []) (get_or_from_slice_get own place name name is)) in
    ap reverse taken ∙ reverse-append (take place own) (name ∷ [])

counted : (names : List (List ℕ)) (place : ℕ) → place ≤ length names → length (names_up_to place names) ≡ place
counted names place le = length-reverse (take place (reverse names)) ∙ length-take-le place (reverse names) (omega (arith, le, length-reverse names))

-- the name of the next id
pub name_here : (names : List (List ℕ)) (place : ℕ) (name : Bor (List ℕ)) (found : Option (Bor (List ℕ))) → option_copied found ≡ name_of names (place + 1) → found ≡ Some name → slice_get (reverse names) place ≡ Some name.now
name_here names place name found said is = grind arith

pub rows_push : (service : ServiceState) (number : ℕ) (names : List (List ℕ)) (place : ℕ) (name before mid after : List ℕ) → slice_get (reverse names) place ≡ Some name → AppendsFigures service number (names_up_to place names) before mid →
    AppendsRow (live_of service.histories (place + 1)) (place + 1) name mid after → AppendsFigures service number (names_up_to (place + 1) names) before after
rows_push service number names place name before mid after is rows row =
    let within : place < length (reverse names) = slice_get_within (reverse names) place name is in
    let few : place ≤ length names = omega (arith, within, length-reverse names) in
    let P : ℕ → Type 0 = λ n. AppendsRow (live_of service.histories (n + 1)) (n + 1) name mid after in
    let Q : List (List ℕ) → Type 0 = λ ns. AppendsFigures service number ns before after in
    subst Q (sym (one_more names place name is)) (rows_with service number (names_up_to place names) name before mid after rows (subst P (sym (counted names place few)) row))
