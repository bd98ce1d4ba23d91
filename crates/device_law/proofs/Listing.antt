-- A printed list that is whole: its tenancies are read, and nothing else.
use Rattle.device_law.proofs.Prelude.{◌≡◌, ℕ, zero, suc, ◌+◌, ◌-◌, ◌<◌, ◌≤◌, Bool, true, false, cond, List, [], ◌∷◌, ◌++◌, length, Option, Some, None, Result, Ok, refl, sym, ap, ◌∙◌, subst, arith, append_assoc, append-nil, length-append, ⊤, nat_lt, slice_get, list_all, nat_tests, same_Some, DeviceSize, Listed, listed_on, Seen, are_parted, seen_in_list, last_of, list_before, list_line, plus, rises, Reading, entries_read}
use Rattle.std.specs.Prelude.{◌&&◌}
use Rattle.device_law.proofs.Each.{Each, each-get}

-- each tenancy goes on with the list before it
abbrev pub Fits : List Listed → List Listed → Type 0
Fits front [] = ⊤
Fits front (one ∷ more) = (rises (last_of front) one.id ≡ true) × (list_all (λ other. are_parted other one) front ≡ true) × Fits (front ++ one ∷ []) more

pub fits-append : (front xs ys : List Listed) → Fits front xs → Fits (front ++ xs) ys → Fits front (xs ++ ys)
fits-append front [] ys first next = let P : List Listed → Type 0 = λ zs. Fits zs ys in subst P (append-nil front) next
fits-append front (x ∷ xs) ys first next =
    let P : List Listed → Type 0 = λ zs. Fits zs ys in
    (first.0, first.1, fits-append (front ++ x ∷ []) xs ys first.2 (subst P (sym (append_assoc front (x ∷ []) xs)) next))

-- the device can have the strip of each, on which the tenancies are read
abbrev pub IsOn : DeviceSize → Listed → Type 0
IsOn size one = listed_on size one ≡ Some one

abbrev pub listing : Seen → List Listed → Seen
listing seen listed = record seen { listed = listed; in_list = true }

abbrev pub lines_on : ℕ → List Listed → ℕ
lines_on number [] = number
lines_on number (one ∷ more) = lines_on (plus number 1) more

appended : (seen : Seen) (front : List Listed) (one : Listed) → IsOn seen.size one → rises (last_of front) one.id ≡ true → list_all (λ other. are_parted other one) front ≡ true →
    list_line (listing seen front) (listed_on seen.size one) ≡ Ok (listing seen (front ++ one ∷ []))
appended seen front one on rise parted = grind arith

more_read : (more front : List Listed) (seen : Seen) (number : ℕ) (next : Seen → ℕ → Reading) → Each (IsOn seen.size) more → Fits front more →
    entries_read more (listing seen front) number next ≡ next (listing seen (front ++ more)) (lines_on number more)
more_read [] front seen number next on fits = ap (λ zs. next (listing seen zs) number) (sym (append-nil front))
more_read (one ∷ more) front seen number next on fits = grind (arith, append_assoc, more_read more (front ++ one ∷ []) seen (plus number 1) next on.1 fits.2)

-- a list that begins anew
begins : (seen : Seen) (one : Listed) → IsOn seen.size one → list_before seen one.id ≡ [] → list_line seen (listed_on seen.size one) ≡ Ok (listing seen (one ∷ []))
begins seen one on fresh = grind arith

pub whole_read : (one : Listed) (more : List Listed) (seen : Seen) (number : ℕ) (next : Seen → ℕ → Reading) → Each (IsOn seen.size) (one ∷ more) → Fits [] (one ∷ more) → list_before seen one.id ≡ [] →
    entries_read (one ∷ more) seen number next ≡ next (listing seen (one ∷ more)) (lines_on number (one ∷ more))
whole_read one more seen number next on fits fresh = grind (arith, more_read)

-- ids rise
at_end : (xs : List Listed) (x : Listed) → slice_get (xs ++ x ∷ []) (length xs) ≡ Some x
at_end [] x = refl
at_end (y ∷ xs) x = at_end xs x

pub last_push : (xs : List Listed) (x : Listed) → last_of (xs ++ x ∷ []) ≡ Some x
last_push xs x = grind (arith, length-append xs (x ∷ []), at_end xs x)

pub rises_after : (xs : List Listed) (id : ℕ) → Each (λ one. one.id < id) xs → rises (last_of xs) id ≡ true
rises_after xs id each = grind (arith, each-get)

-- a list's first id is its least one
least : (front more : List Listed) (id : ℕ) (last : Listed) → last_of front ≡ Some last → id ≤ last.id → Fits front more → Each (λ one. id ≤ one.id) more
least front [] id last is low fits = tt
least front (one ∷ more) id last is low fits =
    let rise : nat_lt last.id one.id ≡ true = ap (λ o. rises o one.id) (sym is) ∙ fits.0 in
    let here : id ≤ one.id = grind (arith, nat_tests, rise, low) in
    (here, least (front ++ one ∷ []) more id one (last_push front one) here fits.2)

pub first_least : (one : Listed) (more : List Listed) → Fits [] (one ∷ more) → Each (λ other. one.id ≤ other.id) (one ∷ more)
first_least one more fits = let self : one.id ≤ one.id = omega arith in (self, least (one ∷ []) more one.id one refl self fits.2)

-- so the list doesn't go on with one whose ids are no less
pub is_fresh : (seen : Seen) (id : ℕ) → Each (λ one. id ≤ one.id) seen.listed → list_before seen id ≡ []
is_fresh seen id each = by seen.in_list (last_of seen.listed) refl
  where
    none : (xs : List Listed) → last_of xs ≡ None → xs ≡ []
    none [] e = refl
    none (x ∷ xs) e = absurd (never x xs e)
      where
        never : (x : Listed) (xs : List Listed) → slice_get (x ∷ xs) (length (x ∷ xs) - 1) ≡ None → ⊥
        never x xs e =
            let k : length (x ∷ xs) - 1 ≡ length xs = omega arith in
            past x xs (sym (ap (slice_get (x ∷ xs)) k) ∙ e)
          where
            past : (x : Listed) (xs : List Listed) → slice_get (x ∷ xs) (length xs) ≡ None → ⊥
            past x [] e = cc
            past x (y ∷ ys) e = past y ys e

    by : (b : Bool) (o : Option Listed) → last_of seen.listed ≡ o → cond (b && rises (last_of seen.listed) id) seen.listed [] ≡ []
    by false o e = refl
    by true None e = ap (λ t. cond t seen.listed []) (ap (λ o. rises o id) e) ∙ none seen.listed e
    by true (Some one) e =
        let low : id ≤ one.id = each-get (λ (one : Listed). id ≤ one.id) seen.listed (length seen.listed - 1) one each e in
        let no : nat_lt one.id id ≡ false = grind (arith, nat_tests, low) in
        ap (λ t. cond t seen.listed []) (ap (λ o. rises o id) e ∙ no)
