-- Files that are written one name after another.
use Rattle.desk_replies.proofs.Prelude.{◌≡◌, ◌∙◌, ◌+◌, ◌<◌, ◌≤◌, ℕ, List, [], ◌∷◌, ◌++◌, Option, Some, Bool, true, false, length, take, map, get_or, slice_index_or, sym, ap, subst, append-nil, refl, arith, codes, Result, Ok, Err, IfOk, MatchResult, flat_map-append, get_or_from_slice_get, slice_get-get_or, slice_get_past, take_more, flat_map-map, map-range_with_len_more, IsUtf8-from_is_utf8, is_utf8-from_IsUtf8, flat_map, range_with_len, IsUtf8, is_utf8, AreAdded, NamedBytes, added_then, files_of_name, if_present, line_at, lines_at, replies_by_number, replies_file, asked_in, AnsweredLine, names_of, session_places, NameAccount, told_text, ToldLine}
use Rattle.std.proofs.Common.{slice_get}

pub flat_more : {A B : Type 0} (f : A → List B) (xs : List A) (i : ℕ) (d : A) → i < length xs → flat_map f (take (i + 1) xs) ≡ flat_map f (take i xs) ++ f (get_or xs i d)
flat_more f xs i d l = ap (flat_map f) (take_more xs i d l) ∙ flat_map-append f (take i xs) (get_or xs i d ∷ []) ∙ ap (λ more. flat_map f (take i xs) ++ more) (append-nil (f (get_or xs i d)))

pub flat_range : {B : Type 0} (f : ℕ → List B) (n : ℕ) → flat_map f (range_with_len 0 (n + 1)) ≡ flat_map f (range_with_len 0 n) ++ f n
flat_range f n =
    sym (flat_map-map (λ x. x) f (range_with_len 0 (n + 1))) ∙ ap (flat_map (λ x. x)) (map-range_with_len_more f 0 n n (omega arith)) ∙ flat_map-append (λ x. x) (map f (range_with_len 0 n)) (f n ∷ [])
    ∙ (λ k. flat_map-map (λ x. x) f (range_with_len 0 n) k ++ append-nil (f n) k)

-- the files of one more
pub added_more : {A : Type 0} (f : A → List NamedBytes) (xs : List A) (i : ℕ) (d : A) (a b c : Option (List NamedBytes)) → i < length xs → AreAdded a b (flat_map f (take i xs)) → AreAdded b c (f (get_or xs i d)) → AreAdded a c (flat_map f (take (i + 1) xs))
added_more f xs i d a b c l before next = subst (AreAdded a c) (sym (flat_more f xs i d l)) (added_then a b c _ _ before next)

pub added_number : (f : ℕ → List NamedBytes) (n : ℕ) (a b c : Option (List NamedBytes)) → AreAdded a b (flat_map f (range_with_len 0 n)) → AreAdded b c (f n) → AreAdded a c (flat_map f (range_with_len 0 (n + 1)))
added_number f n a b c before next = subst (AreAdded a c) (sym (flat_range f n)) (added_then a b c _ _ before next)

pub no_utf8 : (bs : List ℕ) → (IsUtf8 bs → ⊥) → is_utf8 bs ≡ false
no_utf8 bs h = go (is_utf8 bs) refl
  where
    go : (b : Bool) → is_utf8 bs ≡ b → is_utf8 bs ≡ false
    go true e = absurd (h (IsUtf8-from_is_utf8 bs e))
    go false e = e

-- a value that there is
pub of_value : {V E : Type 0} (r : Result V E) (items : V → List ℕ) (text : List ℕ) (P : List ℕ → Type 0) → IfOk r (λ v. items v ≡ text) → MatchResult r (λ v. P (items v)) (λ _. ⊥) → P text
of_value (Ok v) items text P e h = subst P e h
of_value (Err x) items text P e h = absurd h

pub no_line : (own told : List ToldLine) (place : ℕ) → length told ≤ place → own ≡ own ++ line_at told place
no_line own told place past = rw (slice_get_past told place past) (sym (append-nil own))

pub one_line : (told : List ToldLine) (place : ℕ) (d : ToldLine) → place < length told → get_or told place d ∷ [] ≡ line_at told place
one_line told place d within = rw (slice_get-get_or told place d within) refl

-- the present files of a name, one after another
pub name_added : (folder : List ℕ) (account : NameAccount) (name : List ℕ) (a b c d : Option (List NamedBytes)) → name ≡ account.name → IsUtf8 account.name → AreAdded a b (if_present folder name (codes "net") account.files.net.text) →
    AreAdded b c (if_present folder name (codes "place") account.files.place.text) → AreAdded c d (if_present folder name (codes "route") account.files.route.text) → AreAdded a d (files_of_name folder account)
name_added folder account name a b c d same utf8 net place route =
    rw (is_utf8-from_IsUtf8 account.name utf8, sym same) (added_then a b d _ _ net (added_then b c d _ _ place route))

-- the file with the lines of a name
pub lines_added : (folder : List ℕ) (told : List ToldLine) (replies : List AnsweredLine) (number : ℕ) (name : List ℕ) (places : List ℕ) (a b : Option (List NamedBytes)) → slice_get (names_of (asked_in replies)) number ≡ Some name →
    slice_get (session_places (asked_in replies)) number ≡ Some places → AreAdded a b (replies_file folder name (flat_map told_text (lines_at told places))) → AreAdded a b (replies_by_number folder told replies number)
lines_added folder told replies number name places a b e f h =
    subst (λ n. AreAdded a b (replies_file folder n (flat_map told_text (lines_at told (slice_index_or (session_places (asked_in replies)) number []))))) (sym (get_or_from_slice_get (names_of (asked_in replies)) number name [] e))
    (subst (λ l. AreAdded a b (replies_file folder name (flat_map told_text (lines_at told l)))) (sym (get_or_from_slice_get (session_places (asked_in replies)) number places [] f)) h)
