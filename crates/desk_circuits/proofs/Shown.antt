-- Texts that show one thing after another.
use Rattle.desk_circuits.proofs.Prelude.{◌≡◌, ℕ, ◌+◌, Bool, List, [], ◌∷◌, ◌++◌, map, take, drop, Option, Some, None, inl, inr, refl, sym, ap, subst, ◌∙◌, append-nil, append_assoc, slice_get, take_more, drop_more, take-append-drop, slice_get_within, get_or_from_slice_get, all_then, part_first, part_then, TakesAll, TakesPart, Circuit, Longest, Path, NoPath, Loop, LongestPath, NameAccount, IsEmptyOr, ShowsEach, ShowsLongest, path_in, ShowsStops, StripFiles, ShowsUsage, usage_text}

-- the texts of some things and then those of others
pub each_append : {X : Type 0} (Shows : X → List ℕ → Type 0) (xs ys : List X) (text rest : List ℕ) → ShowsEach Shows xs text → ShowsEach Shows ys rest → ShowsEach Shows (xs ++ ys) (text ++ rest)
each_append Shows [] ys text rest e k = subst (λ t. ShowsEach Shows ys t) (sym (ap (λ t. t ++ rest) e)) k
each_append Shows (x ∷ xs) ys text rest e k =
    (e.0, e.1 ++ rest, e.2, each_append Shows xs ys e.1 rest e.3 k, ap (λ t. t ++ rest) e.4 ∙ append_assoc e.0 e.1 rest)

-- one more thing
pub each_one : {X : Type 0} (Shows : X → List ℕ → Type 0) (x : X) (part : List ℕ) → Shows x part → ShowsEach Shows (x ∷ []) part
each_one Shows x part one = (part, [], one, refl, sym (append-nil part))

-- things that each have a text
pub each_of : {X : Type 0} (Shows : X → List ℕ → Type 0) → ((x : X) → (part : List ℕ) × Shows x part) → (xs : List X) → (text : List ℕ) × ShowsEach Shows xs text
each_of Shows any [] = ([], refl)
each_of Shows any (x ∷ xs) =
    let one = any x in
    let rest = each_of Shows any xs in
    (one.0 ++ rest.0, (one.0, rest.0, one.1, rest.1, refl))

-- what is shown of the things is shown of what they are told as
pub each_map : {X Y : Type 0} (Shows : Y → List ℕ → Type 0) (f : X → Y) (xs : List X) (text : List ℕ) → ShowsEach (λ x. Shows (f x)) xs text → ShowsEach Shows (map f xs) text
each_map Shows f [] text e = e
each_map Shows f (x ∷ xs) text e = (e.0, e.1, e.2, each_map Shows f xs e.1 e.3, e.4)

-- a text with the things is written, all of it or a part
abbrev pub IsShown : {S X : Type 0} → (S → Option (List ℕ)) → (S → Bool) → (X → List ℕ → Type 0) → List X → S → S → Type 0
IsShown contents has_failed Shows xs a b = (text : List ℕ) × ShowsEach Shows xs text × TakesAll contents has_failed a b text

abbrev pub IsPartShown : {S X : Type 0} → (S → Option (List ℕ)) → (S → Bool) → (X → List ℕ → Type 0) → List X → S → S → Type 0
IsPartShown contents has_failed Shows xs a b = (text : List ℕ) × ShowsEach Shows xs text × TakesPart contents has_failed a b text

-- one more is shown
pub shown_more : {S X : Type 0} {contents : S → Option (List ℕ)} {has_failed : S → Bool} (Shows : X → List ℕ → Type 0) (xs : List X) (i : ℕ) (x : X) (a b c : S) → slice_get xs i ≡ Some x
    → IsShown contents has_failed Shows (take i xs) a b → (part : List ℕ) × Shows x part × TakesAll contents has_failed b c part → IsShown contents has_failed Shows (take (i + 1) xs) a c
shown_more {contents = contents} {has_failed = has_failed} Shows xs i x a b c e h k =
    let more : take (i + 1) xs ≡ take i xs ++ x ∷ [] = take_more xs i x (slice_get_within xs i x e) ∙ ap (λ y. take i xs ++ y ∷ []) (get_or_from_slice_get xs i x x e) in
    (h.0 ++ k.0, subst (λ ys. ShowsEach Shows ys (h.0 ++ k.0)) (sym more) (each_append Shows (take i xs) (x ∷ []) h.0 k.0 h.1 (each_one Shows x k.0 k.1)), all_then h.2 k.2)

-- the device fails within one of them
pub shown_part : {S X : Type 0} {contents : S → Option (List ℕ)} {has_failed : S → Bool} (Shows : X → List ℕ → Type 0) (any : (x : X) → (part : List ℕ) × Shows x part) (xs : List X) (i : ℕ) (x : X) (a b c : S) → slice_get xs i ≡ Some x
    → IsShown contents has_failed Shows (take i xs) a b → (part : List ℕ) × Shows x part × TakesPart contents has_failed b c part → IsPartShown contents has_failed Shows xs a c
shown_part {contents = contents} {has_failed = has_failed} Shows any xs i x a b c e h k =
    let rest = each_of Shows any (drop (i + 1) xs) in
    let here : drop i xs ≡ x ∷ drop (i + 1) xs = drop_more xs i x (slice_get_within xs i x e) ∙ ap (λ y. y ∷ drop (i + 1) xs) (get_or_from_slice_get xs i x x e) in
    let all : xs ≡ take i xs ++ (x ∷ drop (i + 1) xs) = sym (take-append-drop i xs) ∙ ap (λ ys. take i xs ++ ys) here in
    let text = h.0 ++ (k.0 ++ rest.0) in (
      text,
      subst (λ ys. ShowsEach Shows ys text) (sym all) (each_append Shows (take i xs) (x ∷ drop (i + 1) xs) h.0 (k.0 ++ rest.0) h.1 (each_append Shows (x ∷ []) (drop (i + 1) xs) k.0 rest.0 (each_one Shows x k.0 k.1) rest.1)),
      part_then h.2 (part_first rest.0 k.2),
    )

-- what an empty text or another one shows is shown in other words
pub empty_or : (P Q : List ℕ → Type 0) (text : List ℕ) → (P text → Q text) → IsEmptyOr P text → IsEmptyOr Q text
empty_or P Q text f (inl e) = inl e
empty_or P Q text f (inr p) = inr (f p)

-- what an account used, if its circuit is not known
pub usage_unknown : (is_table : Bool) (account : NameAccount) → (text : List ℕ) × ShowsUsage is_table account text
usage_unknown is_table account = (usage_text is_table account.name account.usage None, (None, tt, refl))

-- the stops of the longest path, if there is one
pub longest_shown : (files : StripFiles) (circuit : Circuit) (longest : Longest) (path : LongestPath) (text : List ℕ) → path_in longest ≡ Some path → ShowsStops files circuit path text → ShowsLongest files circuit longest text
longest_shown files circuit (Path here) path text is shows = let same : path ≡ here = cc in subst (λ p. ShowsStops files circuit p text) same shows
longest_shown files circuit NoPath path text is shows = cc
longest_shown files circuit Loop path text is shows = cc
