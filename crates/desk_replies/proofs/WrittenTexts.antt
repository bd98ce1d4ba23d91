-- Texts of which only a relation says what they are.
use Rattle.desk_replies.proofs.Prelude.{◌≡◌, ◌∙◌, ℕ, ◌+◌, Bool, List, [], ◌∷◌, ◌++◌, take, map, Option, Some, Result, Ok, Err, refl, sym, ap, subst, append-nil, append_assoc, slice_get, OnOk, map-append, take_more, get_or_from_slice_get, slice_get_within, Appends, all_then, Writes, Failed, AreTextsOf, WritesSome}

-- a text of which that holds is written
pub some_written : {S : Type 0} (contents : S → Option (List ℕ)) (has_failed : S → Bool) (a b : S) (t : List ℕ) (P : List ℕ → Type 0) (r : Result (Unit {0}) Failed) → Writes contents has_failed a b t r → P t → OnOk r (WritesSome contents has_failed a b P)
some_written contents has_failed a b t P (Ok u) written is = (t, is, written)
some_written contents has_failed a b t P (Err failed) written is = tt

-- and so another thing holds of it
pub some_weaker : {S : Type 0} (contents : S → Option (List ℕ)) (has_failed : S → Bool) (a b : S) (P Q : List ℕ → Type 0) (r : Result (Unit {0}) Failed) → ((t : List ℕ) → P t → Q t) → OnOk r (WritesSome contents has_failed a b P) → OnOk r (WritesSome contents has_failed a b Q)
some_weaker contents has_failed a b P Q (Ok u) weaker written = (written.0, weaker written.0 written.1, written.2)
some_weaker contents has_failed a b P Q (Err failed) weaker written = tt

-- what is in a sink that was empty
pub sink_has : {S : Type 0} (contents : S → Option (List ℕ)) (has_failed : S → Bool) (a b : S) (bytes : List ℕ) (P : List ℕ → Type 0) (r : Result (Unit {0}) Failed) → contents a ≡ Some [] → contents b ≡ Some bytes → OnOk r (WritesSome contents has_failed a b P) → OnOk r (P bytes)
sink_has contents has_failed a b bytes P (Ok u) before after written =
    let appended : Appends (contents a) (contents b) written.0 = written.2.bytes in
    let from : Appends (Some []) (contents b) written.0 = subst (λ (old : Option (List ℕ)). Appends old (contents b) written.0) before appended in
    let to : Appends (Some []) (Some bytes) written.0 = subst (λ (new : Option (List ℕ)). Appends (Some []) new written.0) after from in
    subst P (sym to) written.1
sink_has contents has_failed a b bytes P (Err failed) before after written = tt

-- one more text
each_more : {A : Type 0} (P : A → List ℕ → Type 0) (items : List A) (item : A) (text next : List ℕ) → AreTextsOf P items text → P item next → AreTextsOf P (items ++ item ∷ []) (text ++ next)
each_more P [] item text next none is = (next, [], is, refl, ap (λ (t : List ℕ). t ++ next) none ∙ sym (append-nil next))
each_more P (one ∷ items) item text next texts is =
    (texts.0, texts.1 ++ next, texts.2, each_more P items item texts.1 next texts.3 is, ap (λ (t : List ℕ). t ++ next) texts.4 ∙ append_assoc texts.0 texts.1 next)

pub some_more : {S A : Type 0} (contents : S → Option (List ℕ)) (has_failed : S → Bool) (a b c : S) (P : A → List ℕ → Type 0) (items more : List A) (item : A) → more ≡ items ++ item ∷ [] →
    WritesSome contents has_failed a b (AreTextsOf P items) → WritesSome contents has_failed b c (P item) → WritesSome contents has_failed a c (AreTextsOf P more)
some_more contents has_failed a b c P items more item e before next =
    (before.0 ++ next.0, subst (λ all. AreTextsOf P all (before.0 ++ next.0)) (sym e) (each_more P items item before.0 next.0 before.1 next.1), all_then before.2 next.2)

-- the items up to an index, with one more
pub taken_more : {A : Type 0} (xs : List A) (i : ℕ) (x : A) → slice_get xs i ≡ Some x → take (i + 1) xs ≡ take i xs ++ x ∷ []
taken_more xs i x e = take_more xs i x (slice_get_within xs i x e) ∙ ap (λ one. take i xs ++ one ∷ []) (get_or_from_slice_get xs i x x e)

pub mapped_more : {A B : Type 0} (f : A → B) (xs : List A) (i : ℕ) (x : A) → slice_get xs i ≡ Some x → map f (take (i + 1) xs) ≡ map f (take i xs) ++ f x ∷ []
mapped_more f xs i x e = ap (map f) (taken_more xs i x e) ∙ map-append f (take i xs) (x ∷ [])
