-- The bytes after a prefix.
use Rattle.printed_replies.proofs.Prelude.{◌≡◌, ◌≢◌, ℕ, List, [], ◌∷◌, ◌++◌, cond, Option, Some, None, refl, sym, ap, ◌∙◌, codes, arith, MatchOption, option_and_then, Bor, eq-eqb, after_prefix}
use Rattle.std.specs.Prelude.{option_map}

-- bytes made of the prefix and a rest have that rest after it
pub behind-append : (start rest : List ℕ) → after_prefix start (start ++ rest) ≡ Some rest
behind-append [] rest = refl
behind-append (a ∷ start) rest = ap (λ b. cond b (after_prefix start (start ++ rest)) None) (eq-eqb a a refl) ∙ behind-append start rest

-- and no others have
pub behind-begins : (start bytes rest : List ℕ) → after_prefix start bytes ≡ Some rest → bytes ≡ start ++ rest
behind-begins [] bytes rest is = cc
behind-begins (a ∷ start) [] rest is = cc
behind-begins (a ∷ start) (b ∷ bytes) rest is = grind (arith, behind-begins start bytes rest)

pub behind-found : (start bytes : List ℕ) (found : Option (Bor (List ℕ))) → MatchOption found ((rest : List ℕ) → bytes ≢ start ++ rest) (λ x. bytes ≡ start ++ x.now) → option_map (λ rest. rest.now) found ≡ after_prefix start bytes
behind-found start bytes (Some x) is = sym (ap (after_prefix start) is ∙ behind-append start x.now)
behind-found start bytes None none = by_found (after_prefix start bytes) refl
  where
    by_found : (o : Option (List ℕ)) → after_prefix start bytes ≡ o → None ≡ o
    by_found None e = refl
    by_found (Some rest) e = absurd (none rest (behind-begins start bytes rest e))

-- one prefix after another
pub behind-both : (first second bytes : List ℕ) → after_prefix (first ++ second) bytes ≡ option_and_then (after_prefix second) (after_prefix first bytes)
behind-both [] second bytes = refl
behind-both (a ∷ first) second [] = refl
behind-both (a ∷ first) second (b ∷ bytes) = grind (arith, behind-both first second bytes)

-- the words of a heading one after the other
pub heading_none : (name printed x : List ℕ) → Some x ≡ after_prefix (codes "== ") printed → None ≡ after_prefix name x → None ≡ after_prefix (codes "== " ++ name ++ 10 ∷ []) printed
heading_none name printed x first second = grind (arith, behind-both)

pub heading_some : (name printed x y : List ℕ) → Some x ≡ after_prefix (codes "== ") printed → Some y ≡ after_prefix name x → after_prefix (10 ∷ []) y ≡ after_prefix (codes "== " ++ name ++ 10 ∷ []) printed
heading_some name printed x y first second = grind (arith, behind-both)
