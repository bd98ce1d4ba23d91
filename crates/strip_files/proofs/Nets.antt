-- Nets that are read line by line.
use Rattle.strip_files.proofs.Prelude.{ℕ, ◌≡◌, ◌∙◌, ◌+◌, Bool, true, false, IsTrue, cond, List, [], ◌∷◌, ◌++◌, filter, length, ap, sym, subst, refl, append_assoc, append-nil, codes, Option, Some, None, MatchOption, arith, true≢false, length_push, decimal_of, AddsNext, AreEachFrom, IsNetLine, word_end}

pub some_at : {X : Type 0} (N : Type 0) (P : X → Type 0) (found : Option X) (x : X) → found ≡ Some x → MatchOption found N P → P x
some_at N P None x e h = absurd cc
some_at N P (Some y) x e h = let same : y ≡ x = cc in subst P same h

joined : (name end after : List ℕ) → (name ++ end) ++ after ≡ name ++ (end ++ after)
joined name end after = append_assoc name end after

-- the parts of a net's line
pub net_line : (line r1 r2 r3 r4 r5 digits word name : List ℕ) (number : ℕ) (is_global : Bool) → line ≡ codes "Net " ++ r1 → r1 ≡ digits ++ r2 → r2 ≡ codes " (" ++ r3 → r3 ≡ word ++ r4
    → (IsTrue is_global → r4 ≡ codes " global net connecting:" ++ r5) → ((IsTrue is_global → ⊥) → r5 ≡ r4) → r5 ≡ [] → word ≡ name ++ word_end is_global → decimal_of 32 digits ≡ Some number → IsNetLine number line name is_global
net_line line r1 r2 r3 r4 r5 digits word name number true e f g h taken kept done ends is = record {
  digits = digits;
  text = e ∙ ap (λ r. codes "Net " ++ r) (f ∙ ap (λ r. digits ++ r) (g ∙ ap (λ r. codes " (" ++ r) (h ∙ ap (λ w. w ++ r4) ends ∙ ap (λ r. (name ++ codes "):") ++ r) (taken refl ∙ ap (λ r. codes " global net connecting:" ++ r) done) ∙ joined name (codes "):") (codes " global net connecting:"))));
  number_is = is;
}
net_line line r1 r2 r3 r4 r5 digits word name number false e f g h taken kept done ends is = record {
  digits = digits;
  text = e ∙ ap (λ r. codes "Net " ++ r) (f ∙ ap (λ r. digits ++ r) (g ∙ ap (λ r. codes " (" ++ r) (h ∙ ap (λ w. w ++ r4) ends ∙ ap (λ r. (name ++ codes ")") ++ r) (sym (kept (λ t. true≢false (sym t))) ∙ done) ∙ append-nil (name ++ codes ")"))));
  number_is = is;
}

module _ {Y : Type 0} (is_line : ℕ → List ℕ → Y → Type 0) (is_head : List ℕ → Bool) where
  step_as : (head : Bool) (line : List ℕ) (kept : List (List ℕ)) (old new more : List Y) → AddsNext head (is_line (length old) line) old new → AreEachFrom is_line (length new) kept more
      → (rest : List Y) × AreEachFrom is_line (length old) (cond head (line ∷ kept) kept) rest × (new ++ more ≡ old ++ rest)
  step_as true line kept old new more (thing, same, is) h =
      let count : length new ≡ length old + 1 = ap length same ∙ omega (arith, length_push old thing) in
      (thing ∷ more, (is, subst (λ n. AreEachFrom is_line n kept more) count h), ap (λ (xs : List Y). xs ++ more) same ∙ append_assoc old (thing ∷ []) more)
  step_as false line kept old new more same h = (more, subst (λ (xs : List Y). AreEachFrom is_line (length xs) kept more) same h, ap (λ (xs : List Y). xs ++ more) same)

  -- a line, and the things of the lines after it
  pub each_step : (line : List ℕ) (lines : List (List ℕ)) (old new more : List Y) → AddsNext (is_head line) (is_line (length old) line) old new → AreEachFrom is_line (length new) (filter is_head lines) more
      → (rest : List Y) × AreEachFrom is_line (length old) (filter is_head (line ∷ lines)) rest × (new ++ more ≡ old ++ rest)
  each_step line lines old new more adds h = step_as (is_head line) line (filter is_head lines) old new more adds h
