-- The last part of a path.
use Rattle.desk_netlists.proofs.Prelude.{ℕ, List, ◌∷◌, ◌++◌, None, Bor, take, refl, inl, inr, sym, ap, subst, ◌∙◌, take-append-drop, arith, NoCharPasses-char, drop_at_char, ◌==◌, slash, NoCharPasses, RFindsChar, SplitsAroundMatch, IsLastPart}

pub last_is_part : (path : List ℕ) (split : Bor (List ℕ) × Bor (List ℕ)) → SplitsAroundMatch (RFindsChar 47) path split.0.now split.1.now → IsLastPart path split.1.now
last_is_part path split h = record {
  after = inr (split.0.now, sym (take-append-drop h.0 path) ∙ ap (λ l. take h.0 path ++ l) (drop_at_char 47 path h.0 h.1 h.2.1 (omega arith)) ∙ (λ k. sym h.3 k ++ slash ∷ sym h.4 k));
  no_slash = λ place l. NoCharPasses-char 47 split.1.now place (subst (NoCharPasses (λ d. d == 47)) (sym h.4) h.2.0) (omega arith) l;
}

pub whole_is_part : (path : List ℕ) → RFindsChar 47 path None → IsLastPart path path
whole_is_part path h = record {
  after = inl refl;
  no_slash = λ place l. NoCharPasses-char 47 path place h (omega arith) l;
}
