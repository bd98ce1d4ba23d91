-- A name that is kept for the operator's lines.
use Rattle.live_lines.proofs.Prelude.{◌≡◌, ℕ, suc, ◌+◌, ◌<◌, List, [], ◌∷◌, true, false, not, cond, Some, length, refl, sym, ap, ◌∙◌, arith, bytes_eq, bytes_eq-Decides, number_of}
use Rattle.std.proofs.Common.{slice_get}

-- the name at its number is the name
pub kept_at : (names : List (List ℕ)) (name kept : List ℕ) → number_of names name < length names → slice_get names (number_of names name) ≡ Some kept → kept ≡ name
kept_at [] name kept within at = absurd (cc)
kept_at (first ∷ names) name kept within at =
    elim (bytes_eq name first) as (λ b. bytes_eq name first ≡ b → cond (not b) (1 + number_of names name) 0 < suc (length names) → slice_get (first ∷ names) (cond (not b) (1 + number_of names name) 0) ≡ Some kept → kept ≡ name) [
      | true ↦ λ is below found. let same : first ≡ kept = cc in sym same ∙ sym ((bytes_eq-Decides name first).0 is)
      | false ↦ λ apart below found.
          let next : 1 + number_of names name ≡ suc (number_of names name) = omega arith in
          kept_at names name kept (omega (arith, below)) (sym (ap (slice_get (first ∷ names)) next) ∙ found)
    ] refl within at
