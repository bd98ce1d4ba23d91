-- The first line that can't be uploaded, line by line.
use Rattle.tenancy_script.proofs.Prelude.{◌≡◌, ℕ, ◌+◌, ◌-◌, ◌≤◌, List, [], ◌∷◌, ◌++◌, true, false, cond, length, Some, None, refl, arith, length-append, ⊤, nat_le, flat_map, without_cr, ends_text, PointAlone, TextTooLong, fault_from}

-- a line as it is uploaded
abbrev pub ended_line : List ℕ → List ℕ
ended_line line = without_cr line ++ 10 ∷ []

-- none of the lines ends a text
abbrev pub HaveNoPoint : List (List ℕ) → Type 0
HaveNoPoint [] = ⊤
HaveNoPoint (line ∷ lines) = (ends_text line ≡ false) × HaveNoPoint lines

-- the lines can be uploaded
abbrev pub AreTold : ℕ → List (List ℕ) → Type 0
AreTold room lines = HaveNoPoint lines × (length (flat_map ended_line lines) ≤ room)

told_line : (room : ℕ) (line : List ℕ) (lines : List (List ℕ)) → ends_text line ≡ false → nat_le room (length (without_cr line)) ≡ false → AreTold (room - (length (without_cr line) + 1)) lines → AreTold room (line ∷ lines)
told_line room line lines point short h = grind (arith, length-append)

pub told_from : (number room : ℕ) (lines : List (List ℕ)) → fault_from number room lines ≡ None → AreTold room lines
told_from number room [] none = (tt, omega arith)
told_from number room (line ∷ lines) none =
    let later = fault_from (number + 1) (room - (length (without_cr line) + 1)) lines in
    elim (ends_text line) as (λ v. ends_text line ≡ v → cond v (Some (PointAlone number)) (cond (nat_le room (length (without_cr line))) (Some (TextTooLong number)) later) ≡ None → AreTold room (line ∷ lines)) [
      | true ↦ λ e n. absurd cc
      | false ↦ λ e n.
          elim (nat_le room (length (without_cr line))) as (λ v. nat_le room (length (without_cr line)) ≡ v → cond v (Some (TextTooLong number)) later ≡ None → AreTold room (line ∷ lines)) [
            | true ↦ λ f m. absurd cc
            | false ↦ λ f m. told_line room line lines e f (told_from (number + 1) (room - (length (without_cr line) + 1)) lines m)
          ] refl n
    ] refl none
