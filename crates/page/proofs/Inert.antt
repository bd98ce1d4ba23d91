-- Texts without markup.
use Rattle.page.proofs.Prelude.{ℕ, ◌≡◌, ◌∙◌, ◌&&◌, ◌==◌, Bool, true, false, List, [], ◌∷◌, ◌++◌, ◌⊎◌, inl, inr, refl, sym, ap, subst, eqb, cond, leb, not, flat_map, list_all, list_all-append, is_inert, escape_of}

bool_cases : (b : Bool) → (b ≡ true) ⊎ (b ≡ false)
bool_cases true = inl refl
bool_cases false = inr refl

-- what is written for one byte
byte_inert : (byte : ℕ) → list_all is_inert (escape_of byte) ≡ true
byte_inert byte =
    elim (bool_cases (byte == 38)) [
      | inl e ↦ rw e refl
      | inr a ↦
          elim (bool_cases (byte == 60)) [
            | inl e ↦ rw (a, e) refl
            | inr b ↦
                elim (bool_cases (byte == 62)) [
                  | inl e ↦ rw (a, b, e) refl
                  | inr d ↦
                      elim (bool_cases (byte == 34)) [
                        | inl e ↦ rw (a, b, d, e) refl
                        | inr f ↦
                            elim (bool_cases (byte == 39)) [
                              | inl e ↦ rw (a, b, d, f, e) refl
                              | inr g ↦
                                  elim (bool_cases (byte == 10)) [
                                    | inl e ↦ rw (a, b, d, f, g, e) refl
                                    | inr h ↦
                                        elim (bool_cases (leb 32 byte && leb byte 126)) [ inl e ↦ rw (a, b, d, f, g, h, e) (simp (b, d, f, g) refl) | inr i ↦ rw (a, b, d, f, g, h, i) refl ]
                                  ]
                            ]
                      ]
                ]
          ]
    ]

pub all_inert : (bytes : List ℕ) → list_all is_inert (flat_map escape_of bytes) ≡ true
all_inert [] = refl
all_inert (byte ∷ bytes) =
    list_all-append is_inert (escape_of byte) (flat_map escape_of bytes) ∙ (ap (λ b. b && list_all is_inert (flat_map escape_of bytes)) (byte_inert byte) ∙ all_inert bytes)
