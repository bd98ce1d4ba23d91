use Rattle.json_text.proofs.Prelude.{◌≡◌, ◌∙◌, ℕ, List, [], ◌∷◌, Bool, true, false, ap, sym, refl, if◌then◌else◌, is_utf8, IsUtf8-from_is_utf8, is_utf8-from_IsUtf8}
use Rattle.json_text.proofs.pen.readable.Goals as goal

unless : (b : Bool) → ((b ≡ true) → ⊥) → b ≡ false
unless true h = absurd (h refl)
unless false h = refl

pub returns-in-Ok : goal.returns-in-Ok
returns-in-Ok c =
    let bytes : List ℕ = c.args.bytes.now in
    let is : is_utf8 bytes ≡ true = is_utf8-from_IsUtf8 bytes c.in-Ok.ensures.cases.1 in
    c.in-Ok.ensures.cases.0 ∙ sym (ap (λ (b : Bool). if b then bytes else 63 ∷ []) is)

pub returns-in-Err : goal.returns-in-Err
returns-in-Err c =
    let bytes : List ℕ = c.args.bytes.now in
    let is : is_utf8 bytes ≡ false = unless _ (λ t. c.in-Err.ensures.cases.0 (IsUtf8-from_is_utf8 bytes t)) in
    sym (ap (λ (b : Bool). if b then bytes else 63 ∷ []) is)
