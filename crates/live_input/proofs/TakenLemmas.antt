-- Lines that are answered are taken.
use Rattle.live_input.proofs.Prelude.{◌≡◌, ℕ, ◌+◌, List, [], ◌∷◌, ◌++◌, map, Option, Some, None, refl, sym, ap, subst, ◌∙◌, Appends, flat_map-append, kept_of, AreAnswered, LiveState, Tagged, output_of, tagged_text, AnswersLine, AreTaken}

pub are_taken : (old new : LiveState) (number : ℕ) (lines : List (List ℕ)) (text : List ℕ) → AreAnswered AnswersLine old number lines text new → AreTaken old number lines text new
are_taken old new number [] text (none, stays) = record { tellings = []; told = []; takes = (refl, refl, stays); text_is = none }
are_taken old new number (line ∷ lines) text (reply, mid, others, one, rest, all) =
    let t = are_taken mid new (number + 1) lines others rest in
    record {
      tellings = one.tellings ++ t.tellings;
      told = one.told ++ t.told;
      takes = (one.tellings, one.told, mid, t.tellings, t.told, one.takes, t.takes, refl, refl);
      text_is = all ∙ (ap (λ r. r ++ others) one.reply_is ∙ (ap (λ o. output_of one.told ++ o) t.text_is ∙ sym (flat_map-append (λ (t : Tagged). tagged_text t.tag t.text) one.told t.told)));
    }

-- what was appended to nothing
pub reply_of : (a b : Option (List ℕ)) (items bytes : List ℕ) → a ≡ Some [] → b ≡ Some items → Appends a b bytes → items ≡ bytes
reply_of None b items bytes none is grows = absurd (cc)
reply_of (Some x) None items bytes none is grows = absurd grows
reply_of (Some x) (Some y) items bytes none is grows =
    let all : y ≡ items = cc in
    let empty : x ≡ [] = cc in
    sym all ∙ (grows ∙ ap (λ l. l ++ bytes) empty)
