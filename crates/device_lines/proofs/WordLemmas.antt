-- The parts of a line.
use Rattle.device_lines.proofs.Prelude.{◌≡◌, ℕ, ◌+◌, List, length, take, drop, cond, true, false, Option, Some, None, sym, ap, ◌∙◌, MatchOption, option_map, Bor, bytes_eq, after_text}

pub after_is : (text bytes : List ℕ) (found : Option (Bor (List ℕ))) → MatchOption found (bytes_eq (take (length text) bytes) text ≡ false) (λ x. (bytes_eq (take (length text) bytes) text ≡ true) × (x.now ≡ drop (length text) bytes) × (length x.now + length text ≡ length bytes)) →
    option_map (λ rest. rest.now) found ≡ after_text text bytes
unfolding after_text
after_is text bytes None e = sym (ap (λ b. cond b (Some (drop (length text) bytes)) None) e)
after_is text bytes (Some x) h = ap Some h.1 ∙ sym (ap (λ b. cond b (Some (drop (length text) bytes)) None) h.0)
