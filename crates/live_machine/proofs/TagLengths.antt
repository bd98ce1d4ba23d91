-- How long a tag with an id can be.
use Rattle.live_machine.proofs.Prelude.{◌≡◌, ℕ, ◌+◌, ◌<◌, ◌≤◌, Bool, true, false, ◌&&◌, cond, List, ◌∷◌, ◌++◌, length, drop, eqb, get_or, nat_le, Option, Some, None, refl, ap, ◌∙◌, arith, length-append, option_map, after_first, before_first, list_all, position_or_len, nat_tests, take_all, split_at_first, id_of, is_good_id, is_id_byte, owner_of, both}
use Rattle.std.proofs.Common.{nat_lt}

abbrev is_slash : ℕ → Bool
is_slash byte = eqb byte 47

-- a tag with a good id, or with none, is little longer than its owner
pub is_short : (tag : List ℕ) → is_good_id (id_of tag) ≡ true → length tag ≤ length (owner_of tag) + 33
is_short tag good =
    let at = position_or_len is_slash tag in
    elim (nat_lt at (length tag)) as (λ b. nat_lt at (length tag) ≡ b → is_good_id (option_map (λ place. drop (place + 1) tag) (cond b (Some at) None)) ≡ true → length tag ≤ length (owner_of tag) + 33) [
      | true ↦ λ e g.
          let within : at < length tag = grind (arith, nat_tests, e) in
          let byte = get_or tag at 0 in
          let id = after_first is_slash tag in
          let few : nat_le (length id) 32 ≡ true = (both (nat_le 1 (length id)) (nat_le (length id) 32) (both (nat_le 1 (length id) && nat_le (length id) 32) (list_all is_id_byte id) g).0).1 in
          let short : length id ≤ 32 = grind (arith, nat_tests, few) in
          let all : length tag ≡ length (owner_of tag) + length (byte ∷ id) = ap length (split_at_first is_slash tag 0 within) ∙ length-append (before_first is_slash tag) (byte ∷ id) in
          omega (arith, short, all)
      | false ↦ λ e g.
          let past : length tag ≤ at = grind (arith, nat_tests, e) in
          let same : length (owner_of tag) ≡ length tag = ap length (take_all at tag past) in
          omega (arith, same)
    ] refl good
