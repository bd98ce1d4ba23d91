-- Tags with an id and without one.
use Rattle.tagged_lines.proofs.Prelude.{◌≡◌, ℕ, suc, ◌+◌, ◌<◌, ◌≤◌, Bool, true, false, not, ◌&&◌, cond, List, [], ◌∷◌, length, take, drop, eqb, get_or, nat_lt, nat_le, Some, None, refl, sym, ap, ◌∙◌, arith, option_map, position, after_first, before_first, list_all, position_or_len, eqb-true, nat_tests, take_all, list_all-append, position-Some, split_at_first, id_of, is_good_id, is_id_byte, is_tag, owner_of}
use Rattle.tagged_lines.proofs.TagLemmas.{both}

abbrev is_slash : ℕ → Bool
is_slash byte = eqb byte 47

abbrev slash_at : List ℕ → ℕ
slash_at tag = position_or_len is_slash tag

-- bytes of which none is a slash
abbrev pub has_none : List ℕ → Bool
has_none tag = list_all (λ byte. not (is_slash byte)) tag

-- a tag without a slash is its own owner, and has no id
no_place : (tag : List ℕ) → has_none tag ≡ true → slash_at tag ≡ length tag
no_place [] ok = refl
no_place (x ∷ tag) ok =
    let parts = both (not (is_slash x)) (has_none tag) ok in
    let one : 1 + length tag ≡ suc (length tag) = omega arith in
    ap (λ b. cond b (1 + slash_at tag) 0) parts.0 ∙ (ap (λ n. 1 + n) (no_place tag parts.1) ∙ one)

pub own_owner : (tag : List ℕ) → has_none tag ≡ true → owner_of tag ≡ tag
own_owner tag ok = ap (λ n. take n tag) (no_place tag ok) ∙ take_all (length tag) tag (omega arith)

pub own_id : (tag : List ℕ) → has_none tag ≡ true → id_of tag ≡ None
own_id tag ok = grind (arith, no_place tag ok)

-- the bytes of an id can be in a tag
not_byte : (at byte : ℕ) → is_id_byte at ≡ false → is_id_byte byte ≡ true → eqb byte at ≡ false
not_byte at byte none ok = grind (arith, eqb-true)

id_bytes : (id : List ℕ) → list_all is_id_byte id ≡ true → is_tag id ≡ true
id_bytes [] ok = refl
id_bytes (b ∷ id) ok =
    let parts = both (is_id_byte b) (list_all is_id_byte id) ok in
    ap (λ v. (not v && not (eqb b 10)) && is_tag id) (not_byte 32 b refl parts.0)
    ∙ (ap (λ v. not v && is_tag id) (not_byte 10 b refl parts.0) ∙ id_bytes id parts.1)

slash_then : (byte : ℕ) (id : List ℕ) → is_slash byte ≡ true → is_tag id ≡ true → is_tag (byte ∷ id) ≡ true
slash_then byte id at ok = ap (λ b. is_tag (b ∷ id)) (eqb-true byte 47 at) ∙ ok

-- a tag whose owner and id are lawful is lawful
pub is_lawful : (tag : List ℕ) → is_tag (owner_of tag) ≡ true → is_good_id (id_of tag) ≡ true → is_tag tag ≡ true
is_lawful tag own good =
    let at = slash_at tag in
    elim (nat_lt at (length tag)) as (λ b. nat_lt at (length tag) ≡ b → is_good_id (option_map (λ place. drop (place + 1) tag) (cond b (Some at) None)) ≡ true → is_tag tag ≡ true) [
      | true ↦ λ e g.
          let within : at < length tag = grind (arith, nat_tests, e) in
          let found : position is_slash tag ≡ Some at = ap (λ b. cond b (Some at) None) e in
          let byte = get_or tag at 0 in
          let id = after_first is_slash tag in
          let middle : is_slash byte ≡ true = (position-Some is_slash tag at 0 found).1 in
          let bytes : list_all is_id_byte id ≡ true = (both (nat_le 1 (length id) && nat_le (length id) 32) (list_all is_id_byte id) g).1 in
          ap is_tag (split_at_first is_slash tag 0 within)
          ∙ (list_all-append (λ b. not (eqb b 32) && not (eqb b 10)) (before_first is_slash tag) (byte ∷ id)
          ∙ (ap (λ b. b && is_tag (byte ∷ id)) own ∙ slash_then byte id middle (id_bytes id bytes)))
      | false ↦ λ e g.
          let past : length tag ≤ at = grind (arith, nat_tests, e) in
          sym (ap is_tag (take_all at tag past)) ∙ own
    ] refl good

-- the first byte of a tag is that of its owner
pub first_of_owner : (tag owner : List ℕ) (byte : ℕ) → owner_of tag ≡ byte ∷ owner → (rest : List ℕ) × (tag ≡ byte ∷ rest)
first_of_owner tag owner byte is = grind arith
