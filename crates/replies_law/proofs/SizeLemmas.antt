-- No text is longer than what is written.
use Rattle.replies_law.proofs.Prelude.{◌≡◌, ℕ, ◌+◌, ◌≤◌, ◌<◌, ◌^◌, List, [], ◌∷◌, ◌++◌, length, map, arith, length-append, Act, Operator, Session, Section, section_text, Telling, sections_after, told_operator, told_session, with_text, replies_text, AreTellable, HasName}
use Rattle.std.specs.Prelude.{flat_map}
use Rattle.replies_law.proofs.EachLemmas.{Each}

-- all texts together
abbrev all_told : List Telling → ℕ
all_told [] = 0
all_told (t ∷ ts) = length t.text + all_told ts

abbrev in_sections : List Section → ℕ
in_sections [] = 0
in_sections (s ∷ sections) = length s.text + in_sections sections

-- one more text
text_more : (sections : List Section) (name text : List ℕ) → in_sections (with_text sections name text) ≡ in_sections sections + length text
text_more [] name text = omega arith
text_more (s ∷ sections) name text = grind (arith, length-append, text_more sections name text)

-- the replies to the operator and to the sessions are all of it
told_somewhere : (sections : List Section) (ts : List Telling) → length (flat_map (λ t. told_operator t.act t.text) ts) + in_sections (sections_after sections ts) ≡ in_sections sections + all_told ts
told_somewhere sections [] = omega arith
told_somewhere sections (t ∷ ts) = by_act t.act (told_somewhere sections ts) (λ name. told_somewhere (with_text sections name t.text) ts)
  where
    by_act : (act : Act (List ℕ)) → length (flat_map (λ t. told_operator t.act t.text) ts) + in_sections (sections_after sections ts) ≡ in_sections sections + all_told ts →
        ((name : List ℕ) → length (flat_map (λ t. told_operator t.act t.text) ts) + in_sections (sections_after (with_text sections name t.text) ts) ≡ in_sections (with_text sections name t.text) + all_told ts) →
        length (told_operator act t.text ++ flat_map (λ t. told_operator t.act t.text) ts) + in_sections (sections_after (told_session sections act t.text) ts) ≡ in_sections sections + (length t.text + all_told ts)
    by_act (Operator line) same more = let e = length-append t.text (flat_map (λ t. told_operator t.act t.text) ts) in omega (arith, e, same)
    by_act (Session name line) same more = let e = text_more sections name t.text in let m = more name in omega (arith, e, m)

sections_long : (sections : List Section) → in_sections sections ≤ length (flat_map section_text sections)
sections_long [] = omega arith
sections_long (s ∷ sections) = grind (arith, length-append, sections_long sections)

all_written : (ts : List Telling) → all_told ts ≤ length (replies_text ts)
all_written ts = grind (arith, sections_long, length-append, told_somewhere [] ts)

-- so all of it can be written
tellable_from : (ts : List Telling) → Each HasName (map (λ t. t.act) ts) → all_told ts < 2 ^ 64 → AreTellable ts
tellable_from [] each small = tt
tellable_from (t ∷ ts) each small = ((each.0, omega (arith, small)), tellable_from ts each.1 (omega (arith, small)))

pub are_tellable : (ts : List Telling) → Each HasName (map (λ t. t.act) ts) → length (replies_text ts) < 2 ^ 64 → AreTellable ts
are_tellable ts each small = tellable_from ts each (let all = all_written ts in omega (arith, small, all))
