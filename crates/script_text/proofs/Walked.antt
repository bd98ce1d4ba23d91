-- The lines of a text before the one that ends it.
use Rattle.script_text.proofs.Prelude.{◌≡◌, ℕ, ◌+◌, ◌⊎◌, ◌<◌, ◌≤◌, List, [], ◌∷◌, ◌++◌, true, false, Option, None, inl, inr, length, get_or, refl, sym, ap, ◌∙◌, arith, append_assoc, append-nil, length-drop, option_map, position_or_len, before_first, after_first, cases_lt, eqb-true, drop_all, passes_at_first, split_at_first, physical_lines, acts_from, heard_so_far, nothing_said, threaded_from, Heard, Head, ends_text, bytes_ahead}
use Rattle.script_text.proofs.LineLemmas.{is_lf}

-- a text is its first line, LF and the rest, unless nothing comes after the line
pub first_of : (text : List ℕ) → (text ≡ before_first is_lf text ++ 10 ∷ after_first is_lf text) ⊎ (after_first is_lf text ≡ [])
first_of text = elim (cases_lt (position_or_len is_lf text) (length text)) [
  | inl within ↦
      let lf : get_or text (position_or_len is_lf text) 0 ≡ 10 = eqb-true _ _ (passes_at_first is_lf text 0 within) in
      inl (split_at_first is_lf text 0 within ∙ ap (λ b. before_first is_lf text ++ b ∷ after_first is_lf text) lf)
  | inr past ↦ inr (drop_all (position_or_len is_lf text + 1) text (omega arith))
]

pub shorter : (text : List ℕ) → 0 < length text → length (after_first is_lf text) < length text
shorter text some = rw (length-drop (position_or_len is_lf text + 1) text) (omega arith)

-- with that text in front
abbrev pub behind : List ℕ → Option (List ℕ) → Option (List ℕ)
behind front text = option_map (λ bytes. front ++ bytes) text

-- nothing is read yet, and the next line is in the text at the script's start
abbrev pub at_head : Heard
at_head = heard_so_far nothing_said Head

-- no line in the front part of the text ends it, and the rest begins with the line of that number
pub record Walked (first : ℕ) (text rest : List ℕ) (number : ℕ) : Type 0 where
  pub front : List ℕ
  pub whole : text ≡ front ++ rest
  pub ended : (front ≡ []) ⊎ ((before : List ℕ) × (front ≡ before ++ 10 ∷ [])) ⊎ (rest ≡ [])
  pub ahead : bytes_ahead (physical_lines text) ≡ behind front (bytes_ahead (physical_lines rest))
  pub acts : acts_from first true (physical_lines text) ≡ acts_from number true (physical_lines rest)
  pub threads : threaded_from first at_head (physical_lines text) ≡ threaded_from number at_head (physical_lines rest)
  pub counted : number + length rest ≤ first + length text
  pub later : first ≤ number

behind-behind : (a b : List ℕ) (text : Option (List ℕ)) → behind a (behind b text) ≡ behind (a ++ b) text
behind-behind a b text = grind (arith, append_assoc)

line-behind : (line : List ℕ) (text : Option (List ℕ)) → option_map (λ bytes. line ++ 10 ∷ bytes) text ≡ behind (line ++ 10 ∷ []) text
line-behind line text = grind (arith, append_assoc)

passed : (line : List ℕ) (lines : List (List ℕ)) → ends_text line ≡ false → bytes_ahead (line ∷ lines) ≡ behind (line ++ 10 ∷ []) (bytes_ahead lines)
passed line lines ends = rw ends (line-behind line (bytes_ahead lines))

acts_passed : (number : ℕ) (line : List ℕ) (lines : List (List ℕ)) → ends_text line ≡ false → acts_from number true (line ∷ lines) ≡ acts_from (number + 1) true lines
acts_passed number line lines ends = rw ends refl

threads_passed : (number : ℕ) (line : List ℕ) (lines : List (List ℕ)) → ends_text line ≡ false → threaded_from number at_head (line ∷ lines) ≡ threaded_from (number + 1) at_head lines
threads_passed number line lines ends = rw ends refl

pub walked_more : (first : ℕ) (text rest line after : List ℕ) (number : ℕ) → Walked first text rest number → physical_lines rest ≡ line ∷ physical_lines after → length after < length rest →
    (rest ≡ line ++ 10 ∷ after) ⊎ (after ≡ []) → ends_text line ≡ false → Walked first text after (number + 1)
walked_more first text rest line after number w lines less (inl cut) ends = record {
  front = w.front ++ (line ++ 10 ∷ []);
  whole = w.whole ∙ ap (λ r. w.front ++ r) cut ∙ ap (λ r. w.front ++ r) (sym (append_assoc line (10 ∷ []) after)) ∙ sym (append_assoc w.front (line ++ 10 ∷ []) after);
  ended = inr (inl (w.front ++ line, sym (append_assoc w.front line (10 ∷ []))));
  ahead = w.ahead ∙ ap (λ ls. behind w.front (bytes_ahead ls)) lines ∙ ap (behind w.front) (passed line (physical_lines after) ends)
      ∙ behind-behind w.front (line ++ 10 ∷ []) (bytes_ahead (physical_lines after));
  acts = w.acts ∙ ap (acts_from number true) lines ∙ acts_passed number line (physical_lines after) ends;
  threads = w.threads ∙ ap (threaded_from number at_head) lines ∙ threads_passed number line (physical_lines after) ends;
  counted = let was = w.counted in omega arith;
  later = let was = w.later in omega arith;
}
walked_more first text rest line after number w lines less (inr over) ends =
    let none : bytes_ahead (physical_lines after) ≡ None = ap (λ t. bytes_ahead (physical_lines t)) over in
    record {
      front = text;
      whole = sym (append-nil text) ∙ ap (λ r. text ++ r) (sym over);
      ended = inr (inr over);
      ahead = w.ahead ∙ ap (λ ls. behind w.front (bytes_ahead ls)) lines ∙ ap (behind w.front) (passed line (physical_lines after) ends)
          ∙ ap (λ s. behind w.front (behind (line ++ 10 ∷ []) s)) none ∙ ap (behind text) (sym none);
      acts = w.acts ∙ ap (acts_from number true) lines ∙ acts_passed number line (physical_lines after) ends;
      threads = w.threads ∙ ap (threaded_from number at_head) lines ∙ threads_passed number line (physical_lines after) ends;
      counted = let was = w.counted in omega arith;
      later = let was = w.later in omega arith;
    }
