-- A text that is written line by line, each with its tag.
use Rattle.tagged_lines.proofs.Prelude.{◌≡◌, ℕ, Bool, List, [], ◌∷◌, ◌++◌, length, Option, refl, sym, ap, ◌∙◌, arith, append-nil, append_assoc, flat_map, physical_lines, TakesAll, TakesPart, all_none, all_same, all_then, part_first, part_then, with_feed, tagged_text}

-- all but the lines that are left is written
pub record Written {S : Type 0} (contents : S → Option (List ℕ)) (has_failed : S → Bool) (old now : S) (tag text rest : List ℕ) : Type 0 where
  pub done : List ℕ
  pub all : TakesAll contents has_failed old now done
  pub left : done ++ tagged_text tag rest ≡ tagged_text tag text

pub written_none : {S : Type 0} (contents : S → Option (List ℕ)) (has_failed : S → Bool) (sink : S) (tag text : List ℕ) → Written contents has_failed sink sink tag text text
written_none contents has_failed sink tag text = record { done = []; all = all_none contents has_failed sink; left = refl }

abbrev line_of : List ℕ → List ℕ → List ℕ
line_of tag line = tag ++ 32 ∷ with_feed line

tagged_first : (tag rest line after : List ℕ) → physical_lines rest ≡ line ∷ physical_lines after → tagged_text tag rest ≡ line_of tag line ++ tagged_text tag after
tagged_first tag rest line after lines = ap (λ ls. flat_map (line_of tag) ls) lines

pub written_more : {S : Type 0} {contents : S → Option (List ℕ)} {has_failed : S → Bool} {old now next : S} (tag text rest line after : List ℕ) → Written contents has_failed old now tag text rest →
    physical_lines rest ≡ line ∷ physical_lines after → TakesAll contents has_failed now next (line_of tag line) → Written contents has_failed old next tag text after
written_more tag text rest line after w lines takes = grind (arith, append_assoc, tagged_first, all_then w.all takes, append_assoc w.done (line_of tag line) (tagged_text tag after), tagged_first tag rest line after lines)

pub written_part : {S : Type 0} {contents : S → Option (List ℕ)} {has_failed : S → Bool} {old now next : S} (tag text rest line after : List ℕ) → Written contents has_failed old now tag text rest →
    physical_lines rest ≡ line ∷ physical_lines after → TakesPart contents has_failed now next (line_of tag line) → TakesPart contents has_failed old next (tagged_text tag text)
written_part tag text rest line after w lines takes = search (part_then, part_first, arith)

pub written_all : {S : Type 0} {contents : S → Option (List ℕ)} {has_failed : S → Bool} {old now : S} (tag text rest : List ℕ) → Written contents has_failed old now tag text rest → length rest ≡ 0 → TakesAll contents has_failed old now (tagged_text tag text)
written_all tag text [] w none = all_same w.all (sym (append-nil w.done) ∙ w.left)
written_all tag text (x ∷ rest) w none = absurd (omega arith)
