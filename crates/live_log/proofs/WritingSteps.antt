-- Lines that are written one by one, those that are kept.
use Rattle.live_log.proofs.Prelude.{◌≡◌, ℕ, Bool, true, false, List, [], ◌∷◌, ◌++◌, length, Option, Bor, map, refl, sym, ap, ◌∙◌, arith, append-nil, append_assoc, physical_lines, TakesAll, TakesPart, all_none, all_same, all_then, part_first, part_same, part_then, flat_map, flat_map-append, texts, with_feed, kept_lines, last_line, line_if}

-- all that is kept is written, but for the lines that are left
pub record Written {S : Type 0} (contents : S → Option (List ℕ)) (has_failed : S → Bool) (old now : S) (all : List Bool) (log : List ℕ) (marks : List Bool) (rest : List ℕ) : Type 0 where
  pub done : List ℕ
  pub takes : TakesAll contents has_failed old now done
  pub left : done ++ kept_lines marks (physical_lines rest) ≡ kept_lines all (physical_lines log)

pub written_none : {S : Type 0} (contents : S → Option (List ℕ)) (has_failed : S → Bool) (sink : S) (all : List Bool) (log : List ℕ) → Written contents has_failed sink sink all log all log
written_none contents has_failed sink all log = record { done = []; takes = all_none contents has_failed sink; left = refl }

first_chosen : (kept : Bool) (others : List Bool) (line : List ℕ) (lines : List (List ℕ)) → kept_lines (kept ∷ others) (line ∷ lines) ≡ line_if kept line ++ kept_lines others lines
first_chosen true others line lines = refl
first_chosen false others line lines = refl

kept_first : (kept : Bool) (marks others : List Bool) (rest line after : List ℕ) → marks ≡ kept ∷ others → physical_lines rest ≡ line ∷ physical_lines after →
    kept_lines marks (physical_lines rest) ≡ line_if kept line ++ kept_lines others (physical_lines after)
kept_first kept marks others rest line after first lines = ap (λ ms. kept_lines ms (physical_lines rest)) first ∙ (ap (λ ls. kept_lines (kept ∷ others) ls) lines ∙ first_chosen kept others line (physical_lines after))

pub written_more : {S : Type 0} {contents : S → Option (List ℕ)} {has_failed : S → Bool} {old now next : S} {all : List Bool} {log : List ℕ} (kept : Bool) (marks others : List Bool) (rest line after : List ℕ) →
    Written contents has_failed old now all log marks rest → marks ≡ kept ∷ others → physical_lines rest ≡ line ∷ physical_lines after →
    TakesAll contents has_failed now next (line_if kept line) → Written contents has_failed old next all log others after
written_more kept marks others rest line after w first lines takes = record {
  done = w.done ++ line_if kept line;
  takes = all_then w.takes takes;
  left = append_assoc w.done (line_if kept line) (kept_lines others (physical_lines after)) ∙ (ap (λ t. w.done ++ t) (sym (kept_first kept marks others rest line after first lines)) ∙ w.left);
}

pub written_part : {S : Type 0} {contents : S → Option (List ℕ)} {has_failed : S → Bool} {old now next : S} {all : List Bool} {log : List ℕ} (kept : Bool) (marks others : List Bool) (rest line after : List ℕ) →
    Written contents has_failed old now all log marks rest → marks ≡ kept ∷ others → physical_lines rest ≡ line ∷ physical_lines after →
    TakesPart contents has_failed now next (line_if kept line) → TakesPart contents has_failed old next (kept_lines all (physical_lines log))
written_part kept marks others rest line after w first lines takes =
    part_same (part_then w.takes (part_same (part_first (kept_lines others (physical_lines after)) takes) (sym (kept_first kept marks others rest line after first lines)))) w.left

none_left : (marks : List Bool) → kept_lines marks [] ≡ []
none_left [] = refl
none_left (kept ∷ marks) = refl

pub written_all : {S : Type 0} {contents : S → Option (List ℕ)} {has_failed : S → Bool} {old now : S} {all : List Bool} {log : List ℕ} (marks : List Bool) (rest : List ℕ) →
    Written contents has_failed old now all log marks rest → length rest ≡ 0 → TakesAll contents has_failed old now (kept_lines all (physical_lines log))
written_all marks [] w none = all_same w.takes (sym (append-nil w.done) ∙ (ap (λ t. w.done ++ t) (sym (none_left marks)) ∙ w.left))
written_all marks (x ∷ rest) w none = absurd (omega arith)

-- the comment that says a tag, with its end
abbrev pub comment : Bor (List ℕ) → List ℕ
comment tag = with_feed (last_line tag.now)

pub comments : (tags : List (Bor (List ℕ))) → flat_map comment tags ≡ flat_map with_feed (map last_line (texts tags))
comments [] = refl
comments (tag ∷ tags) = ap (λ t. comment tag ++ t) (comments tags)

pub both_written : (kept lines : List (List ℕ)) → flat_map with_feed kept ++ flat_map with_feed lines ≡ flat_map with_feed (kept ++ lines)
both_written kept lines = sym (flat_map-append with_feed kept lines)
