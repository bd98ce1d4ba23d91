-- Marks on sites.
use Rattle.strip_place.proofs.Prelude.{ℕ, ◌≡◌, ◌+◌, ◌<◌, ◌≤◌, Bool, true, false, List, Option, drop, length, get_or, refl, ap, arith, drop_all, drop_more, prefix_len-drop_all, prefix_len-drop_no, prefix_len-drop_yes, first_from, mark_at, marks_with}

-- all sites from the first one up to this one are marked
pub record IsSearching (marks : List Bool) (from site : ℕ) : Type 0 where
  pub within : site ≤ length marks
  pub first : first_from marks site ≡ first_from marks from

pub searching_none : (marks : List Bool) (from : ℕ) → from ≤ length marks → IsSearching marks from from
searching_none marks from within = record { within = within; first = refl }

pub searching_more : (marks : List Bool) (from site : ℕ) (d : Bool) → site < length marks → get_or marks site d ≡ true → IsSearching marks from site → IsSearching marks from (site + 1)
searching_more marks from site d lt is so_far = grind (arith, prefix_len-drop_yes)

pub searching_free : (marks : List Bool) (from site : ℕ) (d : Bool) → site < length marks → get_or marks site d ≡ false → IsSearching marks from site → site ≡ first_from marks from
searching_free marks from site d lt is so_far = (let none = prefix_len-drop_no (λ (mark : Bool). mark) marks site d lt is in omega (arith, none, so_far.first))

pub searching_all : (marks : List Bool) (from site : ℕ) → length marks ≤ site → IsSearching marks from site → site ≡ first_from marks from
searching_all marks from site past so_far = (let none = prefix_len-drop_all (λ (mark : Bool). mark) marks site past in omega (arith, none, so_far.first))

-- one more site is marked
pub marked_more : (marks : List Bool) (kept : List (Option ℕ)) (index : ℕ) (d : Option ℕ) → index < length kept → marks_with marks (drop index kept) ≡ marks_with (mark_at marks (get_or kept index d)) (drop (index + 1) kept)
marked_more marks kept index d lt = ap (marks_with marks) (drop_more kept index d lt)

pub marked_all : (marks : List Bool) (kept : List (Option ℕ)) (index : ℕ) → length kept ≤ index → marks_with marks (drop index kept) ≡ marks
marked_all marks kept index past = ap (marks_with marks) (drop_all index kept past)
