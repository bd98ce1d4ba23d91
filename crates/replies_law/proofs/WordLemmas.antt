-- The words of a netlist contain no line feed.
use Rattle.replies_law.proofs.Prelude.{◌≡◌, ℕ, zero, suc, ◌+◌, Bool, true, false, cond, List, [], ◌∷◌, take, map, Ok, Err, refl, arith, filter, slice_get, enumerate_from, filter_map, list_all, onto_first, slice_split, and_from, and_parts, option_map_or, LineFault, JoinedLine, fault_of, joined_line, joined_bytes, joined_part, lines_of, physical_lines, runs, is_blank, is_filled, NoFeed, is_other}
use Rattle.replies_law.proofs.EachLemmas.{Each, each-filter, each-map}
use Rattle.replies_law.proofs.FeedLemmas.{no_feed-append}

take_other : (n : ℕ) (bytes : List ℕ) → NoFeed bytes → NoFeed (take n bytes)
take_other zero bytes all = refl
take_other (suc n) [] all = refl
take_other (suc n) (b ∷ bytes) all =
    let parts = and_parts (is_other b) (list_all is_other bytes) all in
    and_from _ _ parts.0 (take_other n bytes parts.1)

onto_other : (b : ℕ) (parts : List (List ℕ)) → is_other b ≡ true → Each NoFeed parts → Each NoFeed (onto_first b parts)
onto_other b parts is each = grind arith

lines_other : (bytes : List ℕ) → Each NoFeed (physical_lines bytes)
lines_other [] = tt
lines_other (b ∷ bytes) = grind (arith, lines_other bytes)

abbrev IsNumbered : ℕ × List ℕ → Type 0
IsNumbered line = NoFeed line.1

numbered_other : (n : ℕ) (lines : List (List ℕ)) → Each NoFeed lines → Each IsNumbered (enumerate_from n lines)
numbered_other n [] each = tt
numbered_other n (line ∷ lines) each = (each.0, numbered_other (n + 1) lines each.1)

runs_other : (lines : List (ℕ × List ℕ)) → Each IsNumbered lines → Each (Each IsNumbered) (runs lines)
runs_other [] each = tt
runs_other (line ∷ lines) each = grind (arith, runs_other lines each.1)

kept_other : (line : List ℕ) → NoFeed line → NoFeed (joined_part line)
kept_other line all = grind (arith, take_other, no_feed-append)

bytes_other : (run : List (ℕ × List ℕ)) → Each IsNumbered run → NoFeed (joined_bytes run)
bytes_other [] each = refl
bytes_other (line ∷ run) each = no_feed-append (joined_part line.1) (joined_bytes run) (kept_other line.1 each.0) (bytes_other run each.1)

split_other : (bytes : List ℕ) → NoFeed bytes → Each NoFeed (slice_split is_blank bytes)
split_other [] all = (refl, tt)
split_other (b ∷ bytes) all =
    let parts = and_parts (is_other b) (list_all is_other bytes) all in
    by_test (is_blank b) parts.0 (split_other bytes parts.1)
  where
    by_test : (t : Bool) → is_other b ≡ true → Each NoFeed (slice_split is_blank bytes) → Each NoFeed (cond t ([] ∷ slice_split is_blank bytes) (onto_first b (slice_split is_blank bytes)))
    by_test true is rest = (refl, rest)
    by_test false is rest = onto_other b (slice_split is_blank bytes) is rest

-- the words of a joined line
abbrev pub HasWords : JoinedLine → Type 0
HasWords line = Each NoFeed line.words

joined_other : (run : List (ℕ × List ℕ)) → Each IsNumbered run → HasWords (joined_line run)
joined_other run each = each-filter NoFeed is_filled (slice_split is_blank (joined_bytes run)) (split_other (joined_bytes run) (bytes_other run each))

unless_other : (faults : List LineFault) (lines read : List JoinedLine) → option_map_or Err (slice_get faults 0) (Ok lines) ≡ Ok read → Each HasWords lines → Each HasWords read
unless_other faults lines read is each = grind arith

pub words_other : (text : List ℕ) (lines : List JoinedLine) → lines_of text ≡ Ok lines → Each HasWords lines
unfolding lines_of
words_other text lines is =
    let all = runs (enumerate_from 1 (physical_lines text)) in
    let each = each-map (Each IsNumbered) HasWords joined_line joined_other all (runs_other (enumerate_from 1 (physical_lines text)) (numbered_other 1 (physical_lines text) (lines_other text))) in
    unless_other (filter_map fault_of all) (filter (λ line. is_filled line.words) (map joined_line all)) lines is (each-filter HasWords (λ line. is_filled line.words) (map joined_line all) each)
