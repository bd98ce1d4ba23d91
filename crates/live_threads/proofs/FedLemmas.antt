-- The lines of an input, one after another.
use Rattle.live_threads.proofs.Prelude.{◌≡◌, ℕ, zero, suc, List, [], ◌∷◌, ◌++◌, take, map, true, false, not, Option, Some, None, refl, sym, ap, subst, ◌∙◌, arith, append-nil, append_assoc, take-take, ◌==◌, IfSome, AllByRecursion, flat_map, list_all, Consumes, IsAtEnd, Consumes-nil, Consumes-trans, and_from, and_parts, flat_map-append, map-append, physical_lines, with_feed, is_line, line_then, ended_lines, IsKept, TakesPiece, is_one_line, kept_of, both_lines, ended_then, lines_push, none_ended, split_line, kept_lines, IsLine, Result, is_err, View, FailedDevice, ReadsAhead, Refills, AreFirst, Fed, IsFed, TakesSome, cut_lines}

-- what is kept of a cut line is the line
pub kept_twice : (line : List ℕ) → kept_of (kept_of line) ≡ kept_of line
unfolding kept_of
kept_twice line = take-take 1048640 1048640 line (omega arith)

known_all : (input left : Option (List ℕ)) (bytes : List ℕ) (P : List ℕ → Type 0) → Consumes input left bytes → IsAtEnd left → P bytes → IfSome input P
known_all input left bytes P read end is = grind (arith, append-nil)

-- nothing was read
pub fed_none : (input : Option (List ℕ)) (ahead kept : List ℕ) → ahead ≡ [] → IsKept kept [] → Fed input input ahead kept []
fed_none input ahead kept none line = record {
  bytes = [];
  consumes = Consumes-nil input;
  lines = [];
  begun = [];
  split = sym none;
  are_lines = refl;
  is_begun = refl;
  line = line;
  fed_is = refl;
}

-- what was read ahead is of the line that has begun
pub fed_piece : (input now : Option (List ℕ)) (ahead kept rest after : List ℕ) (fed : List (List ℕ)) → Fed input now ahead kept fed → TakesPiece ahead kept false rest after → Fed input now rest after fed
fed_piece input now ahead kept rest after fed g p = grind (arith, append-nil, both_lines)

-- a line has ended
pub fed_line : (input now : Option (List ℕ)) (ahead kept rest after cleared : List ℕ) (fed : List (List ℕ)) → Fed input now ahead kept fed → TakesPiece ahead kept true rest after → IsKept cleared [] → Fed input now rest cleared (fed ++ after ∷ [])
fed_line input now ahead kept rest after cleared fed g p none = grind (arith, lines_push, both_lines, map-append, split_line g.begun p.piece rest ahead g.lines p.rest, lines_push g.lines (g.begun ++ p.piece) g.are_lines (both_lines g.begun p.piece g.is_begun p.one), both_lines g.begun p.piece g.is_begun p.one, map-append kept_of g.lines ((g.begun ++ p.piece) ∷ []))

-- more was read
pub fed_read : (input now next : Option (List ℕ)) (ahead kept bytes : List ℕ) (fed : List (List ℕ)) → ahead ≡ [] → Fed input now ahead kept fed → Consumes now next bytes → Fed input next bytes kept fed
fed_read input now next ahead kept bytes fed none g reads = grind (arith, Consumes-trans, append_assoc)

-- the bytes that were read, with nothing ahead
all_bytes : (input now : Option (List ℕ)) (ahead kept : List ℕ) (fed : List (List ℕ)) → ahead ≡ [] → (g : Fed input now ahead kept fed) → g.bytes ≡ flat_map with_feed g.lines ++ g.begun
all_bytes input now ahead kept fed none g = g.split ∙ ap (λ l. flat_map with_feed g.lines ++ l) (ap (λ a. g.begun ++ a) none ∙ append-nil g.begun)

-- at the input's end all its lines were handed over
pub fed_whole : (input now : Option (List ℕ)) (ahead kept : List ℕ) (fed : List (List ℕ)) → ahead ≡ [] → Fed input now ahead kept fed → IsAtEnd now → IfSome input (λ bytes. fed ≡ kept_lines bytes)
fed_whole input now ahead kept fed none g end = grind (arith, ended_then, none_ended, append-nil)

one_take : (n : ℕ) (line : List ℕ) → is_one_line line ≡ true → is_one_line (take n line) ≡ true
one_take zero line one = refl
one_take (suc n) [] one = refl
one_take (suc n) (x ∷ line) one =
    let parts = and_parts (not (x == 10)) (is_one_line line) one in
    and_from _ _ parts.0 (one_take n line parts.1)

pub one_kept : (line : List ℕ) → is_one_line line ≡ true → is_one_line (kept_of line) ≡ true
unfolding kept_of
one_kept line one = one_take 1048640 line one

-- a cut line is a line as the machine takes it
pub cut_is_line : (line kept : List ℕ) → IsKept kept line → is_one_line line ≡ true → IsLine kept
cut_is_line line kept is one = grind (arith, kept_twice, one_kept)

same_lines : (lines : List (List ℕ)) → AllByRecursion IsLine lines → map kept_of lines ≡ lines
same_lines [] all = refl
same_lines (line ∷ lines) (one, all) = ap (λ l. l ∷ map kept_of lines) one.kept ∙ ap (λ ls. line ∷ ls) (same_lines lines all)

all_one : (lines : List (List ℕ)) → AllByRecursion IsLine lines → list_all is_one_line lines ≡ true
all_one [] all = refl
all_one (line ∷ lines) (one, all) = and_from _ _ one.one (all_one lines all)

to_line : (line : List ℕ) → is_one_line line ≡ true → is_line line ≡ true
to_line [] one = refl
to_line (x ∷ line) one = let parts = and_parts (not (x == 10)) (is_one_line line) one in and_from _ _ parts.0 (to_line line parts.1)

-- lines with their ends are those lines
lines_then : (lines : List (List ℕ)) (more : List ℕ) → list_all is_one_line lines ≡ true → physical_lines (flat_map with_feed lines ++ more) ≡ lines ++ physical_lines more
lines_then [] more are = refl
lines_then (line ∷ lines) more are =
    let parts = and_parts (is_one_line line) (list_all is_one_line lines) are in
    ap physical_lines (append_assoc (line ++ 10 ∷ []) (flat_map with_feed lines) more ∙ append_assoc line (10 ∷ []) (flat_map with_feed lines ++ more))
    ∙ (line_then line (flat_map with_feed lines ++ more) (to_line line parts.0) ∙ ap (λ ls. line ∷ ls) (lines_then lines more parts.1))

-- the lines of a text that is put together of cut lines
batch_lines : (lines : List (List ℕ)) → AllByRecursion IsLine lines → cut_lines (flat_map with_feed lines) ≡ lines
batch_lines lines all = grind (arith, lines_then, all_one, same_lines, append-nil (flat_map with_feed lines), lines_then lines [] (all_one lines all), all_one lines all, append-nil lines, same_lines lines all)

-- a line is taken from what is ahead
pub fed_more : (ahead kept rest after cleared : List ℕ) → IsFed ahead kept → TakesPiece ahead kept true rest after → IsKept cleared [] → IsFed rest cleared
fed_more ahead kept rest after cleared (input, now, fed, g) p none = (input, now, fed ++ after ∷ [], fed_line input now ahead kept rest after cleared fed g p none)

piece_is_line : (ahead kept rest after : List ℕ) → IsFed ahead kept → TakesPiece ahead kept true rest after → IsLine after
piece_is_line ahead kept rest after (input, now, fed, g) p = cut_is_line (g.begun ++ p.piece) after (p.kept g.begun g.line) (both_lines g.begun p.piece g.is_begun p.one)

all_push : (lines : List (List ℕ)) (line : List ℕ) → AllByRecursion IsLine lines → IsLine line → AllByRecursion IsLine (lines ++ line ∷ [])
all_push [] line all one = (one, tt)
all_push (l ∷ lines) line (first, all) one = (first, all_push lines line all one)

pub some_more : (batch a0 k0 ahead kept rest after cleared : List ℕ) → IsFed ahead kept → TakesSome batch a0 k0 ahead kept → TakesPiece ahead kept true rest after → IsKept cleared [] → TakesSome (batch ++ with_feed after) a0 k0 rest cleared
some_more batch a0 k0 ahead kept rest after cleared is s p none = record {
  lines = s.lines ++ after ∷ [];
  batch_is = ap (λ b. b ++ with_feed after) s.batch_is ∙ (ap (λ l. flat_map with_feed s.lines ++ l) (sym (append-nil (with_feed after))) ∙ sym (flat_map-append with_feed s.lines (after ∷ [])));
  all = all_push s.lines after s.all (piece_is_line ahead kept rest after is p);
  fed = λ input now fed g.
      let P : List (List ℕ) → Type 0 = λ l. Fed input now rest cleared l in
      subst P (append_assoc fed s.lines (after ∷ [])) (fed_line input now ahead kept rest after cleared (fed ++ s.lines) (s.fed input now fed g) p none);
}

pub some_none : (ahead kept : List ℕ) → TakesSome [] ahead kept ahead kept
some_none ahead kept = record { lines = []; batch_is = refl; all = tt; fed = λ input now fed g. let P : List (List ℕ) → Type 0 = λ l. Fed input now ahead kept l in subst P (sym (append-nil fed)) g }

-- what was taken is put together
pub some_fed : (batch a0 k0 ahead kept rest after : List ℕ) → TakesSome batch a0 k0 ahead kept → TakesPiece ahead kept false rest after → (input now : Option (List ℕ)) (fed : List (List ℕ)) → Fed input now a0 k0 fed → Fed input now rest after (fed ++ cut_lines batch)
some_fed batch a0 k0 ahead kept rest after s p input now fed g = grind (arith, batch_lines, fed_piece)

-- a read that was made
pub read_ok : (old new : View) (ahead : List ℕ) (result : Result (Unit {0}) FailedDevice) → false ≡ is_err result → Refills old new ahead result → ReadsAhead old new ahead
read_ok old new ahead result ok reads = grind arith

-- the lines that were handed over are the first ones of the input
first_lines : (lines : List (List ℕ)) (rest : List ℕ) → list_all is_one_line lines ≡ true → AreFirst (kept_lines (flat_map with_feed lines ++ rest)) (map kept_of lines)
first_lines lines rest all = (kept_lines rest, ap (map kept_of) (ended_then lines rest all) ∙ map-append kept_of lines (ended_lines rest))

pub fed_first : (input now : Option (List ℕ)) (ahead kept : List ℕ) (fed : List (List ℕ)) → Fed input now ahead kept fed → IfSome input (λ bytes. AreFirst (kept_lines bytes) fed)
fed_first None now ahead kept fed g = tt
fed_first (Some all) None ahead kept fed g = absurd g.consumes
fed_first (Some all) (Some left) ahead kept fed g =
    let rest : List ℕ = (g.begun ++ ahead) ++ left in
    let own : all ≡ flat_map with_feed g.lines ++ rest = g.consumes ∙ (ap (λ b. b ++ left) g.split ∙ append_assoc (flat_map with_feed g.lines) (g.begun ++ ahead) left) in
    let B : List ℕ → Type 0 = λ b. AreFirst (kept_lines b) fed in
    let F : List (List ℕ) → Type 0 = λ l. AreFirst (kept_lines (flat_map with_feed g.lines ++ rest)) l in
    subst B (sym own) (subst F (sym g.fed_is) (first_lines g.lines rest g.are_lines))
