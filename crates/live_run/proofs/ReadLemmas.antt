-- The lines of a source, one after another.
use Rattle.live_run.proofs.Prelude.{◌≡◌, ℕ, List, [], ◌∷◌, ◌++◌, Option, Some, None, true, false, refl, sym, ap, ◌∙◌, append-nil, append_assoc, arith, IfSome, Result, is_err, flat_map, list_all, Consumes, IsAtEnd, Consumes-nil, Consumes-trans, with_feed, View, FailedDevice, ReadsAhead, Refills, IsKept, TakesPiece, is_one_line, ended_lines, both_lines, ended_then, lines_push, none_ended, split_line}

-- of an input these bytes are ahead, and that is kept of the line that has begun; those lines were
-- before it
pub record IsRead (input now : Option (List ℕ)) (ahead kept : List ℕ) (lines : List (List ℕ)) : Type 0 where
  pub bytes : List ℕ
  pub consumes : Consumes input now bytes
  pub begun : List ℕ
  pub split : bytes ≡ flat_map with_feed lines ++ (begun ++ ahead)
  pub are_lines : list_all is_one_line lines ≡ true
  pub is_begun : is_one_line begun ≡ true
  pub line : IsKept kept begun

pub read_none : (input : Option (List ℕ)) (ahead kept : List ℕ) → ahead ≡ [] → IsKept kept [] → IsRead input input ahead kept []
read_none input ahead kept none line = record { bytes = []; consumes = Consumes-nil input; begun = []; split = sym none; are_lines = refl; is_begun = refl; line = line }

-- what was read ahead is of the line that has begun
pub read_piece : (input now : Option (List ℕ)) (ahead kept rest after : List ℕ) (lines : List (List ℕ)) → IsRead input now ahead kept lines → TakesPiece ahead kept false rest after → IsRead input now rest after lines
read_piece input now ahead kept rest after lines g p = grind (arith, append-nil, both_lines)

-- a line has ended
pub read_line : (input now : Option (List ℕ)) (ahead kept rest after cleared : List ℕ) (lines : List (List ℕ)) (g : IsRead input now ahead kept lines) (p : TakesPiece ahead kept true rest after) → IsKept cleared [] → IsRead input now rest cleared (lines ++ (g.begun ++ p.piece) ∷ [])
read_line input now ahead kept rest after cleared lines g p none = grind (arith, split_line, lines_push, both_lines)

-- more was read
pub read_more : (input now next : Option (List ℕ)) (ahead kept bytes : List ℕ) (lines : List (List ℕ)) → ahead ≡ [] → IsRead input now ahead kept lines → Consumes now next bytes → IsRead input next bytes kept lines
read_more input now next ahead kept bytes lines none g reads = grind (arith, Consumes-trans, append_assoc)

known_all : (input left : Option (List ℕ)) (bytes : List ℕ) (P : List ℕ → Type 0) → Consumes input left bytes → IsAtEnd left → P bytes → IfSome input P
known_all input left bytes P read end is = grind (arith, append-nil)

-- at the end these are all lines
pub read_whole : (input now : Option (List ℕ)) (ahead kept : List ℕ) (lines : List (List ℕ)) → ahead ≡ [] → IsRead input now ahead kept lines → IsAtEnd now → IfSome input (λ bytes. lines ≡ ended_lines bytes)
read_whole input now ahead kept lines none g end = grind (arith, append-nil, ended_then, none_ended)

-- before it they are the first ones
pub read_first : (input now : Option (List ℕ)) (ahead kept : List ℕ) (lines : List (List ℕ)) → IsRead input now ahead kept lines → IfSome input (λ bytes. (more : List (List ℕ)) × (ended_lines bytes ≡ lines ++ more))
read_first None now ahead kept lines g = tt
read_first (Some all) None ahead kept lines g = absurd g.consumes
read_first (Some all) (Some left) ahead kept lines g =
    let rest : List ℕ = (g.begun ++ ahead) ++ left in
    let own : all ≡ flat_map with_feed lines ++ rest = g.consumes ∙ (ap (λ b. b ++ left) g.split ∙ append_assoc (flat_map with_feed lines) (g.begun ++ ahead) left) in
    (ended_lines rest, ap ended_lines own ∙ ended_then lines rest g.are_lines)

-- a read that was made
pub read_ok : (old new : View) (ahead : List ℕ) (result : Result (Unit {0}) FailedDevice) → false ≡ is_err result → Refills old new ahead result → ReadsAhead old new ahead
read_ok old new ahead result ok reads = grind arith
