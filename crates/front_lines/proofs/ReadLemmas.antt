-- An input that is read line by line.
use Rattle.front_lines.proofs.Prelude.{◌≡◌, ℕ, List, [], ◌∷◌, ◌++◌, true, false, Option, None, Some, refl, sym, ap, ◌∙◌, subst, append-nil, append_assoc, arith, Appends, Consumes, IsAtEnd, prepend_known, Appends-trans, Consumes-trans, View, ReadsAhead, IsKept, TakesPiece, is_one_line, both_lines, with_feed, HasLine, HasPaused}

-- the line that had begun goes on with this part
pub record Reading (old now : Option (List ℕ)) (kept kept_now : List ℕ) : Type 0 where
  pub part : List ℕ
  pub one : is_one_line part ≡ true
  pub line : (begun : List ℕ) → IsKept kept begun → IsKept kept_now (begun ++ part)
  pub consumes : Consumes old now part

and_piece : (old now next : Option (List ℕ)) (kept kept_now kept_next piece : List ℕ) → Reading old now kept kept_now → is_one_line piece ≡ true → ((line : List ℕ) → IsKept kept_now line → IsKept kept_next (line ++ piece)) → Consumes now next piece → Reading old next kept kept_next
and_piece old now next kept kept_now kept_next piece r one more consumes = grind (arith, both_lines, append_assoc, Consumes-trans)

pub and_line : (old now next : Option (List ℕ)) (kept kept_now kept_next : List ℕ) → Reading old now kept kept_now → HasLine now next kept_now kept_next → HasLine old next kept kept_next
and_line old now next kept kept_now kept_next r h = grind (arith, append_assoc, Consumes-trans, both_lines r.part h.part r.one h.one, append_assoc r.part h.part (10 ∷ []), Consumes-trans old now next r.part (with_feed h.part) r.consumes h.consumes)

pub and_pause : (old now next : Option (List ℕ)) (kept kept_now kept_next : List ℕ) → Reading old now kept kept_now → HasPaused now next kept_now kept_next → Reading old next kept kept_next
and_pause old now next kept kept_now kept_next r h = and_piece old now next kept kept_now kept_next h.part r h.one h.line h.consumes

-- what was read ahead is taken
all_taken : (left : Option (List ℕ)) (ahead piece rest : List ℕ) → ahead ≡ piece → rest ≡ [] → Consumes (prepend_known ahead left) (prepend_known rest left) piece
all_taken left ahead piece rest is none = grind arith

end_taken : (left : Option (List ℕ)) (ahead piece rest : List ℕ) → ahead ≡ piece ++ 10 ∷ rest → Consumes (prepend_known ahead left) (prepend_known rest left) (with_feed piece)
end_taken None ahead piece rest is = tt
end_taken (Some bytes) ahead piece rest is = ap (λ a. a ++ bytes) is ∙ (append_assoc piece (10 ∷ rest) bytes ∙ sym (append_assoc piece (10 ∷ []) (rest ++ bytes)))

-- more is read ahead
more_ahead : (left then : Option (List ℕ)) (rest ahead : List ℕ) → rest ≡ [] → Consumes left then ahead → Consumes (prepend_known rest left) (prepend_known ahead then) []
more_ahead left then rest ahead none read = grind arith

-- a dialogue is read on, and nothing is written
pub record ReadingOn (before : View) (ahead kept : List ℕ) (now : View) (ahead_now kept_now : List ℕ) : Type 0 where
  pub reading : Reading (prepend_known ahead before.remaining) (prepend_known ahead_now now.remaining) kept kept_now
  pub output : Appends before.output now.output []

pub line_ends : (before : View) (ahead kept : List ℕ) (now : View) (ahead_now kept_now rest after : List ℕ) → ReadingOn before ahead kept now ahead_now kept_now → TakesPiece ahead_now kept_now true rest after →
    HasLine (prepend_known ahead before.remaining) (prepend_known rest now.remaining) kept after
line_ends before ahead kept now ahead_now kept_now rest after r p = grind (arith, and_line (prepend_known ahead before.remaining) (prepend_known ahead_now now.remaining) (prepend_known rest now.remaining) kept kept_now after r.reading (record { part = p.piece; one = p.one; line = p.kept; consumes = end_taken now.remaining ahead_now p.piece rest p.rest }))

pub line_goes_on : (before : View) (ahead kept : List ℕ) (now : View) (ahead_now kept_now : List ℕ) (next : View) (rest after new : List ℕ) → ReadingOn before ahead kept now ahead_now kept_now → TakesPiece ahead_now kept_now false rest after → ReadsAhead now next new →
    ReadingOn before ahead kept next new after
line_goes_on before ahead kept now ahead_now kept_now next rest after new r p a =
    let old = prepend_known ahead before.remaining in
    let mid = prepend_known rest now.remaining in
    let taken = and_piece old (prepend_known ahead_now now.remaining) mid kept kept_now after p.piece r.reading p.one p.kept (all_taken now.remaining ahead_now p.piece rest p.rest.0 p.rest.1) in
    let P : List ℕ → Type 0 = λ line. IsKept after line in
    record {
      reading = and_piece old mid (prepend_known new next.remaining) kept after after [] taken refl (λ line is. subst P (sym (append-nil line)) is) (more_ahead now.remaining next.remaining rest new p.rest.1 a.consumes);
      output = Appends-trans before.output now.output next.output [] [] r.output a.happens.told;
    }

pub line_pauses : (before : View) (ahead kept : List ℕ) (next : View) (new after : List ℕ) → ReadingOn before ahead kept next new after → new ≡ [] → IsAtEnd next.remaining → HasPaused (prepend_known ahead before.remaining) (prepend_known new next.remaining) kept after
line_pauses before ahead kept next new after r none end = grind arith
