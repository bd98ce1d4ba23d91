-- What is read after the operator's section: nothing.
use Rattle.device_law.proofs.Prelude.{◌≡◌, ℕ, ◌+◌, List, [], ◌∷◌, ◌++◌, codes, Ok, refl, ap, ◌∙◌, arith, flat_map, onto_first, slice_split, Section, section_text, change_in, owner_count, Seen, after_line, is_feed, line_read, lines_of, lines_read, missing_part, missing_at, missing_inside, plus, reply_line, after_text, IsInside, from_step}
use Rattle.device_law.proofs.ReplyLines.{quiet}

-- the sections of the names
abbrev behind_of : Seen → Seen
behind_of seen = from_step seen (reply_line seen (codes "== ") 0)

pub record Rest (seen : Seen) (number : ℕ) (text : List ℕ) : Type 0 where
  pub new : Seen
  pub lines : ℕ
  pub reads : lines_read (lines_of text) seen number ≡ Ok (new, lines)
  pub awaited_is : new.awaited ≡ 0
  pub live_is : new.live ≡ seen.live
  pub listed_is : new.listed ≡ seen.listed
  pub owned_is : new.owned ≡ seen.owned
  pub has_is : new.has_owners ≡ seen.has_owners
  pub missing_is : missing_part new lines ≡ missing_inside new lines

inside_is : (seen : Seen) (number : ℕ) (line : List ℕ) → IsInside seen → line_read seen line number ≡ reply_line seen line number
inside_is seen number line inside = grind arith

blank_read : (seen : Seen) (number : ℕ) → reply_line seen [] number ≡ Ok (quiet seen)
unfolding owner_count after_text change_in
blank_read seen number = refl

heading_read : (seen : Seen) (number : ℕ) (line : List ℕ) → reply_line seen (61 ∷ 61 ∷ 32 ∷ line) number ≡ Ok (behind_of seen)
unfolding after_text
heading_read seen number line = refl

record Behind (seen : Seen) (lines : List (List ℕ)) (number : ℕ) : Type 0 where
  last : ℕ
  reads : lines_read lines (behind_of seen) number ≡ Ok (behind_of seen, last)

behind_read : (lines : List (List ℕ)) (seen : Seen) (number : ℕ) → Behind seen lines number
unfolding lines_read after_text
behind_read [] seen number = record { last = number; reads = refl }
behind_read (line ∷ lines) seen number = let rest = behind_read lines seen (plus number 1) in record { last = rest.last; reads = rest.reads }

behind_missing : (seen : Seen) (lines : ℕ) → missing_part (behind_of seen) lines ≡ missing_inside (behind_of seen) lines
unfolding after_text
behind_missing seen lines = refl

record SameAs (seen new : Seen) : Type 0 where
  awaited_is : new.awaited ≡ seen.awaited
  live_is : new.live ≡ seen.live
  listed_is : new.listed ≡ seen.listed
  owned_is : new.owned ≡ seen.owned
  has_is : new.has_owners ≡ seen.has_owners

behind_same : (seen : Seen) → SameAs seen (behind_of seen)
unfolding after_text
behind_same seen = record { awaited_is = refl; live_is = refl; listed_is = refl; owned_is = refl; has_is = refl }

-- a heading, and all after it
record HeadRead (seen : Seen) (lines : List (List ℕ)) (number : ℕ) : Type 0 where
  last : ℕ
  reads : lines_read lines seen number ≡ Ok (behind_of seen, last)

head_read : (seen : Seen) (number : ℕ) (line : List ℕ) (lines : List (List ℕ)) → IsInside seen → HeadRead seen ((61 ∷ 61 ∷ 32 ∷ line) ∷ lines) number
unfolding lines_read
head_read seen number line lines inside = grind (arith, behind_read lines seen (plus number 1), heading_read seen (plus number 1) line)

parts_read : (seen : Seen) (number : ℕ) (parts : List (List ℕ)) → IsInside seen → HeadRead seen (onto_first 61 (onto_first 61 (onto_first 32 parts))) number
parts_read seen number parts inside = grind (arith, head_read)

headed_read : (seen : Seen) (number : ℕ) (tail : List ℕ) → IsInside seen → HeadRead seen (lines_of (61 ∷ 61 ∷ 32 ∷ tail)) number
unfolding lines_of
headed_read seen number tail inside = parts_read seen number (slice_split is_feed tail) inside

pub rest_read : (seen : Seen) (number : ℕ) (sections : List Section) → IsInside seen → Rest seen number (flat_map section_text sections)
unfolding lines_read lines_of
rest_read seen number [] inside = record {
  new = quiet seen;
  lines = plus number 1;
  reads = ap (after_line (lines_read []) (plus number 1)) (inside_is seen (plus number 1) [] inside ∙ blank_read seen (plus number 1));
  awaited_is = inside.awaited;
  live_is = refl;
  listed_is = refl;
  owned_is = refl;
  has_is = refl;
  missing_is = ap (λ p. missing_at p (quiet seen) (plus number 1)) inside.place;
}
rest_read seen number (s ∷ sections) inside =
    let head = headed_read seen number (((s.name ++ 10 ∷ []) ++ s.text) ++ flat_map section_text sections) inside in
    let same = behind_same seen in
    record {
      new = behind_of seen;
      lines = head.last;
      reads = head.reads;
      awaited_is = same.awaited_is ∙ inside.awaited;
      live_is = same.live_is;
      listed_is = same.listed_is;
      owned_is = same.owned_is;
      has_is = same.has_is;
      missing_is = behind_missing seen head.last;
    }
