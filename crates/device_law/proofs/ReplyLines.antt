-- The operator's other replies, line by line.
use Rattle.device_law.proofs.Prelude.{◌≡◌, ℕ, ◌+◌, ◌-◌, ◌^◌, ◌<◌, Bool, true, false, cond, List, [], ◌∷◌, ◌++◌, codes, decimal, Option, None, Result, Ok, Err, refl, ap, ◌∙◌, arith, append_assoc, append-nil, is_some, min, before_first, list_all, list_any, decimal_of, begins_with_digit, change_in, is_reply_word, owner_count, Seen, after_line, line_read, lines_of, lines_read, plus, with_change, after_text, first_number, is_space, IsInside}
use Rattle.std.specs.Prelude.{◌||◌}
use Rattle.device_law.proofs.FieldLemmas.{decimal_is, first_is}
use Rattle.device_law.proofs.LineLemmas.{decimal_solid, first_of_lines, is_solid, solid_append}

-- text is read from a state as another one, whatever comes after it
pub record Reads (seen : Seen) (number : ℕ) (text : List ℕ) (new : Seen) : Type 0 where
  pub next : ℕ
  pub reads : (rest : List ℕ) → lines_read (lines_of (text ++ rest)) seen number ≡ lines_read (lines_of rest) new next

pub reads-none : (seen : Seen) (number : ℕ) → Reads seen number [] seen
reads-none seen number = record { next = number; reads = λ rest. refl }

pub reads-append : (seen : Seen) (number : ℕ) (text more : List ℕ) (mid new : Seen) → (first : Reads seen number text mid) → Reads mid first.next more new → Reads seen number (text ++ more) new
reads-append seen number text more mid new first second = grind (arith, append_assoc)

-- what a change of the device leaves of what was read
abbrev pub reset : Seen → ℕ → ℕ → Seen
reset seen number live = record seen { listed = []; owned = []; live = live; changed = number; has_owners = false }

-- a line is one of the operator's replies; it reports a change, after which so many tenancies are
-- live, or none
pub record IsReplyLine (line : List ℕ) (told : Bool) (live : ℕ → ℕ) : Type 0 where
  pub solid : list_all is_solid line ≡ true
  pub digit : begins_with_digit line ≡ false
  pub heading : is_some (after_text (codes "== ") line) ≡ false
  pub count : owner_count line ≡ None
  pub word : is_reply_word (before_first is_space line) ≡ true
  pub told_is : is_some (change_in line) ≡ told
  pub effect : (seen : Seen) (number : ℕ) → with_change seen number (change_in line) ≡ cond told (reset seen number (live seen.live)) seen

-- a line ends a list
abbrev pub quiet : Seen → Seen
quiet seen = record seen { in_list = false }

abbrev pub after_reply : Seen → ℕ → Bool → (ℕ → ℕ) → Seen
after_reply seen number told live = cond told (reset (quiet seen) number (live seen.live)) (quiet seen)

or_right : (a b : Bool) → b ≡ true → (a || b) ≡ true
or_right a b is = grind arith

reply_read : (seen : Seen) (number : ℕ) (line : List ℕ) (told : Bool) (live : ℕ → ℕ) → IsInside seen → IsReplyLine line told live → line_read seen line number ≡ Ok (after_reply seen number told live)
reply_read seen number line told live inside is = grind arith

pub line_reads : (seen : Seen) (number : ℕ) (line : List ℕ) (told : Bool) (live : ℕ → ℕ) → IsInside seen → IsReplyLine line told live → Reads seen number (line ++ 10 ∷ []) (after_reply seen (plus number 1) told live)
unfolding lines_read
line_reads seen number line told live inside is = record {
  next = plus number 1;
  reads = λ rest. ap (λ (t : List ℕ). lines_read (lines_of t) seen number) (append_assoc line (10 ∷ []) rest)
      ∙ ap (λ (ls : List (List ℕ)). lines_read ls seen number) (first_of_lines line rest is.solid)
      ∙ ap (after_line (lines_read (lines_of rest)) (plus number 1)) (reply_read seen (plus number 1) line told live inside is);
}

-- whether a text reports a change
abbrev pub change_lines : List ℕ → Bool
change_lines text = list_any (λ line. is_some (change_in line)) (lines_of text)

pub reports-none : change_lines [] ≡ false
unfolding lines_of change_in after_text
reports-none = refl

pub reports-line : (line rest : List ℕ) (told : Bool) (live : ℕ → ℕ) → IsReplyLine line told live → change_lines (line ++ 10 ∷ rest) ≡ (told || change_lines rest)
reports-line line rest told live is = grind (arith, first_of_lines)

abbrev pub kept : ℕ → ℕ
kept n = n

abbrev pub one_more : ℕ → ℕ
one_more n = min (n + 1) (2 ^ 32 - 1)

abbrev pub one_less : ℕ → ℕ
one_less n = n - 1

-- the words
pub word_ok : IsReplyLine (codes "ok") true one_less
unfolding owner_count after_text change_in
word_ok = record { solid = refl; digit = refl; heading = refl; count = refl; word = refl; told_is = refl; effect = λ seen number. refl }

pub word_advanced : IsReplyLine (codes "advanced") false kept
unfolding owner_count after_text change_in
word_advanced = record { solid = refl; digit = refl; heading = refl; count = refl; word = refl; told_is = refl; effect = λ seen number. refl }

pub word_finished : IsReplyLine (codes "finished") true kept
unfolding owner_count after_text change_in
word_finished = record { solid = refl; digit = refl; heading = refl; count = refl; word = refl; told_is = refl; effect = λ seen number. refl }

pub word_stale : IsReplyLine (codes "stale") false kept
unfolding owner_count after_text change_in
word_stale = record { solid = refl; digit = refl; heading = refl; count = refl; word = refl; told_is = refl; effect = λ seen number. refl }

pub word_full : IsReplyLine (codes "full") false kept
unfolding owner_count after_text change_in
word_full = record { solid = refl; digit = refl; heading = refl; count = refl; word = refl; told_is = refl; effect = λ seen number. refl }

pub word_gone : IsReplyLine (codes "gone") false kept
unfolding owner_count after_text change_in
word_gone = record { solid = refl; digit = refl; heading = refl; count = refl; word = refl; told_is = refl; effect = λ seen number. refl }

pub word_no_memory : IsReplyLine (codes "nomemory") false kept
unfolding owner_count after_text change_in
word_no_memory = record { solid = refl; digit = refl; heading = refl; count = refl; word = refl; told_is = refl; effect = λ seen number. refl }

pub word_none : IsReplyLine (codes "none") false kept
unfolding owner_count after_text change_in
word_none = record { solid = refl; digit = refl; heading = refl; count = refl; word = refl; told_is = refl; effect = λ seen number. refl }

-- a refusal
pub refused_line : (number : ℕ) (name : List ℕ) → number < 2 ^ 32 → list_all is_solid name ≡ true → IsReplyLine (codes "refused" ++ (32 ∷ (decimal number ++ (32 ∷ name)))) false kept
unfolding owner_count after_text change_in
refused_line number name small solid = grind (arith, solid_append, decimal_solid)

-- an admission
pub admitted_line : (id offset : ℕ) → id < 2 ^ 32 → offset < 2 ^ 32 → IsReplyLine (codes "ok" ++ (32 ∷ (decimal id ++ (32 ∷ decimal offset)))) true one_more
unfolding owner_count after_text change_in
admitted_line id offset small near = grind (arith, solid_append, decimal_solid, first_is, decimal_is)

-- a move
pub moved_line : (offset : ℕ) → offset < 2 ^ 32 → IsReplyLine (codes "ok" ++ (32 ∷ decimal offset)) true kept
unfolding owner_count after_text change_in
moved_line offset near = grind (arith, first_is, solid_append, decimal_solid, append-nil (decimal offset), first_is offset [] near tt, solid_append (codes "ok ") (decimal offset) refl (decimal_solid offset near), decimal_solid offset near)

-- a job that is taken
pub taken_line : (number : ℕ) → list_all is_solid (decimal number) ≡ true → IsReplyLine (codes "ok job" ++ (32 ∷ decimal number)) false kept
unfolding owner_count after_text change_in first_number
taken_line number solid = record { solid = solid_append (codes "ok job ") (decimal number) refl solid; digit = refl; heading = refl; count = refl; word = refl; told_is = refl; effect = λ seen number. refl }
