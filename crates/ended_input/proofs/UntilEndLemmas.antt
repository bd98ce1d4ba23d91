-- An input that ends at its first line `op end`.
use Rattle.std.proofs.Common.{◌≡◌, ℕ, zero, suc, ◌+◌, ◌<◌, List, [], ◌∷◌, ◌++◌, length, take, drop, Bool, true, false, Option, Some, refl, sym, ap, subst, ◌∙◌, arith, append-nil, append_assoc, take-take, ◌-◌, length-take, length-append, length-drop}
use Rattle.ended_input.specs.declared.until_end.Seen.TheVariants.{Beginning, Other}
use Rattle.std.specs.Prelude.{slice_index_or, ◌==◌, nat_eq, option_map}
use Rattle.std.specs.List.{starts_with}
use Rattle.std.specs.Io.KnownBytes.{Consumes, IsAtEnd, Keeps, ReadConsumes}
use Rattle.std.specs.Prelude.{IfOk, Result, Ok, Err}
use Rattle.std.specs.Counts.{IsPrefixLen}
use Rattle.std.proofs.lemmas.Bool.Decides.{nat_tests}
use Rattle.std.proofs.lemmas.List.{take-append-drop, take_all}
use Rattle.std.proofs.Math.Seq.{take-append_seam}
use Rattle.std.proofs.lemmas.Slice.Eq.{bytes_eq-Decides}
use Rattle.ended_input.specs.UntilEnd.{Fills, Gives, IsCut, IsSeen, before_end, end_line, held_bytes, left_of}

pub same_prefix : (xs n : List ℕ) → true ≡ starts_with nat_eq xs n → n ≡ take (length n) xs
same_prefix xs n is = (bytes_eq-Decides n (take (length n) xs)).0 (sym is)

-- it is not, and what is there is no beginning of it
not_then : (bytes more : List ℕ) → false ≡ starts_with nat_eq bytes end_line → (length bytes < 7 → false ≡ starts_with nat_eq end_line bytes) → starts_with nat_eq (bytes ++ more) end_line ≡ false
not_then bytes more none short = grind (arith, nat_tests)

-- a byte is given
pub step : (start : Bool) (b : ℕ) (rest more : List ℕ) → (start ≡ true → starts_with nat_eq ((b ∷ rest) ++ more) end_line ≡ false) → before_end start ((b ∷ rest) ++ more) ≡ b ∷ before_end (b == 10) (rest ++ more)
step start b rest more none = grind arith

-- the line comes
over : (bytes more : List ℕ) → starts_with nat_eq (bytes ++ more) end_line ≡ true → before_end true (bytes ++ more) ≡ []
over bytes more is = grind arith

-- what is before that place is given
abbrev pub CutsAt : Bool → List ℕ → ℕ → Bool → Type 0
CutsAt start bytes place now = (more : List ℕ) → before_end start (bytes ++ more) ≡ take place bytes ++ before_end now (drop place bytes ++ more)

next_take : (bytes rest : List ℕ) (place b : ℕ) → place < length bytes → drop place bytes ≡ b ∷ rest → take (place + 1) bytes ≡ take place bytes ++ b ∷ []
next_take bytes rest place b within is = grind (arith, append_assoc, length-append, length-take, take-append_seam, take-append-drop place bytes, append_assoc (take place bytes) (b ∷ []) rest, length-append (take place bytes) (b ∷ []), length-take place bytes)

-- a byte is given
pub cuts_next : (start now : Bool) (bytes rest : List ℕ) (place b : ℕ) → place < length bytes → drop place bytes ≡ b ∷ rest → drop (place + 1) bytes ≡ rest → (now ≡ true → (false ≡ starts_with nat_eq (drop place bytes) end_line) × (length (drop place bytes) < 7 → false ≡ starts_with nat_eq end_line (drop place bytes))) → CutsAt start bytes place now → CutsAt start bytes (place + 1) (b == 10)
cuts_next start now bytes rest place b within is next none cuts more =
    let P : List ℕ → Type 0 = λ l. starts_with nat_eq (l ++ more) end_line ≡ false in
    let free : now ≡ true → starts_with nat_eq ((b ∷ rest) ++ more) end_line ≡ false = λ at. subst P is (not_then (drop place bytes) more (none at).0 (none at).1) in
    cuts more
    ∙ (ap (λ l. take place bytes ++ before_end now (l ++ more)) is
    ∙ (ap (λ l. take place bytes ++ l) (step now b rest more free)
    ∙ (sym (append_assoc (take place bytes) (b ∷ []) (before_end (b == 10) (rest ++ more)))
    ∙ (ap (λ l. l ++ before_end (b == 10) (rest ++ more)) (sym (next_take bytes rest place b within is))
    ∙ ap (λ l. take (place + 1) bytes ++ before_end (b == 10) (l ++ more)) (sym next)))))

-- the beginning of such a line comes
pub cuts_held : (start : Bool) (bytes : List ℕ) (place held : ℕ) → place < length bytes → held ≡ length (drop place bytes) → true ≡ starts_with nat_eq end_line (drop place bytes) → CutsAt start bytes place true → IsCut start bytes place false true held
cuts_held start bytes place held within all is cuts = grind (arith, same_prefix)

-- bytes that were cut are consumed
consumes_cut : (start over after : Bool) (held count given later : ℕ) (old new : Option (List ℕ)) (buffer : List ℕ) → Fills held old new count buffer → IsCut start (take (held + count) buffer) given over after later → Consumes (option_map (left_of false start held) old) (option_map (left_of over after later) new) (take given buffer)
consumes_cut start over after held count given later old new buffer f c = grind (arith, length-take, append_assoc, take-take)

at_end : (start : Bool) (held : ℕ) (known : Option (List ℕ)) → IsAtEnd (option_map (left_of true start held) known)
at_end start held known = grind arith

-- all that came is held back
pub gives_none : (start after : Bool) (held count given later : ℕ) (old new : Option (List ℕ)) (buffer : List ℕ) → given ≡ 0 → Fills held old new count buffer → IsCut start (take (held + count) buffer) given false after later → Keeps (option_map (left_of false start held) old) (option_map (left_of false after later) new)
gives_none start after held count given later old new buffer none f c = grind (arith, consumes_cut start false after held count given later old new buffer f c)

-- the input is at its end: what was held back is given
pub gives_end : (start : Bool) (held count : ℕ) (old new : Option (List ℕ)) (buffer : List ℕ) → held < 7 → count ≡ 0 → Fills held old new count buffer → Gives (option_map (left_of false start held) old) (option_map (left_of true start held) new) (Some held) buffer
gives_end start held count old new buffer few none f = grind (arith, length-append, append-nil, at_end, length-take held end_line, length-append (held_bytes held) f.bytes, length-take held buffer, append-nil (held_bytes held), at_end start held new)

-- a slice to the end
pub rest_is : (bytes : List ℕ) (place : ℕ) → take (length bytes - place) (drop place bytes) ≡ drop place bytes
rest_is bytes place = take_all (length bytes - place) (drop place bytes) (omega (arith, length-drop place bytes))

drop_at : (bytes : List ℕ) (place : ℕ) → place < length bytes → drop place bytes ≡ slice_index_or bytes place 0 ∷ drop (suc place) bytes
drop_at [] place within = absurd (omega (arith, within))
drop_at (b ∷ bytes) zero within = refl
drop_at (b ∷ bytes) (suc place) within = drop_at bytes place (omega (arith, within))

pub cuts_next_place : (start now : Bool) (bytes : List ℕ) (place : ℕ) → place < length bytes → IsSeen now (take (length bytes - place) (drop place bytes)) Other → CutsAt start bytes place now → CutsAt start bytes (place + 1) (nat_eq (slice_index_or bytes place 0) 10)
cuts_next_place start now bytes place within seen cuts =
    let P : List ℕ → Type 0 = λ l. IsSeen now l Other in
    let one : place + 1 ≡ suc place = omega arith in
    cuts_next start now bytes (drop (suc place) bytes) place (slice_index_or bytes place 0) within (drop_at bytes place within) (ap (λ n. drop n bytes) one) (subst P (rest_is bytes place) seen) cuts

pub seen_held : (start now : Bool) (bytes : List ℕ) (place held : ℕ) → place < length bytes → held ≡ length (take (length bytes - place) (drop place bytes)) → IsSeen now (take (length bytes - place) (drop place bytes)) Beginning → CutsAt start bytes place now → IsCut start bytes place false true held
seen_held start now bytes place held within all seen cuts =
    let P : List ℕ → Type 0 = λ l. IsSeen now l Beginning in
    let C : Bool → Type 0 = λ b. CutsAt start bytes place b in
    let own = subst P (rest_is bytes place) seen in
    cuts_held start bytes place held within (all ∙ ap length (rest_is bytes place)) own.2 (subst C own.0 cuts)

-- the buffer after what is held back was put into it, and a read
pub fills : {E : Type 0} (held : ℕ) (front rest read tail : List ℕ) (old new : Option (List ℕ)) (result : Result ℕ E) → front ≡ held_bytes held → length front ≡ held → 0 < length read → IfOk result (λ n. IsPrefixLen n read) → ReadConsumes old new result read → IfOk result (λ count. Fills held old new count (take held (front ++ rest) ++ (read ++ tail)))
fills held front rest read tail old new (Err e) is long some within reads = tt
fills held front rest read tail old new (Ok n) is long some prefix reads = grind (arith, take-append_seam, append_assoc, length-append, length-take, take-append_seam front rest, take-append-drop n read, append_assoc (take n read) (drop n read) tail, length-append front (take n read), length-take n read, length-append (take held (front ++ rest)) (read ++ tail), length-append read tail)

pub kept_same : (a : Option (List ℕ)) → Keeps a a
kept_same a = grind arith
