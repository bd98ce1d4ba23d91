-- A line that is read byte by byte.
use Rattle.session_threads.proofs.Prelude.{◌≡◌, ℕ, List, [], ◌∷◌, ◌++◌, Bool, true, not, ◌&&◌, ◌==◌, Option, Some, None, Ok, Err, arith, nat_tests, Consumes, Keeps, Failed, LineFeed, Input, GivesByte, ReadsLine, is_one_line, IsLine, LineSoFar}
use Rattle.session_threads.proofs.KnownLemmas.{consumes_both, consumes_kept, keeps_consumes}

-- the bytes of a line so far
pub record Reading (old now : Option (List ℕ)) (kept : LineSoFar) : Type 0 where
  pub bytes : List ℕ
  pub one : is_one_line bytes ≡ true
  pub line : IsLine kept bytes
  pub read : Consumes old now bytes

and_more : (p q r : Bool) → (p && q) ≡ true → (q ≡ true → r ≡ true) → (p && r) ≡ true
and_more p q r both more = grind arith

one_more : (bytes : List ℕ) (b : ℕ) → is_one_line bytes ≡ true → (b ≡ 10 → ⊥) → is_one_line (bytes ++ b ∷ []) ≡ true
one_more [] b one apart = grind (arith, nat_tests, apart)
one_more (c ∷ bytes) b one apart = and_more (not (c == 10)) (is_one_line bytes) (is_one_line (bytes ++ b ∷ [])) one (λ e. one_more bytes b e apart)

pub reads_more : (old now next : Option (List ℕ)) (kept more : LineSoFar) (b : ℕ) → Reading old now kept → (b ≡ 10 → ⊥) → GivesByte now next (Ok (Some b)) → ((line : List ℕ) → IsLine kept line → IsLine more (line ++ b ∷ [])) → Reading old next more
reads_more old now next kept more b r apart gives takes = search (one_more, consumes_both, arith)

pub line_ends : (old now next : Option (List ℕ)) (kept : LineSoFar) → Reading old now kept → GivesByte now next (Ok (Some 10)) → ReadsLine old next kept (Ok LineFeed)
line_ends old now next kept r gives = (r.bytes, r.one, r.line, consumes_both old now next r.bytes (10 ∷ []) r.read gives)

pub input_ends : (old now next : Option (List ℕ)) (kept : LineSoFar) → Reading old now kept → GivesByte now next (Ok None) → ReadsLine old next kept (Ok Input)
input_ends old now next kept r gives = (r.bytes, r.one, r.line, (consumes_kept old now next r.bytes r.read gives.0, gives.1))

pub line_fails : (old now next : Option (List ℕ)) (kept : LineSoFar) (failed : Failed) → Reading old now kept → Keeps now next → ReadsLine old next kept (Err failed)
line_fails old now next kept failed r keeps = (r.bytes, r.one, r.line, consumes_kept old now next r.bytes r.read (keeps_consumes now next keeps))
