-- The lines that the machine makes itself.
use Rattle.live_machine.proofs.Prelude.{◌≡◌, ℕ, zero, suc, ◌+◌, ◌≤◌, eqb, take, List, [], ◌∷◌, ◌++◌, codes, length, Bool, true, false, not, ◌&&◌, refl, ap, ◌∙◌, lit<, arith, append-nil, length-append, nat_lt, list_all, decimal_digit, bytes_eq, take_all, bytes_eq-Decides, is_name, is_name_byte, without_cr, line_form, is_one_line, kept_of, id_of, is_good_id, is_of, is_tag, owner_of, rest_of, tag_of, tagged_text, both, rest_is, tag_is, both_lines, LiveState, asked_of, NoForm, Says, named, named_of, not_10, of_name_tag, says, IsSaidBy, form_of, is_wait, IsLine, IsStatusFor, is_by_hand, NeedNotWait, nomemory_reply}
use Rattle.std.specs.Prelude.{IfOk, Result, nat_le}
use Rattle.live_machine.proofs.TagLengths.{is_short}

-- a name is short, and no byte of it ends a line
bytes_line : (name : List ℕ) → list_all is_name_byte name ≡ true → is_one_line name ≡ true
bytes_line [] ok = refl
bytes_line (b ∷ name) ok =
    let parts = both (is_name_byte b) (list_all is_name_byte name) ok in
    ap (λ v. not v && is_one_line name) (not_10 b parts.0) ∙ bytes_line name parts.1

name_line : (name : List ℕ) → is_name name ≡ true → is_one_line name ≡ true
name_line name ok = bytes_line name (both (nat_lt 0 (length name) && nat_le (length name) 32) (list_all is_name_byte name) ok).1

name_short : (name : List ℕ) → is_name name ≡ true → length name ≤ 32
name_short name ok = grind arith

kept_whole : (text : List ℕ) → length text ≤ 1048640 → kept_of text ≡ text
unfolding kept_of
kept_whole text short = take_all 1048640 text short

-- a short text without LF is a line
line_of : (text : List ℕ) → is_one_line text ≡ true → length text ≤ 1048640 → IsLine text
line_of text one short = record { kept = kept_whole text short; one = one }

pub name_in_line : (before name after : List ℕ) → is_name name ≡ true → is_one_line before ≡ true → is_one_line after ≡ true → length before + length after ≤ 1000 → IsLine (before ++ (name ++ after))
name_in_line before name after ok first last few = grind (arith, length-append, line_of, both_lines, name_line)

-- a line after `? ` has no form
pub after_mark : (line : List ℕ) → IsLine line → length line ≤ 1048638 → IsLine (63 ∷ 32 ∷ (line ++ []))
after_mark line is short = grind (arith, append-nil, line_of)

pub mark_alone : IsLine (63 ∷ [])
mark_alone = line_of (63 ∷ []) refl (omega arith)

pub no_form : (line : List ℕ) → asked_of (63 ∷ 32 ∷ line) ≡ NoForm
no_form line = refl

-- `status` with a tag
abbrev pub status_text : List ℕ → List ℕ
status_text tag = tag ++ codes " status"

one_start : (n : ℕ) (line : List ℕ) → is_one_line line ≡ true → is_one_line (take n line) ≡ true
one_start zero line one = refl
one_start (suc n) [] one = refl
one_start (suc n) (b ∷ line) one =
    let parts = both (not (eqb b 10)) (is_one_line line) one in
    ap (λ v. v && is_one_line (take n line)) parts.0 ∙ one_start n line parts.1

-- what a line of a name asks says of its tag
record HasTagOf (name line : List ℕ) : Type 0 where
  named : is_name name ≡ true
  owner : owner_of (tag_of line) ≡ 64 ∷ name
  good : is_good_id (id_of (tag_of line)) ≡ true
  tag : is_tag (tag_of line) ≡ true
  one : is_one_line (tag_of line) ≡ true

has_tag_of : (name line : List ℕ) → IsSaidBy name line → HasTagOf name line
has_tag_of name line said = grind (arith, named, of_name_tag, one_start)

status_tag : (name line : List ℕ) → HasTagOf name line → tag_of (status_text (tag_of line)) ≡ tag_of line
status_tag name line has = tag_is (tag_of line) (codes "status") has.tag

status_rest : (name line : List ℕ) → HasTagOf name line → rest_of (status_text (tag_of line)) ≡ codes "status"
status_rest name line has = rest_is (tag_of line) (codes "status") has.tag

status_asks : (name line : List ℕ) → HasTagOf name line → asked_of (status_text (tag_of line)) ≡ Says name (codes "status")
status_asks name line has =
    let tag = tag_of line in
    says name (status_text tag) has.named (ap (is_of (64 ∷ name)) (status_tag name line has) ∙ named_of tag name [] (has.named, has.owner, has.good))
    ∙ ap (λ r. Says name r) (status_rest name line has)

pub status_for : (name line : List ℕ) → IsSaidBy name line → IsStatusFor name line (status_text (tag_of line))
status_for name line said = let has = has_tag_of name line said in (status_asks name line has, status_tag name line has)

pub status_by_hand : (name line : List ℕ) → IsSaidBy name line → is_by_hand (asked_of (status_text (tag_of line))) ≡ false
status_by_hand name line said = ap is_by_hand (status_asks name line (has_tag_of name line said))

pub status_line : (name line : List ℕ) → IsSaidBy name line → IsLine (status_text (tag_of line))
status_line name line said = grind (arith, is_short, length-append, line_of, both_lines, has_tag_of name line said)

status_is_no_wait : (name line : List ℕ) → HasTagOf name line → is_wait (form_of (status_text (tag_of line))) ≡ false
status_is_no_wait name line has = ap (λ r. is_wait (line_form (without_cr r))) (status_rest name line has)

and_none : (a b c : Bool) → b ≡ false → a && (b && c) ≡ false
and_none a b c none = grind arith

pub status_need_not : (live : LiveState) (name line : List ℕ) → IsSaidBy name line → NeedNotWait live (asked_of (status_text (tag_of line))) (status_text (tag_of line))
status_need_not live name line said = grind (arith, and_none, status_is_no_wait, has_tag_of name line said)

-- the reply that memory ran out
pub nomemory_is : (name : List ℕ) → nomemory_reply name ≡ codes "op lines 1" ++ 10 ∷ (codes "op nomemory" ++ 10 ∷ [])
nomemory_is name = ap (λ d. tagged_text (codes "op") (codes "lines " ++ d) ++ (codes "op nomemory" ++ 10 ∷ [])) (decimal_digit 1 (lit< tt))

pub if_ok : {A E : Type 0} {P Q : A → Type 0} → (r : Result A E) → ((x : A) → P x → Q x) → IfOk r P → IfOk r Q
if_ok r f p = grind arith
