-- A reply that is read line by line.
use Rattle.front_lines.proofs.Prelude.{◌≡◌, ℕ, List, [], ◌∷◌, ◌++◌, Bool, true, false, not, ◌&&◌, cond, map, Option, refl, sym, ap, ◌∙◌, arith, list_all, Consumes-trans, fold-append, IsKept, kept_of, lines_push, not_false, whole_lines, both, is_last, told_after, own_text, Speaker, ends_reply, HasLine, HasReply, HasSeen}

abbrev goes_on : Speaker → List ℕ → Bool
goes_on who line = not (is_last who line)

-- lines of a reply whose end is not seen yet
pub record Following (who : Speaker) (old now : Option (List ℕ)) (kept reply : List ℕ) : Type 0 where
  pub seen : List (List ℕ)
  pub saw : HasSeen old now kept seen
  pub none_last : list_all (goes_on who) (map kept_of seen) ≡ true
  pub reply_is : reply ≡ own_text who (map kept_of seen)

pub kept_push : (lines : List (List ℕ)) (line : List ℕ) → map kept_of (lines ++ line ∷ []) ≡ map kept_of lines ++ kept_of line ∷ []
kept_push [] line = refl
kept_push (x ∷ lines) line = ap (λ ls. kept_of x ∷ ls) (kept_push lines line)

pub own_push : (who : Speaker) (lines : List (List ℕ)) (line : List ℕ) → own_text who (lines ++ line ∷ []) ≡ told_after who (own_text who lines) line
own_push who lines line = fold-append (told_after who) [] lines (line ∷ [])

pub saw_line : (old now next : Option (List ℕ)) (kept kept_then kept_next : List ℕ) (seen : List (List ℕ)) → HasSeen old now kept seen → (h : HasLine now next kept kept_then) → IsKept kept_next [] → HasSeen old next kept_next (seen ++ h.part ∷ [])
saw_line old now next kept kept_then kept_next seen s h begins = grind (arith, lines_push, whole_lines, Consumes-trans)

all_push : (p : List ℕ → Bool) (lines : List (List ℕ)) (line : List ℕ) → list_all p lines ≡ true → p line ≡ true → list_all p (lines ++ line ∷ []) ≡ true
all_push p [] line are is = ap (λ b. b && true) is
all_push p (x ∷ lines) line are is =
    let parts = both (p x) (list_all p lines) are in
    ap (λ b. b && list_all p (lines ++ line ∷ [])) parts.0 ∙ all_push p lines line parts.1 is

ends_with : (who : Speaker) (lines : List (List ℕ)) (line : List ℕ) → list_all (goes_on who) lines ≡ true → is_last who line ≡ true → ends_reply who (lines ++ line ∷ []) ≡ true
ends_with who [] line are is = is
ends_with who (x ∷ []) line are is =
    let parts = both (goes_on who x) true are in
    ap (λ b. cond b false (is_last who line)) (not_false (is_last who x) parts.0) ∙ is
ends_with who (x ∷ y ∷ lines) line are is =
    let parts = both (goes_on who x) (list_all (goes_on who) (y ∷ lines)) are in
    ap (λ b. cond b false (ends_reply who (y ∷ lines ++ line ∷ []))) (not_false (is_last who x) parts.0) ∙ ends_with who (y ∷ lines) line parts.1 is

abbrev grown : Speaker → List ℕ → List ℕ → List ℕ → Type 0
grown who reply line reply_then = reply_then ≡ told_after who reply line

text_grows : (who : Speaker) (reply reply_then line : List ℕ) (seen : List (List ℕ)) (part : List ℕ) → reply ≡ own_text who (map kept_of seen) → grown who reply line reply_then → line ≡ kept_of part → reply_then ≡ own_text who (map kept_of (seen ++ part ∷ []))
text_grows who reply reply_then line seen part is more same = grind (arith, own_push, kept_push)

pub following_more : (who : Speaker) (old now next : Option (List ℕ)) (kept line kept_next reply reply_then : List ℕ) (last : Bool) → Following who old now kept reply → HasLine now next kept line → IsKept kept_next [] → grown who reply line reply_then → last ≡ is_last who line → last ≡ false → Following who old next kept_next reply_then
following_more who old now next kept line kept_next reply reply_then last f h begins more is none =
    let same : line ≡ kept_of h.part = h.line [] f.saw.begins in
    let goes : goes_on who (kept_of h.part) ≡ true = ap (λ l. goes_on who l) (sym same) ∙ ap not (sym is ∙ none) in
    record {
      seen = f.seen ++ h.part ∷ [];
      saw = saw_line old now next kept line kept_next f.seen f.saw h begins;
      none_last = ap (list_all (goes_on who)) (kept_push f.seen h.part) ∙ all_push (goes_on who) (map kept_of f.seen) (kept_of h.part) f.none_last goes;
      reply_is = text_grows who reply reply_then line f.seen h.part f.reply_is more same;
    }

pub reply_ends : (who : Speaker) (old now next : Option (List ℕ)) (kept line kept_next reply reply_then : List ℕ) (last : Bool) → Following who old now kept reply → HasLine now next kept line → IsKept kept_next [] → grown who reply line reply_then → last ≡ is_last who line → last ≡ true → HasReply who old next kept_next reply_then
reply_ends who old now next kept line kept_next reply reply_then last f h begins more is whole =
    let same : line ≡ kept_of h.part = h.line [] f.saw.begins in
    let ends : is_last who (kept_of h.part) ≡ true = ap (is_last who) (sym same) ∙ (sym is ∙ whole) in
    record {
      seen = f.seen ++ h.part ∷ [];
      saw = saw_line old now next kept line kept_next f.seen f.saw h begins;
      ends = ap (ends_reply who) (kept_push f.seen h.part) ∙ ends_with who (map kept_of f.seen) (kept_of h.part) f.none_last ends;
      reply_is = text_grows who reply reply_then line f.seen h.part f.reply_is more same;
    }
