-- What the input's end gives to each name, one name after another.
use Rattle.live_lines.proofs.Prelude.{◌≡◌, ◌≢◌, ℕ, List, [], ◌∷◌, ◌++◌, length, Bool, true, false, ◌&&◌, cond, Option, Some, None, nat_eq, refl, sym, ap, subst, ◌∙◌, arith, append-nil, append_assoc, is_some, slice_get, bytes_eq, Appends, Appends-nil, Appends-trans, false≢true, nat_tests, flat_map-append, list_all-append, bytes_eq-Decides, number_of, Session, is_name, Refused, UnfinishedUpload, TextSoFar, items_to_come, session_refusal_text, Stage, Tagged, with_last_feed, have_tags, is_tag, output_of, tagged_text, told_in, LastName, Missing, Said, IsAnswered, Telling, Tells, Ends, EndsLast, ending_for, open_text_refusal, item_for, items_for, replies_for, reply_for, LiveState, for_name, text_in, texts_of, same}
use Rattle.sessions.specs.declared.told.Answer.TheVariants.{Refused as RefusedAnswer}
use Rattle.live_lines.proofs.AnswerLemmas.{refusal_whole}
use Rattle.live_lines.proofs.EndLemmas.{last_is, last_stays, no_text, others_stay}
use Rattle.live_lines.proofs.LawLemmas.{Tells-append, name_tag, of_itself, told_in-append, turned}

abbrev Text : Type 0
Text = Option TextSoFar

are_same : (a b : List ℕ) → bytes_eq a b ≡ true → a ≡ b
are_same a b e = (bytes_eq-Decides a b).0 e

-- a name is the last one, or another
by_name : {A : Type 0} (name n : List ℕ) → (bytes_eq name n ≡ false → A) → (name ≡ n → A) → A
by_name name n other own = grind (arith, are_same)

-- the text of each name, once the last name is removed
abbrev Stays : List (List ℕ) → List Text → Text → List ℕ → Type 0
Stays names texts t name = text_in names (texts ++ t ∷ []) name ≡ text_in names texts name

pub stay_later : (names : List (List ℕ)) (texts : List Text) (t : Text) (n name : List ℕ) → slice_get names (length texts) ≡ Some n → number_of names n ≢ length texts → Stays names texts t name
stay_later names texts t n name at later =
    by_name name n (λ apart. others_stay names texts t n name at apart)
    (λ own. let P : List ℕ → Type 0 = λ m. Stays names texts t m in subst P (sym own) (last_stays names texts t n at later))

pub stay_unnamed : (names : List (List ℕ)) (texts : List Text) (t : Text) (n name : List ℕ) → slice_get names (length texts) ≡ Some n → is_name n ≡ false → is_name name ≡ true → Stays names texts t name
stay_unnamed names texts t n name at unnamed ok =
    by_name name n (λ apart. others_stay names texts t n name at apart)
    (λ own. absurd (false≢true (sym unnamed ∙ (ap is_name (sym own) ∙ ok))))

pub stay_none : (names : List (List ℕ)) (texts : List Text) (t : Text) (n name : List ℕ) → slice_get names (length texts) ≡ Some n → t ≡ None → Stays names texts t name
stay_none names texts t n name at none =
    elim (nat_eq (number_of names n) (length texts)) as (λ b. nat_eq (number_of names n) (length texts) ≡ b → Stays names texts t name) [
      | true ↦ λ e.
          let first : number_of names n ≡ length texts = grind (arith, nat_tests, e) in
          let last = last_is names texts t n at first in
          by_name name n (λ apart. others_stay names texts t n name at apart)
          (λ own. let P : List ℕ → Type 0 = λ m. Stays names texts t m in subst P (sym own) (last.0 ∙ (none ∙ sym last.1)))
      | false ↦ λ e. stay_later names texts t n name at (λ is. let h : nat_eq (number_of names n) (length texts) ≡ true = grind (arith, nat_tests, is) in false≢true (sym e ∙ h))
    ] refl

none_by : (t : Text) → is_some t ≡ false → t ≡ None
none_by t is = grind arith

-- the last name's text is no longer open, or it isn't a name, or it is there before
pub stay_by : (has named first : Bool) (names : List (List ℕ)) (texts : List Text) (t : Text) (n name : List ℕ) → slice_get names (length texts) ≡ Some n → is_some t ≡ has → is_name n ≡ named → (first ≡ false → number_of names n ≢ length texts) →
    (has && named && first) ≡ false → is_name name ≡ true → Stays names texts t name
stay_by has named first names texts t n name at h2 is number not_all ok = grind (arith, stay_none, stay_unnamed, stay_later)

pub items_stay : (names : List (List ℕ)) (texts : List Text) (t : Text) (name : List ℕ) → Stays names texts t name → items_to_come (text_in names (texts ++ t ∷ []) name) [] ≡ items_to_come (text_in names texts name) []
items_stay names texts t name stays = ap (λ u. items_to_come u []) stays

pub items_end : (names : List (List ℕ)) (texts : List Text) (t : Text) (x : TextSoFar) (n name : List ℕ) → slice_get names (length texts) ≡ Some n → number_of names n ≡ length texts → t ≡ Some x →
    items_to_come (text_in names (texts ++ t ∷ []) name) [] ≡ cond (bytes_eq n name) (Refused UnfinishedUpload ∷ []) [] ++ items_to_come (text_in names texts name) []
items_end names texts t x n name at first is = grind (arith, are_same, turned, last_is names texts t n, others_stay names texts t n name)

-- a name that was removed, and what is left to come
pub items_none : (names : List (List ℕ)) (texts : List Text) (name : List ℕ) → texts ≡ [] → items_to_come (text_in names texts name) [] ≡ []
items_none names texts name none = ap (λ ts. items_to_come (text_in names ts name) []) none ∙ ap (λ u. items_to_come u []) (no_text names name)

-- the names that were removed so far
pub record Ending (start : LiveState) (before : Option (List ℕ)) (stage : Stage) (said : Said) (after : Option (List ℕ)) : Type 0 where
  pub tellings : List Telling
  pub told : List Tagged
  pub stays : stage ≡ start.stage
  pub tells : Tells start.stage tellings start.stage
  pub items : (name : List ℕ) → is_name name ≡ true → items_to_come (start.texts name) [] ≡ items_for name tellings ++ items_to_come (texts_of said name) []
  pub replies : (name : List ℕ) → told_in (64 ∷ name) told ≡ replies_for name tellings
  pub tags : have_tags told ≡ true
  pub writes : Appends before after (output_of told)

pub ending_begins : (stage : Stage) (said : Said) (known : Option (List ℕ)) → Ending (record { stage = stage; texts = texts_of said }) known stage said known
ending_begins stage said known = record {
  tellings = [];
  told = [];
  stays = refl;
  tells = refl;
  items = λ name ok. refl;
  replies = λ name. refl;
  tags = refl;
  writes = Appends-nil known;
}

refusal_answered : (stage : Stage) (name : List ℕ) → IsAnswered stage (Session name (Refused UnfinishedUpload)) [] (session_refusal_text UnfinishedUpload) stage
refusal_answered stage name = (RefusedAnswer UnfinishedUpload, (refl, refl), refl, refl, refl, refl, refl, λ own. tt)

pub ending_refuses : (start : LiveState) (before : Option (List ℕ)) (stage : Stage) (said next : Said) (after then : Option (List ℕ)) (last : LastName) (n : List ℕ) → ((name : List ℕ) → ending_for name last ≡ cond (bytes_eq n name) (Refused UnfinishedUpload ∷ []) []) → is_name n ≡ true →
    Ending start before stage said after → EndsLast said last next → Appends after then (output_of (for_name n (session_refusal_text UnfinishedUpload) ∷ [])) → Ending start before stage next then
ending_refuses start before stage said next after then last n gives named e ends writes =
    let one : List Telling = open_text_refusal n ∷ [] in
    let text : List Tagged = for_name n (session_refusal_text UnfinishedUpload) ∷ [] in
    let W : List ℕ → Type 0 = λ bytes. Appends before then bytes in
    record {
      tellings = e.tellings ++ one;
      told = e.told ++ text;
      stays = e.stays;
      tells = Tells-append start.stage e.tellings start.stage one start.stage e.tells (start.stage, refusal_answered start.stage n, refl);
      items = λ name ok.
          let given = cond (bytes_eq n name) (Refused UnfinishedUpload ∷ []) [] in
          let left = items_to_come (texts_of next name) [] in
          e.items name ok
          ∙ (ap (λ is. items_for name e.tellings ++ is) (ends.items name ok ∙ ap (λ is. is ++ left) (gives name))
          ∙ (sym (append_assoc (items_for name e.tellings) given left)
          ∙ ap (λ is. is ++ left) (sym (flat_map-append (λ (t : Telling). item_for name t.act) e.tellings one ∙ ap (λ is. items_for name e.tellings ++ is) (append-nil given)))));
      replies = λ name.
          told_in-append (64 ∷ name) e.told text
          ∙ (ap (λ r. r ++ told_in (64 ∷ name) text) (e.replies name)
          ∙ (ap (λ b. replies_for name e.tellings ++ (cond b (with_last_feed (session_refusal_text UnfinishedUpload)) [] ++ [])) (of_itself name n named)
          ∙ (ap (λ r. replies_for name e.tellings ++ (cond (bytes_eq n name) r [] ++ [])) (same (session_refusal_text UnfinishedUpload) (refusal_whole UnfinishedUpload))
          ∙ sym (flat_map-append (λ (t : Telling). reply_for name t.act t.text) e.tellings one))));
      tags = list_all-append (λ (t : Tagged). is_tag t.tag) e.told text ∙ (ap (λ b. b && have_tags text) e.tags ∙ ap (λ b. b && true) (name_tag n named));
      writes = subst W (sym (flat_map-append (λ (t : Tagged). tagged_text t.tag t.text) e.told text)) (Appends-trans before after then (output_of e.told) (output_of text) e.writes writes);
    }

pub all_end : (start : LiveState) (before : Option (List ℕ)) (stage : Stage) (said next : Said) (after : Option (List ℕ)) (last : LastName) → last ≡ Missing → Ending start before stage said after → EndsLast said last next → Ends start before after
all_end start before stage said next after last is e ends = grind (arith, append-nil)

pub last_open : (has named first : Bool) (names : List (List ℕ)) (texts : List Text) (t : Text) (n name : List ℕ) → slice_get names (length texts) ≡ Some n → is_some t ≡ has → (first ≡ true → number_of names n ≡ length texts) → (has && named && first) ≡ true →
    items_to_come (text_in names (texts ++ t ∷ []) name) [] ≡ cond (bytes_eq n name) (Refused UnfinishedUpload ∷ []) [] ++ items_to_come (text_in names texts name) []
last_open has named first names texts t n name at h2 number all = grind (arith, items_end)

pub all_named : (has named first : Bool) → (has && named && first) ≡ true → named ≡ true
all_named has named first all = grind arith
