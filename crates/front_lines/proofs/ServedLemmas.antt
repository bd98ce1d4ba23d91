-- A client that is served.
use Rattle.front_lines.proofs.Prelude.{◌⊎◌, inl, inr, ◌≡◌, ℕ, suc, ◌+◌, List, [], ◌∷◌, ◌++◌, length, take, Bool, true, ◌&&◌, map, Option, refl, sym, ap, ◌∙◌, subst, arith, append-nil, append_assoc, flat_map, list_all, Appends, Consumes, Keeps, prepend_known, Appends-nil, Appends-trans, Consumes-kept, Consumes-trans, Consumes-whole, flat_map-append, IsKept, is_one_line, kept_of, ended_lines, ended_then, lines_push, none_ended, whole_lines, with_feed, both, Speaker, ClientState, handed as all_handed, handed_for, item_of, state_after, state_from, AreTold, Asks, told_for, HasLine, HasPaused, HasSeen, HasServed, HasServedAll, TakesTurn, TellsNothing, TellsPart}
use Rattle.front_lines.proofs.ReplyLemmas.{kept_push}

-- what one more line adds
handed_push : (who : Speaker) (state : ClientState) (lines : List (List ℕ)) (line : List ℕ) → all_handed who state (lines ++ line ∷ []) ≡ all_handed who state lines ++ handed_for who (item_of (state_from state lines) line)
handed_push who state [] line = append-nil (handed_for who (item_of state line))
handed_push who state (x ∷ lines) line = grind (arith, append_assoc, handed_push who (state_after state x) lines line)

state_push : (state : ClientState) (lines : List (List ℕ)) (line : List ℕ) → state_from state (lines ++ line ∷ []) ≡ state_after (state_from state lines) line
state_push state [] line = refl
state_push state (x ∷ lines) line = state_push (state_after state x) lines line

told_push : (who : Speaker) (state : ClientState) (lines : List (List ℕ)) (line : List ℕ) (seen own : List (List ℕ)) (text : List ℕ) → AreTold who state lines seen text → Asks who (item_of (state_from state lines) line) own →
    AreTold who state (lines ++ line ∷ []) (seen ++ own) (text ++ told_for who (item_of (state_from state lines) line) own)
told_push who state [] line seen own text (none, silent) asks = grind (arith, append-nil)
told_push who state (x ∷ lines) line seen own text (first, others, later, asked, see, tell, rest) asks = grind (arith, append_assoc, told_push who (state_after state x) lines line others own later rest asks)

kept_append : (lines more : List (List ℕ)) → map kept_of (lines ++ more) ≡ map kept_of lines ++ map kept_of more
kept_append [] more = refl
kept_append (x ∷ lines) more = ap (λ ls. kept_of x ∷ ls) (kept_append lines more)

all_append : (p : List ℕ → Bool) (lines more : List (List ℕ)) → list_all p lines ≡ true → list_all p more ≡ true → list_all p (lines ++ more) ≡ true
all_append p [] more are others = others
all_append p (x ∷ lines) more are others =
    let parts = both (p x) (list_all p lines) are in
    ap (λ b. b && list_all p (lines ++ more)) parts.0 ∙ all_append p lines more parts.1 others

seen_append : (old now next : Option (List ℕ)) (kept kept_next : List ℕ) (seen more : List (List ℕ)) → HasSeen old now kept seen → HasSeen now next kept_next more → HasSeen old next kept_next (seen ++ more)
seen_append old now next kept kept_next seen more s m = grind (arith, all_append, flat_map-append, Consumes-trans)

-- a beginning of what follows a text
take_past : (text more : List ℕ) (n : ℕ) → take (length text + n) (text ++ more) ≡ text ++ take n more
take_past [] more n = let e : 0 + n ≡ n = omega arith in ap (λ m. take m more) e
take_past (x ∷ text) more n =
    let e : suc (length text) + n ≡ suc (length text + n) = omega arith in
    ap (λ m. take m (x ∷ (text ++ more))) e ∙ ap (λ l. x ∷ l) (take_past text more n)

take_whole : (text : List ℕ) → take (length text) text ≡ text
take_whole [] = refl
take_whole (x ∷ text) = ap (λ l. x ∷ l) (take_whole text)

appends_part : (old now next : Option (List ℕ)) (text more : List ℕ) (n : ℕ) → Appends old now text → Appends now next (take n more) → Appends old next (take (length text + n) (text ++ more))
appends_part old now next text more n first then = grind (arith, take_past, Appends-trans)

appends_none : (old now next : Option (List ℕ)) (text : List ℕ) → Appends old now text → Appends now next [] → Appends old next text
appends_none old now next text first none = grind (arith, append-nil)

pub appends_whole : (old new : Option (List ℕ)) (text : List ℕ) → Appends old new text → Appends old new (take (length text) text)
appends_whole old new text is = let A : List ℕ → Type 0 = λ bytes. Appends old new bytes in subst A (sym (take_whole text)) is

nothing_ahead : (left : Option (List ℕ)) (ahead : List ℕ) → ahead ≡ [] → Consumes left (prepend_known ahead left) []
nothing_ahead left ahead none = grind arith

pub keeps_on : (old new : Option (List ℕ)) (ahead ahead_then : List ℕ) → ahead_then ≡ ahead → Keeps old new → Keeps (prepend_known ahead old) (prepend_known ahead_then new)
keeps_on old new ahead ahead_then same keeps = grind arith

-- the lines so far were answered
pub record Progress (who : Speaker) (state : ClientState) (client client_now requests requests_now replies replies_now : Option (List ℕ)) (kept : List ℕ) (output output_now : Option (List ℕ)) (state_now : ClientState) : Type 0 where
  pub lines : List (List ℕ)
  pub are_lines : list_all is_one_line lines ≡ true
  pub read : Consumes client client_now (flat_map with_feed lines)
  pub handed : Appends requests requests_now (all_handed who state (map kept_of lines))
  pub seen : List (List ℕ)
  pub saw : HasSeen replies replies_now kept seen
  pub text : List ℕ
  pub told : AreTold who state (map kept_of lines) (map kept_of seen) text
  pub written : Appends output output_now text
  pub is_at : state_now ≡ state_from state (map kept_of lines)

pub progress_none : (who : Speaker) (state : ClientState) (client requests replies output : Option (List ℕ)) (ahead replies_ahead kept : List ℕ) → ahead ≡ [] → replies_ahead ≡ [] → IsKept kept [] →
    Progress who state client (prepend_known ahead client) requests requests replies (prepend_known replies_ahead replies) kept output output state
progress_none who state client requests replies output ahead replies_ahead kept none nothing begins = record {
  lines = [];
  are_lines = refl;
  read = nothing_ahead client ahead none;
  handed = Appends-nil requests;
  seen = [];
  saw = record { are_lines = refl; consumes = nothing_ahead replies replies_ahead nothing; begins = begins };
  text = [];
  told = (refl, refl);
  written = Appends-nil output;
  is_at = refl;
}

abbrev more_lines : List (List ℕ) → List ℕ → List (List ℕ)
more_lines lines part = lines ++ part ∷ []

lines_answered : (who : Speaker) (state state_now : ClientState) (lines seen own : List (List ℕ)) (part line text told : List ℕ) → state_now ≡ state_from state (map kept_of lines) → line ≡ kept_of part → AreTold who state (map kept_of lines) (map kept_of seen) text →
    Asks who (item_of state_now line) (map kept_of own) → told ≡ told_for who (item_of state_now line) (map kept_of own) → AreTold who state (map kept_of (more_lines lines part)) (map kept_of (seen ++ own)) (text ++ told)
lines_answered who state state_now lines seen own part line text told at is before asks told_is = grind (arith, told_push, kept_append)

lines_handed : (who : Speaker) (state state_now : ClientState) (lines : List (List ℕ)) (part line : List ℕ) → state_now ≡ state_from state (map kept_of lines) → line ≡ kept_of part →
    all_handed who state (map kept_of (more_lines lines part)) ≡ all_handed who state (map kept_of lines) ++ handed_for who (item_of state_now line)
lines_handed who state state_now lines part line at is = grind (arith, kept_push, handed_push)

lines_read : (client client_now client_then : Option (List ℕ)) (lines : List (List ℕ)) (part : List ℕ) → Consumes client client_now (flat_map with_feed lines) → Consumes client_now client_then (with_feed part) → Consumes client client_then (flat_map with_feed (more_lines lines part))
lines_read client client_now client_then lines part before ended = grind (arith, whole_lines, Consumes-trans)

module _ (who : Speaker) (state : ClientState) (client client_now requests requests_now replies replies_now : Option (List ℕ)) (kept : List ℕ) (output output_now : Option (List ℕ)) (state_now : ClientState)
    (p : Progress who state client client_now requests requests_now replies replies_now kept output output_now state_now) where
  -- one more line is answered
  pub progress_more : (client_then client_next requests_next replies_next : Option (List ℕ)) (begun line kept_next : List ℕ) (output_then output_next left left_then : Option (List ℕ)) (state_next : ClientState) → IsKept begun [] → HasLine client_now client_then begun line → Appends output_now output_then [] →
      TakesTurn who state_now line requests_now requests_next replies_now replies_next kept_next left left_then output_then output_next → Keeps client_then client_next → state_next ≡ state_after state_now line →
      Progress who state client client_next requests requests_next replies replies_next kept_next output output_next state_next
  progress_more client_then client_next requests_next replies_next begun line kept_next output_then output_next left left_then state_next begins h silent t keeps after =
      let is : line ≡ kept_of h.part = h.line [] begins in
      let last = state_from state (map kept_of p.lines) in
      let A : List ℕ → Type 0 = λ bytes. Appends requests requests_next bytes in
      record {
        lines = more_lines p.lines h.part;
        are_lines = lines_push p.lines h.part p.are_lines h.one;
        read = Consumes-kept client client_then client_next _ (lines_read client client_now client_then p.lines h.part p.read h.consumes) keeps;
        handed = subst A (sym (lines_handed who state state_now p.lines h.part line p.is_at is)) (Appends-trans requests requests_now requests_next _ _ p.handed t.answers.handed);
        seen = p.seen ++ t.answers.seen;
        saw = seen_append replies replies_now replies_next kept kept_next p.seen t.answers.seen p.saw t.answers.saw;
        text = p.text ++ t.told;
        told = lines_answered who state state_now p.lines p.seen t.answers.seen h.part line p.text t.told p.is_at is p.told t.answers.asks t.answers.told_is;
        written = Appends-trans output output_then output_next p.text t.told (appends_none output output_now output_then p.text p.written silent) t.wrote;
        is_at = after ∙ (ap (λ s. state_after s line) p.is_at ∙ (ap (state_after last) is ∙ (sym (state_push state (map kept_of p.lines) (kept_of h.part)) ∙ sym (ap (state_from state) (kept_push p.lines h.part)))));
      }

  -- the same, said of the service's own who
  pub progress_turn : (own : Speaker) (client_then client_next requests_next replies_next : Option (List ℕ)) (begun line kept_next : List ℕ) (output_then output_next left left_then : Option (List ℕ)) (state_next : ClientState) → own ≡ who → IsKept begun [] → HasLine client_now client_then begun line → Appends output_now output_then [] →
      TakesTurn own state_now line requests_now requests_next replies_now replies_next kept_next left left_then output_then output_next → Keeps client_then client_next → state_next ≡ state_after state_now line →
      Progress who state client client_next requests requests_next replies replies_next kept_next output output_next state_next
  progress_turn own client_then client_next requests_next replies_next begun line kept_next output_then output_next left left_then state_next same begins h silent t keeps after =
      let T : Speaker → Type 0 = λ o. TakesTurn o state_now line requests_now requests_next replies_now replies_next kept_next left left_then output_then output_next in
      progress_more client_then client_next requests_next replies_next begun line kept_next output_then output_next left left_then state_next begins h silent (subst T same t) keeps after

  -- it ends between lines
  pub stops_between : (output_next : Option (List ℕ)) → Appends output_now output_next [] → HasServed who state client requests requests_now replies output output_next
  stops_between output_next silent =
      let C : List ℕ → Type 0 = λ bytes. Consumes client client_now bytes in
      let S : List ℕ → Type 0 = λ bytes. Consumes replies replies_now bytes in
      record {
        lines = p.lines;
        read = record { left = client_now; more = []; consumes = subst C (sym (append-nil (flat_map with_feed p.lines))) p.read; are_lines = p.are_lines };
        handed = (length (all_handed who state (map kept_of p.lines)), appends_whole requests requests_now _ p.handed);
        seen = p.seen;
        followed = record { left = replies_now; more = []; consumes = subst S (sym (append-nil (flat_map with_feed p.seen))) p.saw.consumes; are_lines = p.saw.are_lines };
        answered = p.lines;
        others = [];
        are = sym (append-nil p.lines);
        text = p.text;
        told = p.told;
        written = length p.text;
        output = appends_whole output output_next p.text (appends_none output output_now output_next p.text p.written silent);
      }

  -- the client was answered a beginning
  pub stops_telling : (client_then requests_next replies_next : Option (List ℕ)) (begun line kept_next : List ℕ) (output_then output_next : Option (List ℕ)) → IsKept begun [] → HasLine client_now client_then begun line → Appends output_now output_then [] →
      TellsPart who state_now line requests_now requests_next replies_now replies_next kept_next output_then output_next → HasServed who state client requests requests_next replies output output_next
  stops_telling client_then requests_next replies_next begun line kept_next output_then output_next begins h silent t =
      let is : line ≡ kept_of h.part = h.line [] begins in
      let lines = more_lines p.lines h.part in
      let seen = p.seen ++ t.answers.seen in
      let saw = seen_append replies replies_now replies_next kept kept_next p.seen t.answers.seen p.saw t.answers.saw in
      let C : List ℕ → Type 0 = λ bytes. Consumes client client_then bytes in
      let S : List ℕ → Type 0 = λ bytes. Consumes replies replies_next bytes in
      let A : List ℕ → Type 0 = λ bytes. Appends requests requests_next bytes in
      record {
        lines = lines;
        read = record { left = client_then; more = []; consumes = subst C (sym (append-nil (flat_map with_feed lines))) (lines_read client client_now client_then p.lines h.part p.read h.consumes); are_lines = lines_push p.lines h.part p.are_lines h.one };
        handed = (length (all_handed who state (map kept_of lines)), appends_whole requests requests_next _ (subst A (sym (lines_handed who state state_now p.lines h.part line p.is_at is)) (Appends-trans requests requests_now requests_next _ _ p.handed t.answers.handed)));
        seen = seen;
        followed = record { left = replies_next; more = []; consumes = subst S (sym (append-nil (flat_map with_feed seen))) saw.consumes; are_lines = saw.are_lines };
        answered = lines;
        others = [];
        are = sym (append-nil lines);
        text = p.text ++ t.told;
        told = lines_answered who state state_now p.lines p.seen t.answers.seen h.part line p.text t.told p.is_at is p.told t.answers.asks t.answers.told_is;
        written = length p.text + t.written;
        output = appends_part output output_then output_next p.text t.told t.written (appends_none output output_now output_then p.text p.written silent) t.wrote;
      }

  -- the client was answered nothing
  pub stops_asking : (client_then requests_next : Option (List ℕ)) (begun line : List ℕ) (output_then output_next : Option (List ℕ)) → IsKept begun [] → HasLine client_now client_then begun line → Appends output_now output_then [] →
      TellsNothing who state_now line requests_now requests_next output_then output_next → HasServed who state client requests requests_next replies output output_next
  stops_asking client_then requests_next begun line output_then output_next begins h silent t =
      let is : line ≡ kept_of h.part = h.line [] begins in
      let lines = more_lines p.lines h.part in
      let before = all_handed who state (map kept_of p.lines) in
      let C : List ℕ → Type 0 = λ bytes. Consumes client client_then bytes in
      let S : List ℕ → Type 0 = λ bytes. Consumes replies replies_now bytes in
      let A : List ℕ → Type 0 = λ bytes. Appends requests requests_next (take (length before + t.handed.0) bytes) in
      record {
        lines = lines;
        read = record { left = client_then; more = []; consumes = subst C (sym (append-nil (flat_map with_feed lines))) (lines_read client client_now client_then p.lines h.part p.read h.consumes); are_lines = lines_push p.lines h.part p.are_lines h.one };
        handed = (length before + t.handed.0, subst A (sym (lines_handed who state state_now p.lines h.part line p.is_at is)) (appends_part requests requests_now requests_next before (handed_for who (item_of state_now line)) t.handed.0 p.handed t.handed.1));
        seen = p.seen;
        followed = record { left = replies_now; more = []; consumes = subst S (sym (append-nil (flat_map with_feed p.seen))) p.saw.consumes; are_lines = p.saw.are_lines };
        answered = p.lines;
        others = h.part ∷ [];
        are = refl;
        text = p.text;
        told = p.told;
        written = length p.text;
        output = appends_whole output output_next p.text (appends_none output output_then output_next p.text (appends_none output output_now output_then p.text p.written silent) t.wrote);
      }

  pub stops_turn : (own : Speaker) (client_then requests_next replies_next : Option (List ℕ)) (begun line kept_next : List ℕ) (output_then output_next : Option (List ℕ)) → own ≡ who → IsKept begun [] → HasLine client_now client_then begun line → Appends output_now output_then [] →
      TellsPart own state_now line requests_now requests_next replies_now replies_next kept_next output_then output_next ⊎ TellsNothing own state_now line requests_now requests_next output_then output_next → HasServed who state client requests requests_next replies output output_next
  stops_turn own client_then requests_next replies_next begun line kept_next output_then output_next same begins h silent (inl t) =
      let T : Speaker → Type 0 = λ o. TellsPart o state_now line requests_now requests_next replies_now replies_next kept_next output_then output_next in
      stops_telling client_then requests_next replies_next begun line kept_next output_then output_next begins h silent (subst T same t)
  stops_turn own client_then requests_next replies_next begun line kept_next output_then output_next same begins h silent (inr t) =
      let T : Speaker → Type 0 = λ o. TellsNothing o state_now line requests_now requests_next output_then output_next in
      stops_asking client_then requests_next begun line output_then output_next begins h silent (subst T same t)

  -- the client has said all
  pub serves_all : (client_end : Option (List ℕ)) (begun kept_end : List ℕ) (output_next : Option (List ℕ)) → HasPaused client_now client_end begun kept_end → Appends output_now output_next [] → HasServedAll who state client requests requests_now replies output output_next
  serves_all client_end begun kept_end output_next h silent =
      let S : List ℕ → Type 0 = λ bytes. Consumes replies replies_now bytes in
      let all = flat_map with_feed p.lines ++ h.part in
      let same : p.lines ≡ ended_lines all = sym (ended_then p.lines h.part p.are_lines ∙ (ap (λ l. p.lines ++ l) (none_ended h.part h.one) ∙ append-nil p.lines)) in
      record {
        lines = p.lines;
        all = Consumes-whole client client_end all (λ bytes. p.lines ≡ ended_lines bytes) (Consumes-trans client client_now client_end (flat_map with_feed p.lines) h.part p.read h.consumes) h.end same;
        handed = p.handed;
        seen = p.seen;
        followed = record { left = replies_now; more = []; consumes = subst S (sym (append-nil (flat_map with_feed p.seen))) p.saw.consumes; are_lines = p.saw.are_lines };
        text = p.text;
        told = p.told;
        output = appends_none output output_now output_next p.text p.written silent;
      }

-- nothing was done
pub served_none : (who : Speaker) (state : ClientState) (client requests replies output : Option (List ℕ)) (replies_ahead kept : List ℕ) → replies_ahead ≡ [] → IsKept kept [] → HasServed who state client requests requests replies output output
served_none who state client requests replies output replies_ahead kept none begins =
    stops_between who state client (prepend_known [] client) requests requests replies (prepend_known replies_ahead replies) kept output output state
    (progress_none who state client requests replies output [] replies_ahead kept refl none begins) output (Appends-nil output)
