-- A conversation that goes on.
use Rattle.line_service.proofs.Prelude.{◌≡◌, ℕ, suc, ◌+◌, List, [], ◌∷◌, ◌++◌, length, true, false, refl, sym, ap, subst, ◌∙◌, arith, append-nil, append_assoc, length-append, flat_map, list_all, Consumes, Consumes-kept, Consumes-nil, Consumes-trans, flat_map-append, with_feed, Event, Happens, View, kept_in, told_in, Kept, Told, ReadsAhead, IsKept, TakesPiece, is_one_line, kept_of, AreAnswered, AtEachMoment, AtEachRead, IsBacked, IsCaughtUp, Answers}
use Rattle.line_service.proofs.EventLemmas.{happens_then, kept_push, kept_told, moments_more, moments_none, nothing_happens, reads_kept, reads_none, reads_told, told_kept, told_push}
use Rattle.line_service.proofs.LineLemmas.{both_lines, lines_push}

-- the lines so far are answered; of the bytes that were kept, some are of a line that has begun,
-- and some were read ahead
pub record Progress {S : Type 0} (answers : S → ℕ → List ℕ → List ℕ → S → Type 0) (old : S) (first : ℕ) (before : View) (number : ℕ) (now : View) (state : S) (ahead kept : List ℕ) : Type 0 where
  pub events : List Event
  pub happens : Happens before now events
  pub moments : AtEachMoment answers old first events
  pub reads : AtEachRead answers old first events
  pub lines : List (List ℕ)
  pub begun : List ℕ
  pub split : kept_in events ≡ flat_map with_feed lines ++ (begun ++ ahead)
  pub are_lines : list_all is_one_line lines ≡ true
  pub is_begun : is_one_line begun ≡ true
  pub line : IsKept kept begun
  pub counted : number ≡ first + length lines
  pub answered : AreAnswered answers old first lines (told_in events) state
  pub consumes : Consumes before.remaining now.remaining (kept_in events)

pub progress_none : {S : Type 0} (answers : S → ℕ → List ℕ → List ℕ → S → Type 0) (old : S) (first : ℕ) (view : View) (ahead kept : List ℕ) → ahead ≡ [] → IsKept kept [] → Progress answers old first view first view old ahead kept
progress_none answers old first view ahead kept none line = record {
  events = [];
  happens = nothing_happens view;
  moments = moments_none answers old first;
  reads = reads_none answers old first;
  lines = [];
  begun = [];
  split = sym none;
  are_lines = refl;
  is_begun = refl;
  line = line;
  counted = omega arith;
  answered = (refl, refl);
  consumes = Consumes-nil view.remaining;
}

-- what was read ahead is of the line that has begun
pub piece_taken : {S : Type 0} (answers : S → ℕ → List ℕ → List ℕ → S → Type 0) (old : S) (first : ℕ) (before : View) (number : ℕ) (now : View) (state : S) (ahead kept rest after : List ℕ) →
    Progress answers old first before number now state ahead kept → TakesPiece ahead kept false rest after → Progress answers old first before number now state rest after
piece_taken answers old first before number now state ahead kept rest after g p = grind (arith, append-nil, both_lines)

-- with nothing ahead, all is answered
unfoldable pub caught_up : {S : Type 0} (answers : S → ℕ → List ℕ → List ℕ → S → Type 0) (old : S) (first : ℕ) (before : View) (number : ℕ) (now : View) (state : S) (ahead kept : List ℕ) → ahead ≡ [] → (g : Progress answers old first before number now state ahead kept) → IsCaughtUp answers old first g.events
caught_up answers old first before number now state ahead kept none g = record {
  lines = g.lines;
  begun = g.begun;
  kept = g.split ∙ ap (λ l. flat_map with_feed g.lines ++ l) (ap (λ a. g.begun ++ a) none ∙ append-nil g.begun);
  are_lines = g.are_lines;
  is_begun = g.is_begun;
  new = state;
  answered = g.answered;
}

-- bytes are kept
pub backed_kept : {S : Type 0} (answers : S → ℕ → List ℕ → List ℕ → S → Type 0) (old : S) (first : ℕ) (events : List Event) (bytes : List ℕ) → IsCaughtUp answers old first events → IsBacked answers old first (events ++ Kept bytes ∷ [])
backed_kept answers old first events bytes c = grind (arith, append_assoc, told_kept, append-nil, kept_push events bytes, append_assoc (flat_map with_feed c.lines) c.begun bytes, told_kept events bytes, append-nil (told_in (events ++ Kept bytes ∷ [])))

pub refilled : {S : Type 0} (answers : S → ℕ → List ℕ → List ℕ → S → Type 0) (old : S) (first : ℕ) (before : View) (number : ℕ) (now next : View) (state : S) (ahead kept rest : List ℕ) → ahead ≡ [] → Progress answers old first before number now state ahead kept → ReadsAhead now next rest → Progress answers old first before number next state rest kept
unfolding caught_up
refilled answers old first before number now next state ahead kept rest none g r =
    let c = caught_up answers old first before number now state ahead kept none g in
    let A : List ℕ → Type 0 = λ text. AreAnswered answers old first g.lines text state in
    let C : List ℕ → Type 0 = λ bytes. Consumes before.remaining next.remaining bytes in
    record {
      events = g.events ++ Kept rest ∷ [];
      happens = happens_then before now next g.events (Kept rest ∷ []) g.happens r.happens;
      moments = moments_more answers old first g.events (Kept rest) g.moments (backed_kept answers old first g.events rest c);
      reads = reads_kept answers old first g.events rest g.reads c;
      lines = g.lines;
      begun = g.begun;
      split = kept_push g.events rest ∙ (ap (λ l. l ++ rest) c.kept ∙ append_assoc (flat_map with_feed g.lines) g.begun rest);
      are_lines = g.are_lines;
      is_begun = g.is_begun;
      line = g.line;
      counted = g.counted;
      answered = subst A (sym (told_kept g.events rest)) g.answered;
      consumes = subst C (sym (kept_push g.events rest)) (Consumes-trans before.remaining now.remaining next.remaining (kept_in g.events) rest g.consumes r.consumes);
    }

-- one more line is answered
pub answered_push : {S : Type 0} (answers : S → ℕ → List ℕ → List ℕ → S → Type 0) (old : S) (number : ℕ) (lines : List (List ℕ)) (line : List ℕ) (text reply : List ℕ) (mid new : S) → AreAnswered answers old number lines text mid → answers mid (number + length lines) (kept_of line) reply new → AreAnswered answers old number (lines ++ line ∷ []) (text ++ reply) new
answered_push {S = S} answers old number [] line text reply mid new (none, stays) is =
    let P : S → Type 0 = λ s. answers s number (kept_of line) reply new in
    let zero : number + 0 ≡ number = omega arith in
    let Q : ℕ → Type 0 = λ n. answers mid n (kept_of line) reply new in
    (reply, new, [], subst P stays (subst Q zero is), (refl, refl), ap (λ t. t ++ reply) none ∙ sym (append-nil reply))
answered_push answers old number (x ∷ lines) line text reply mid new (one, state, others, first, rest, all) is =
    let next_number : number + suc (length lines) ≡ number + 1 + length lines = omega arith in
    let Q : ℕ → Type 0 = λ n. answers mid n (kept_of line) reply new in
    (one, state, others ++ reply, first, answered_push answers state (number + 1) lines line others reply mid new rest (subst Q next_number is), ap (λ t. t ++ reply) all ∙ append_assoc one others reply)

pub answered_append : {S : Type 0} (answers : S → ℕ → List ℕ → List ℕ → S → Type 0) (old mid new : S) (number : ℕ) (lines more : List (List ℕ)) (text reply : List ℕ) → AreAnswered answers old number lines text mid → AreAnswered answers mid (number + length lines) more reply new → AreAnswered answers old number (lines ++ more) (text ++ reply) new
answered_append {S = S} answers old mid new number [] more text reply (none, stays) next =
    let P : S → Type 0 = λ s. AreAnswered answers s number more (text ++ reply) new in
    let zero : number + 0 ≡ number = omega arith in
    let Q : ℕ → Type 0 = λ n. AreAnswered answers mid n more reply new in
    let R : List ℕ → Type 0 = λ t. AreAnswered answers mid number more t new in
    subst P stays (subst R (sym (ap (λ t. t ++ reply) none)) (subst Q zero next))
answered_append answers old mid new number (x ∷ lines) more text reply (one, state, others, first, rest, all) next =
    let next_number : number + suc (length lines) ≡ number + 1 + length lines = omega arith in
    let Q : ℕ → Type 0 = λ n. AreAnswered answers mid n more reply new in
    (one, state, others ++ reply, first, answered_append answers state mid new (number + 1) lines more others reply rest (subst Q next_number next), ap (λ t. t ++ reply) all ∙ append_assoc one others reply)

-- the line that ends now, and its turn
pub whole_lines : (lines : List (List ℕ)) (line : List ℕ) → flat_map with_feed (lines ++ line ∷ []) ≡ flat_map with_feed lines ++ (line ++ 10 ∷ [])
whole_lines lines line = flat_map-append with_feed lines (line ∷ []) ∙ ap (λ l. flat_map with_feed lines ++ l) (append-nil (line ++ 10 ∷ []))

pub split_line : (begun piece rest ahead : List ℕ) (lines : List (List ℕ)) → ahead ≡ piece ++ 10 ∷ rest → flat_map with_feed lines ++ (begun ++ ahead) ≡ flat_map with_feed (lines ++ (begun ++ piece) ∷ []) ++ rest
split_line begun piece rest ahead lines is = grind (arith, append_assoc, whole_lines)

-- a beginning of the reply to the next line is written
pub backed_told : {S : Type 0} (answers : S → ℕ → List ℕ → List ℕ → S → Type 0) (old : S) (first : ℕ) (events : List Event) (lines : List (List ℕ)) (rest text part unsaid : List ℕ) (new : S) → kept_in events ≡ flat_map with_feed lines ++ rest → list_all is_one_line lines ≡ true → AreAnswered answers old first lines text new → text ≡ told_in events ++ (part ++ unsaid) → IsBacked answers old first (events ++ Told part ∷ [])
backed_told answers old first events lines rest text part unsaid new kept are answered told = grind (arith, append_assoc, told_push, kept_told events part, append_assoc (told_in events) part unsaid, told_push events part)

pub turn_taken : {S : Type 0} (answers : S → ℕ → List ℕ → List ℕ → S → Type 0) (old : S) (first : ℕ) (before : View) (number more : ℕ) (now next : View) (state new : S) (ahead kept rest after cleared : List ℕ) → more ≡ number + 1 →
    Progress answers old first before number now state ahead kept → TakesPiece ahead kept true rest after → IsKept cleared [] → Answers answers state number after now next new → Progress answers old first before more next new rest cleared
turn_taken {S = S} answers old first before number more now next state new ahead kept rest after cleared one g p clear t =
    let line = g.begun ++ p.piece in
    let L : List ℕ → Type 0 = λ l. answers state number l t.reply new in
    let N : ℕ → Type 0 = λ n. answers state n (kept_of line) t.reply new in
    let answered = answered_push answers old first g.lines line (told_in g.events) t.reply state new g.answered (subst N g.counted (subst L (p.kept g.begun g.line) t.answered)) in
    let split : kept_in g.events ≡ flat_map with_feed (g.lines ++ line ∷ []) ++ rest = g.split ∙ split_line g.begun p.piece rest ahead g.lines p.rest in
    let are = lines_push g.lines line g.are_lines (both_lines g.begun p.piece g.is_begun p.one) in
    let A : List ℕ → Type 0 = λ text. AreAnswered answers old first (g.lines ++ line ∷ []) text new in
    let C : List ℕ → Type 0 = λ bytes. Consumes before.remaining next.remaining bytes in
    record {
      events = g.events ++ Told t.reply ∷ [];
      happens = happens_then before now next g.events (Told t.reply ∷ []) g.happens t.happens;
      moments = moments_more answers old first g.events (Told t.reply) g.moments (backed_told answers old first g.events (g.lines ++ line ∷ []) rest (told_in g.events ++ t.reply) t.reply [] new split are answered (ap (λ l. told_in g.events ++ l) (sym (append-nil t.reply))));
      reads = reads_told answers old first g.events t.reply g.reads;
      lines = g.lines ++ line ∷ [];
      begun = [];
      split = kept_told g.events t.reply ∙ split;
      are_lines = are;
      is_begun = refl;
      line = clear;
      counted = (let c = g.counted in omega (arith, length-append g.lines (line ∷ [])));
      answered = subst A (sym (told_push g.events t.reply)) answered;
      consumes = subst C (sym (kept_told g.events t.reply)) (Consumes-kept before.remaining now.remaining next.remaining (kept_in g.events) g.consumes t.keeps);
    }
