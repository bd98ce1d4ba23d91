-- How a conversation ends.
use Rattle.line_service.proofs.Prelude.{◌≡◌, ℕ, ◌+◌, ◌^◌, ◌<◌, inl, inr, List, [], ◌∷◌, ◌++◌, length, take, drop, true, Option, Err, refl, sym, ap, arith, append-nil, append_assoc, length-append, IfSome, flat_map, list_all, Consumes, IsAtEnd, take-append-drop, with_feed, FailedDevice, Event, Happens, View, kept_in, told_in, Kept, Told, FailsToRead, IsKept, TakesPiece, is_one_line, ConversationEnd, Done, NoMemory, Stopped, TooManyLines, AreAnswered, AtEachMoment, AtEachRead, IsConversation, AnswersPart, IsTurn}
use Rattle.line_service.proofs.EventLemmas.{happens_then, kept_push, kept_told, moments_more, reads_kept, reads_told, told_kept, told_push}
use Rattle.line_service.proofs.LineLemmas.{both_lines, ended_then, lines_push, none_ended}
use Rattle.line_service.proofs.TalkLemmas.{Progress, answered_push, backed_kept, backed_told, caught_up, split_line}

-- a line has ended and was not answered; those before it were
record Ended {S : Type 0} (answers : S → ℕ → List ℕ → List ℕ → S → Type 0) (old : S) (first : ℕ) (before : View) (number : ℕ) (now : View) (state : S) (kept rest : List ℕ) : Type 0 where
  pub events : List Event
  pub happens : Happens before now events
  pub moments : AtEachMoment answers old first events
  pub reads : AtEachRead answers old first events
  pub lines : List (List ℕ)
  pub line : List ℕ
  pub split : kept_in events ≡ flat_map with_feed (lines ++ line ∷ []) ++ rest
  pub are_lines : list_all is_one_line (lines ++ line ∷ []) ≡ true
  pub is_kept : IsKept kept line
  pub counted : number ≡ first + length lines
  pub answered : AreAnswered answers old first lines (told_in events) state

line_ended : {S : Type 0} (answers : S → ℕ → List ℕ → List ℕ → S → Type 0) (old : S) (first : ℕ) (before : View) (number : ℕ) (now : View) (state : S) (ahead kept rest after : List ℕ) → Progress answers old first before number now state ahead kept → TakesPiece ahead kept true rest after → Ended answers old first before number now state after rest
line_ended answers old first before number now state ahead kept rest after g p = grind (arith, split_line, lines_push, both_lines)

-- the line that has ended is answered
line_answered : {S : Type 0} (answers : S → ℕ → List ℕ → List ℕ → S → Type 0) (old : S) (first : ℕ) (before : View) (number : ℕ) (now : View) (state new : S) (kept rest reply : List ℕ) → (e : Ended answers old first before number now state kept rest) → answers state number kept reply new → AreAnswered answers old first (e.lines ++ e.line ∷ []) (told_in e.events ++ reply) new
line_answered answers old first before number now state new kept rest reply e is = grind (arith, answered_push)

-- and a beginning of its reply is written
part_told : {S : Type 0} (following : ℕ) (answers : S → ℕ → List ℕ → List ℕ → S → Type 0) (old : S) (first : ℕ) (before : View) (number : ℕ) (now next : View) (state new : S) (kept rest : List ℕ) (fault : FailedDevice) → Ended answers old first before number now state kept rest → AnswersPart answers state number kept now next fault new → IsConversation answers old first before next (Stopped fault) new following
part_told following answers old first before number now next state new kept rest fault e t =
    let part = take t.fails.count t.reply in
    let unsaid = drop t.fails.count t.reply in
    record {
      events = e.events ++ Told part ∷ [];
      happens = happens_then before now next e.events (Told part ∷ []) e.happens t.fails.happens;
      moments = moments_more answers old first e.events (Told part) e.moments (backed_told answers old first e.events (e.lines ++ e.line ∷ []) rest (told_in e.events ++ t.reply) part unsaid new e.split e.are_lines (line_answered answers old first before number now state new kept rest t.reply e t.answered) (ap (λ l. told_in e.events ++ l) (sym (take-append-drop t.fails.count t.reply))));
      reads = reads_told answers old first e.events part e.reads;
      ends = t.fails.failed;
    }

-- nothing more happens
no_more : {S : Type 0} (following : ℕ) (answers : S → ℕ → List ℕ → List ℕ → S → Type 0) (old : S) (first : ℕ) (before : View) (number : ℕ) (now next : View) (state new : S) (kept rest : List ℕ) → Ended answers old first before number now state kept rest → next ≡ now → IsConversation answers old first before next NoMemory new following
no_more following answers old first before number now next state new kept rest e same = grind arith

pub turn_fails : {S : Type 0} (following : ℕ) (answers : S → ℕ → List ℕ → List ℕ → S → Type 0) (old : S) (first : ℕ) (before : View) (number : ℕ) (now next : View) (state new : S) (ahead kept rest after : List ℕ) (end : ConversationEnd) → Progress answers old first before number now state ahead kept → TakesPiece ahead kept true rest after → IsTurn answers state number after now next (Err end) new → IsConversation answers old first before next end new following
turn_fails following answers old first before number now next state new ahead kept rest after Done g p t = absurd t
turn_fails following answers old first before number now next state new ahead kept rest after (Stopped fault) g p t = part_told following answers old first before number now next state new after rest fault (line_ended answers old first before number now state ahead kept rest after g p) t
turn_fails following answers old first before number now next state new ahead kept rest after TooManyLines g p t = absurd t
turn_fails following answers old first before number now next state new ahead kept rest after NoMemory g p t = no_more following answers old first before number now next state new after rest (line_ended answers old first before number now state ahead kept rest after g p) t

pub too_many : {S : Type 0} (answers : S → ℕ → List ℕ → List ℕ → S → Type 0) (old : S) (first : ℕ) (before : View) (number : ℕ) (now : View) (state : S) (ahead kept : List ℕ) → Progress answers old first before number now state ahead kept → number + 1 ≡ 2 ^ 64 → IsConversation answers old first before now TooManyLines state number
too_many answers old first before number now state ahead kept g last = grind arith

-- the log takes bytes, and a device fails
kept_part : {S : Type 0} (following : ℕ) (answers : S → ℕ → List ℕ → List ℕ → S → Type 0) (old : S) (first : ℕ) (before : View) (number : ℕ) (now next : View) (state new : S) (ahead kept bytes : List ℕ) (fault : FailedDevice) → ahead ≡ [] → Progress answers old first before number now state ahead kept → Happens now next (Kept bytes ∷ []) → next.has_failed fault ≡ true → IsConversation answers old first before next (Stopped fault) new following
kept_part following answers old first before number now next state new ahead kept bytes fault none g happens failed =
    let c = caught_up answers old first before number now state ahead kept none g in
    record {
      events = g.events ++ Kept bytes ∷ [];
      happens = happens_then before now next g.events (Kept bytes ∷ []) g.happens happens;
      moments = moments_more answers old first g.events (Kept bytes) g.moments (backed_kept answers old first g.events bytes c);
      reads = reads_kept answers old first g.events bytes g.reads c;
      ends = failed;
    }

pub read_fails : {S : Type 0} (following : ℕ) (answers : S → ℕ → List ℕ → List ℕ → S → Type 0) (old : S) (first : ℕ) (before : View) (number : ℕ) (now next : View) (state : S) (ahead kept : List ℕ) (fault : FailedDevice) → ahead ≡ [] → Progress answers old first before number now state ahead kept → FailsToRead now next fault → IsConversation answers old first before next (Stopped fault) state following
read_fails following answers old first before number now next state ahead kept fault none g f = kept_part following answers old first before number now next state state ahead kept f.bytes fault none g f.happens f.failed

-- the whole input
known_all : (input left : Option (List ℕ)) (bytes : List ℕ) (P : List ℕ → Type 0) → Consumes input left bytes → IsAtEnd left → P bytes → IfSome input P
known_all input left bytes P read end is = grind (arith, append-nil)

-- all lines of the input are answered
pub input_ends : {S : Type 0} (answers : S → ℕ → List ℕ → List ℕ → S → Type 0) (old : S) (first : ℕ) (before : View) (number : ℕ) (now : View) (state : S) (ahead kept : List ℕ) → ahead ≡ [] → IsAtEnd now.remaining → Progress answers old first before number now state ahead kept → IsConversation answers old first before now Done state number
unfolding caught_up
input_ends answers old first before number now state ahead kept none end g = grind (arith, ended_then, none_ended, append-nil)
