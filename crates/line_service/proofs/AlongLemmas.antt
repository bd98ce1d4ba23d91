-- A conversation of a service is one of what is seen of the service.
use Rattle.line_service.proofs.Prelude.{ℕ, ◌+◌, List, [], ◌∷◌, ap, take, arith, Event, View, ConversationEnd, Done, NoMemory, Stopped, TooManyLines, AreAnswered, EndsAs, IsBacked, IsCaughtUp, IsConversation}

pub answered_along : {S T : Type 0} (f : S → T) (a : S → ℕ → List ℕ → List ℕ → S → Type 0) (b : T → ℕ → List ℕ → List ℕ → T → Type 0) → ((old : S) (number : ℕ) (line reply : List ℕ) (new : S) → a old number line reply new → b (f old) number line reply (f new)) →
    (old : S) (number : ℕ) (lines : List (List ℕ)) (text : List ℕ) (new : S) → AreAnswered a old number lines text new → AreAnswered b (f old) number lines text (f new)
answered_along f a b each old number [] text new (none, stays) = (none, ap f stays)
answered_along f a b each old number (line ∷ lines) text new (reply, mid, others, one, rest, all) = grind (arith, answered_along f a b each mid (number + 1) lines others new rest)

backed_along : {S T : Type 0} (f : S → T) (a : S → ℕ → List ℕ → List ℕ → S → Type 0) (b : T → ℕ → List ℕ → List ℕ → T → Type 0) → ((old : S) (number : ℕ) (line reply : List ℕ) (new : S) → a old number line reply new → b (f old) number line reply (f new)) →
    (old : S) (first : ℕ) (events : List Event) → IsBacked a old first events → IsBacked b (f old) first events
backed_along f a b each old first events i = grind (arith, answered_along f a b each old first i.lines i.text i.new i.answered)

caught_along : {S T : Type 0} (f : S → T) (a : S → ℕ → List ℕ → List ℕ → S → Type 0) (b : T → ℕ → List ℕ → List ℕ → T → Type 0) → ((old : S) (number : ℕ) (line reply : List ℕ) (new : S) → a old number line reply new → b (f old) number line reply (f new)) →
    (old : S) (first : ℕ) (events : List Event) → IsCaughtUp a old first events → IsCaughtUp b (f old) first events
caught_along f a b each old first events i = record {
  lines = i.lines;
  begun = i.begun;
  kept = i.kept;
  are_lines = i.are_lines;
  is_begun = i.is_begun;
  new = f i.new;
  answered = answered_along f a b each old first i.lines _ i.new i.answered;
}

ends_along : {S T : Type 0} (f : S → T) (a : S → ℕ → List ℕ → List ℕ → S → Type 0) (b : T → ℕ → List ℕ → List ℕ → T → Type 0) → ((old : S) (number : ℕ) (line reply : List ℕ) (new : S) → a old number line reply new → b (f old) number line reply (f new)) →
    (old : S) (first : ℕ) (before after : View) (events : List Event) (end : ConversationEnd) (new : S) (next : ℕ) → EndsAs a old first before after events end new next → EndsAs b (f old) first before after events end (f new) next
ends_along f a b each old first before after events Done new next i = record {
  lines = i.lines;
  counted = i.counted;
  begun = i.begun;
  kept = i.kept;
  are_lines = i.are_lines;
  is_begun = i.is_begun;
  answered = answered_along f a b each old first i.lines _ new i.answered;
  all = i.all;
}
ends_along f a b each old first before after events (Stopped fault) new next i = i
ends_along f a b each old first before after events TooManyLines new next i = record {
  lines = i.lines;
  more = i.more;
  counted = i.counted;
  last = i.last;
  kept = i.kept;
  are_lines = i.are_lines;
  answered = answered_along f a b each old first i.lines _ new i.answered;
}
ends_along f a b each old first before after events NoMemory new next i = i

pub conversation_along : {S T : Type 0} (f : S → T) (a : S → ℕ → List ℕ → List ℕ → S → Type 0) (b : T → ℕ → List ℕ → List ℕ → T → Type 0) → ((old : S) (number : ℕ) (line reply : List ℕ) (new : S) → a old number line reply new → b (f old) number line reply (f new)) →
    (old : S) (first : ℕ) (before after : View) (end : ConversationEnd) (new : S) (next : ℕ) → IsConversation a old first before after end new next → IsConversation b (f old) first before after end (f new) next
conversation_along f a b each old first before after end new next c = record {
  events = c.events;
  happens = c.happens;
  moments = λ n. backed_along f a b each old first (take n c.events) (c.moments n);
  reads = λ n bytes at. caught_along f a b each old first (take n c.events) (c.reads n bytes at);
  ends = ends_along f a b each old first before after c.events end new next c.ends;
}
