-- What is kept, answered and written in a conversation, at each moment.
use Rattle.std.specs.Prelude.{ℕ, ◌≡◌, ◌+◌, ◌^◌, ◌==◌, List, [], ◌∷◌, ◌++◌, length, take, true, Option, Some, IfSome, ⊤, if◌then◌else◌}
use Rattle.std.specs.List.{flat_map, list_all, slice_get}
use Rattle.tagged_lines.specs.Tags.{with_feed}
use Rattle.dialogue.specs.History.{Event, Happens, View, kept_in, told_in}
use Rattle.dialogue.specs.History.Event.{Kept}
use Rattle.line_feed.specs.Pieces.{is_one_line, kept_of}
use Rattle.line_service.specs.declared.conversation.ConversationEnd.{ConversationEnd}
use Rattle.line_service.specs.declared.conversation.ConversationEnd.TheVariants.{Done, Stopped, TooManyLines, NoMemory}

-- the lines of a text that LF ends: what stands after its last LF is no line
abbrev pub onto_line : ℕ → List (List ℕ) → List (List ℕ)
onto_line byte [] = []
onto_line byte (line ∷ lines) = (byte ∷ line) ∷ lines

abbrev pub ended_lines : List ℕ → List (List ℕ)
ended_lines [] = []
ended_lines (byte ∷ bytes) = if byte == 10 then [] ∷ ended_lines bytes else onto_line byte (ended_lines bytes)

-- Lines are answered one after another, the first of them having that number: this text is all
-- replies, and the service becomes `new`. `answers old number line reply new` says it of one line;
-- of a line the first 1,048,640 bytes are answered.
abbrev pub AreAnswered : {S : Type 0} → (S → ℕ → List ℕ → List ℕ → S → Type 0) → S → ℕ → List (List ℕ) → List ℕ → S → Type 0
AreAnswered answers old number [] text new = (text ≡ []) × (new ≡ old)
AreAnswered {S = S} answers old number (line ∷ lines) text new = (reply : List ℕ) × (mid : S) × (others : List ℕ)
    × answers old number (kept_of line) reply mid × AreAnswered answers mid (number + 1) lines others new × (text ≡ reply ++ others)

-- what was written is a beginning of the replies to lines that were kept before
pub record IsBacked {S : Type 0} (answers : S → ℕ → List ℕ → List ℕ → S → Type 0) (old : S) (first : ℕ) (events : List Event) : Type 0 where
  pub lines : List (List ℕ)
  pub more : List ℕ
  pub kept : kept_in events ≡ flat_map with_feed lines ++ more
  pub are_lines : list_all is_one_line lines ≡ true
  pub text : List ℕ
  pub new : S
  pub answered : AreAnswered answers old first lines text new
  pub unsaid : List ℕ
  pub told : text ≡ told_in events ++ unsaid

-- what was written is all replies to all lines that were kept before; nothing is held back
pub record IsCaughtUp {S : Type 0} (answers : S → ℕ → List ℕ → List ℕ → S → Type 0) (old : S) (first : ℕ) (events : List Event) : Type 0 where
  pub lines : List (List ℕ)
  pub begun : List ℕ
  pub kept : kept_in events ≡ flat_map with_feed lines ++ begun
  pub are_lines : list_all is_one_line lines ≡ true
  pub is_begun : is_one_line begun ≡ true
  pub new : S
  pub answered : AreAnswered answers old first lines (told_in events) new

-- so it is at each moment, whenever the program is ended
abbrev pub AtEachMoment : {S : Type 0} → (S → ℕ → List ℕ → List ℕ → S → Type 0) → S → ℕ → List Event → Type 0
AtEachMoment answers old first events = (n : ℕ) → IsBacked answers old first (take n events)

-- and so it is whenever more is read
abbrev pub AtEachRead : {S : Type 0} → (S → ℕ → List ℕ → List ℕ → S → Type 0) → S → ℕ → List Event → Type 0
AtEachRead answers old first events = (n : ℕ) (bytes : List ℕ) → slice_get events n ≡ Some (Kept bytes) → IsCaughtUp answers old first (take n events)

-- all lines of the input were kept and answered, and their replies were written; of a last line
-- without its end the bytes were kept, and nothing else was done
pub record IsServed {S : Type 0} (answers : S → ℕ → List ℕ → List ℕ → S → Type 0) (old : S) (first : ℕ) (input : Option (List ℕ)) (events : List Event) (new : S) (next : ℕ) : Type 0 where
  pub lines : List (List ℕ)
  pub counted : next ≡ first + length lines
  pub begun : List ℕ
  pub kept : kept_in events ≡ flat_map with_feed lines ++ begun
  pub are_lines : list_all is_one_line lines ≡ true
  pub is_begun : is_one_line begun ≡ true
  pub answered : AreAnswered answers old first lines (told_in events) new
  pub all : IfSome input (λ bytes. lines ≡ ended_lines bytes)

-- the numbers have run out: all lines before number 2^64 - 1 were answered, and their replies were
-- written
pub record IsOutOfNumbers {S : Type 0} (answers : S → ℕ → List ℕ → List ℕ → S → Type 0) (old : S) (first : ℕ) (events : List Event) (new : S) (next : ℕ) : Type 0 where
  pub lines : List (List ℕ)
  pub more : List ℕ
  pub counted : next ≡ first + length lines
  pub last : next + 1 ≡ 2 ^ 64
  pub kept : kept_in events ≡ flat_map with_feed lines ++ more
  pub are_lines : list_all is_one_line lines ≡ true
  pub answered : AreAnswered answers old first lines (told_in events) new

abbrev pub EndsAs : {S : Type 0} → (S → ℕ → List ℕ → List ℕ → S → Type 0) → S → ℕ → View → View → List Event → ConversationEnd → S → ℕ → Type 0
EndsAs answers old first before after events Done new next = IsServed answers old first before.remaining events new next
EndsAs answers old first before after events (Stopped fault) new next = after.has_failed fault ≡ true
EndsAs answers old first before after events TooManyLines new next = IsOutOfNumbers answers old first events new next
EndsAs answers old first before after events NoMemory new next = ⊤

-- a conversation: these events, in this order; `next` is the number of a line that would come next
pub record IsConversation {S : Type 0} (answers : S → ℕ → List ℕ → List ℕ → S → Type 0) (old : S) (first : ℕ) (before after : View) (end : ConversationEnd) (new : S) (next : ℕ) : Type 0 where
  pub events : List Event
  pub happens : Happens before after events
  pub moments : AtEachMoment answers old first events
  pub reads : AtEachRead answers old first events
  pub ends : EndsAs answers old first before after events end new next
