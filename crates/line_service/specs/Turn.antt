-- Private: one line, and its reply.
use Rattle.std.specs.Prelude.{ℕ, ◌≡◌, List, [], ◌∷◌, Result, Ok, Err}
use Rattle.std.specs.Io.KnownBytes.{Keeps}
use Rattle.dialogue.specs.declared.dialogue.FailedDevice.{FailedDevice}
use Rattle.dialogue.specs.History.{Fails, Happens, View}
use Rattle.dialogue.specs.History.Event.{Told}
use Rattle.line_service.specs.declared.conversation.ConversationEnd.{ConversationEnd}
use Rattle.line_service.specs.declared.conversation.ConversationEnd.TheVariants.{NoMemory, Stopped}

-- the line was answered, and the reply was written
pub record Answers {S : Type 0} (answers : S → ℕ → List ℕ → List ℕ → S → Type 0) (old : S) (number : ℕ) (line : List ℕ) (before after : View) (new : S) : Type 0 where
  pub reply : List ℕ
  pub answered : answers old number line reply new
  pub happens : Happens before after (Told reply ∷ [])
  pub keeps : Keeps before.remaining after.remaining

-- the line was answered, and a beginning of the reply was written
pub record AnswersPart {S : Type 0} (answers : S → ℕ → List ℕ → List ℕ → S → Type 0) (old : S) (number : ℕ) (line : List ℕ) (before after : View) (fault : FailedDevice) (new : S) : Type 0 where
  pub reply : List ℕ
  pub answered : answers old number line reply new
  pub fails : Fails before after fault Told reply

abbrev pub IsTurn : {S : Type 0} → (S → ℕ → List ℕ → List ℕ → S → Type 0) → S → ℕ → List ℕ → View → View → Result (Unit {0}) ConversationEnd → S → Type 0
IsTurn answers old number line before after (Ok u) new = Answers answers old number line before after new
IsTurn answers old number line before after (Err NoMemory) new = after ≡ before
IsTurn answers old number line before after (Err (Stopped fault)) new = AnswersPart answers old number line before after fault new
IsTurn answers old number line before after (Err end) new = ⊥
