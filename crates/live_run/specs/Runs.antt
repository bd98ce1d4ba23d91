-- What a live service writes and keeps, from its architecture to its end.
use Rattle.std.specs.Prelude.{ℕ, ◌≡◌, ◌+◌, ◌⊎◌, Bool, true, false, List, [], ◌∷◌, length, Option, Some, None, Ok, Err}
use Rattle.live_run.specs.Prelude.{Arch, arch_of, Fails, Happens, View, Told, ConversationEnd, Done as DoneEnd, IsConversation, LiveState, AnswersLine, ClosesTexts, begins}
use Rattle.live_run.specs.declared.options.Options.{Options}
use Rattle.live_run.specs.declared.outcome.Outcome.{Outcome}
use Rattle.live_run.specs.declared.outcome.Outcome.TheVariants.{Done, ArchUnreadable, ArchRefused, LogUnreadable, LogDiffers, LogIsStream, LogInUse, Stopped, NoMemory}
use Rattle.live_run.specs.Limits.{device_of}
use Rattle.live_run.specs.Outcomes.{outcome_of}
use Rattle.live_run.specs.Retelling.{IsResumed, StopsRetelling}

-- what is known of the lines of the log; without a log there are none
abbrev pub past_of : {P : Type 0} → (P → Option (List ℕ)) → Option P → Option (List ℕ)
past_of remaining None = Some []
past_of remaining (Some past) = remaining past

-- the input has ended: each text that is open is refused, and that is written
abbrev pub ClosesAs : LiveState → View → View → Outcome → Type 0
ClosesAs last talked after Done = (reply : List ℕ) × ClosesTexts last reply × Happens talked after (Told reply ∷ [])
ClosesAs last talked after (Stopped fault) = (reply : List ℕ) × ClosesTexts last reply × Fails talked after fault Told reply
ClosesAs last talked after outcome = (outcome ≡ NoMemory) × (after ≡ talked)

-- with a log, texts that are open stay open
abbrev pub EndsSo : Bool → LiveState → ConversationEnd → View → View → Outcome → Type 0
EndsSo false last DoneEnd talked after outcome = ClosesAs last talked after outcome
EndsSo has_log last end talked after outcome = (outcome ≡ outcome_of end) × (after ≡ talked)

-- The lines of the log are answered, and the later replies are written. Then those of the dialogue
-- are answered as they come; the first of them has the number after those of the log.
pub record Talks (start : LiveState) (has_log : Bool) (past : Option (List ℕ)) (told : Option ℕ) (before after : View) (outcome : Outcome) : Type 0 where
  pub mid : LiveState
  pub begun : View
  pub resumes : IsResumed start 1 past told mid before begun
  pub end : ConversationEnd
  pub last : LiveState
  pub next : ℕ
  pub talked : View
  pub talks : IsConversation AnswersLine mid (1 + length resumes.lines) begun talked end last next
  pub ends : EndsSo has_log last end talked after outcome

-- if the log can't be read, the output fails or memory runs out, it may be that only a beginning of
-- the later replies to the log was written
abbrev pub RunsFrom : LiveState → Bool → Option (List ℕ) → Option ℕ → View → View → Outcome → Type 0
RunsFrom start has_log past told before after ArchUnreadable = ⊥
RunsFrom start has_log past told before after (ArchRefused fault) = ⊥
RunsFrom start has_log past told before after (LogDiffers difference) = ⊥
RunsFrom start has_log past told before after LogIsStream = ⊥
RunsFrom start has_log past told before after LogInUse = ⊥
RunsFrom start has_log past told before after LogUnreadable = (has_log ≡ true) × StopsRetelling start 1 past told before after
RunsFrom start has_log past told before after (Stopped fault) = ((has_log ≡ true) × (after.has_failed fault ≡ true) × StopsRetelling start 1 past told before after) ⊎ Talks start has_log past told before after (Stopped fault)
RunsFrom start has_log past told before after NoMemory = ((has_log ≡ true) × StopsRetelling start 1 past told before after) ⊎ Talks start has_log past told before after NoMemory
RunsFrom start has_log past told before after outcome = Talks start has_log past told before after outcome

-- the architecture decides whether the service begins; if it doesn't, nothing is written
abbrev pub Runs : Options → List ℕ → Bool → Option (List ℕ) → Option ℕ → View → View → Outcome → Type 0
Runs options architecture has_log past told before after (ArchRefused fault) = (arch_of architecture options.tracks ≡ Err fault) × (after ≡ before)
Runs options architecture has_log past told before after outcome =
    ((outcome ≡ NoMemory) × (after ≡ before)) ⊎ ((arch : Arch) × (arch_of architecture options.tracks ≡ Ok arch) × RunsFrom (begins (device_of options arch)) has_log past told before after outcome)
