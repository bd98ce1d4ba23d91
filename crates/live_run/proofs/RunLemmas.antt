-- A service that goes on from a log, or from nothing.
use Rattle.live_run.proofs.Prelude.{◌≡◌, ℕ, inr, List, [], true, false, Option, Some, Ok, Err, refl, sym, subst, arith, View, kept_none, ConversationEnd, IsConversation, progress_none, LiveState, AnswersLine, Outcome, Done, ArchUnreadable, ArchRefused, LogUnreadable, LogDiffers, LogIsStream, LogInUse, Stopped, TooManyLines, NoMemory, outcome_of, EndsRetelling, IsResumed, ClosesAs, RunsFrom, Talks}
use Rattle.line_service.specs.declared.conversation.ConversationEnd.TheVariants.{Done as DoneEnd, Stopped as StoppedEnd, TooManyLines as TooManyEnd, NoMemory as NoMemoryEnd}
use Rattle.live_run.proofs.RetellLemmas.{keeps_same, retold_none}

-- a conversation in which nothing happens
pub nothing_said : (old new : LiveState) (first next : ℕ) (view : View) → IsConversation AnswersLine old first view view NoMemoryEnd new next
nothing_said old new first next view = grind (arith, progress_none AnswersLine old first view [] [] refl (sym kept_none))

talks_after : (past : Option (List ℕ)) (told : Option ℕ) (start mid last : LiveState) (number next : ℕ) (before begun after : View) (end : ConversationEnd) (r : EndsRetelling start 1 past told before (Ok tt) mid number begun) → IsConversation AnswersLine mid number begun after end last next → Talks start true past told before after (outcome_of end)
talks_after past told start mid last number next before begun after end r c =
    let P : ℕ → Type 0 = λ n. IsConversation AnswersLine mid n begun after end last next in
    record {
      mid = mid;
      begun = begun;
      resumes = r.0;
      end = end;
      last = last;
      next = next;
      talked = after;
      talks = subst P r.1 c;
      ends = (refl, refl);
    }

pub goes_on : (past : Option (List ℕ)) (told : Option ℕ) (start mid last : LiveState) (number next : ℕ) (before begun after : View) (end : ConversationEnd) → EndsRetelling start 1 past told before (Ok tt) mid number begun → IsConversation AnswersLine mid number begun after end last next → RunsFrom start true past told before after (outcome_of end)
goes_on past told start mid last number next before begun after DoneEnd r c = talks_after past told start mid last number next before begun after DoneEnd r c
goes_on past told start mid last number next before begun after (StoppedEnd fault) r c = inr (talks_after past told start mid last number next before begun after (StoppedEnd fault) r c)
goes_on past told start mid last number next before begun after TooManyEnd r c = talks_after past told start mid last number next before begun after TooManyEnd r c
goes_on past told start mid last number next before begun after NoMemoryEnd r c = inr (talks_after past told start mid last number next before begun after NoMemoryEnd r c)

pub retell_fails : (past : Option (List ℕ)) (told : Option ℕ) (start mid : LiveState) (next : ℕ) (before after : View) (outcome : Outcome) → EndsRetelling start 1 past told before (Err outcome) mid next after → RunsFrom start true past told before after outcome
retell_fails past told start mid next before after outcome r = grind arith

no_log : (told : Option ℕ) (start : LiveState) (view : View) → IsResumed start 1 (Some []) told start view view
no_log told start view = record { lines = []; all = refl; text = []; answered = (refl, refl); retold = retold_none told view; input = keeps_same view.remaining }

-- without a log: an end that is not that of the input
pub stops : (told : Option ℕ) (start last : LiveState) (next : ℕ) (before after : View) (end : ConversationEnd) → (end ≡ DoneEnd → ⊥) → IsConversation AnswersLine start 1 before after end last next → RunsFrom start false (Some []) told before after (outcome_of end)
unfolding no_log
stops told start last next before after DoneEnd not_done c = absurd (not_done refl)
stops told start last next before after (StoppedEnd fault) not_done c = inr (record { mid = start; begun = before; resumes = no_log told start before; end = StoppedEnd fault; last = last; next = next; talked = after; talks = c; ends = (refl, refl) })
stops told start last next before after TooManyEnd not_done c = record { mid = start; begun = before; resumes = no_log told start before; end = TooManyEnd; last = last; next = next; talked = after; talks = c; ends = (refl, refl) }
stops told start last next before after NoMemoryEnd not_done c = inr (record { mid = start; begun = before; resumes = no_log told start before; end = NoMemoryEnd; last = last; next = next; talked = after; talks = c; ends = (refl, refl) })

-- and the input's end
pub closes : (told : Option ℕ) (start last : LiveState) (next : ℕ) (before talked after : View) (outcome : Outcome) → IsConversation AnswersLine start 1 before talked DoneEnd last next → ClosesAs last talked after outcome → RunsFrom start false (Some []) told before after outcome
unfolding no_log
closes told start last next before talked after Done c e = record { mid = start; begun = before; resumes = no_log told start before; end = DoneEnd; last = last; next = next; talked = talked; talks = c; ends = e }
closes told start last next before talked after ArchUnreadable c e = absurd (let n = e.0 in cc)
closes told start last next before talked after (ArchRefused fault) c e = absurd (let n = e.0 in cc)
closes told start last next before talked after LogUnreadable c e = absurd (let n = e.0 in cc)
closes told start last next before talked after (LogDiffers difference) c e = absurd (let n = e.0 in cc)
closes told start last next before talked after LogIsStream c e = absurd (let n = e.0 in cc)
closes told start last next before talked after LogInUse c e = absurd (let n = e.0 in cc)
closes told start last next before talked after (Stopped fault) c e = inr (record { mid = start; begun = before; resumes = no_log told start before; end = DoneEnd; last = last; next = next; talked = talked; talks = c; ends = e })
closes told start last next before talked after TooManyLines c e = absurd (let n = e.0 in cc)
closes told start last next before talked after NoMemory c e = inr (record { mid = start; begun = before; resumes = no_log told start before; end = DoneEnd; last = last; next = next; talked = talked; talks = c; ends = e })
