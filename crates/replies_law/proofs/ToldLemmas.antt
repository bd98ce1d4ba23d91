-- All replies are read back.
use Rattle.replies_law.proofs.Prelude.{◌≡◌, ℕ, ◌<◌, ◌^◌, Bool, true, false, List, [], ◌∷◌, length, map, Ok, Some, None, refl, sym, ap, subst, arith, bytes_eq, Act, Operator, Session, last_id, Stage, lengths-run, steady_asks, HasReply, HaveReplies, IsReply, asked_in, Speaker, live_after, with_reply, read_back, asked_of, replies_in, session_form, IsAnswered, Telling, Tells, replies_text, AreTellable, HasName, NetsAreWords}
use Rattle.replies_law.proofs.LiveLemmas.{lives, lives-run}
use Rattle.replies_law.proofs.SectionLemmas.{lines_of, printed_is_written}
use Rattle.replies_law.proofs.ServedLemmas.{session_read}
use Rattle.replies_law.proofs.StageLemmas.{IsFine, fine_same, operator_told}

-- the reply to a session's line is read back, however many tenancies are live
session_told : NetsAreWords → (old new : Stage) (name : List ℕ) (line : _) (calls : _) (text : List ℕ) (live : ℕ) → IsAnswered old (Session name line) calls text new → length text < 2 ^ 64 → IsReply live (session_form line) text
session_told words old new name line calls text live is small = grind (arith, session_read)

-- a name's session
session_has : NetsAreWords → (name : List ℕ) (old new : Stage) (ts : List Telling) (live : ℕ) → Tells old ts new → AreTellable ts → HaveReplies (Some name) live (lines_of ts)
session_has words name old new [] live tells tellable = tt
session_has words name old new (t ∷ ts) live tells tellable =
    by_act t.act tells.1 (λ next. session_has words name tells.0 new ts next tells.2 tellable.1)
  where
    by_name : (b : Bool) (n : List ℕ) (line : _) → IsReply live (session_form line) t.text → ((next : ℕ) → HaveReplies (Some name) next (lines_of ts)) →
        HasReply b live (with_reply (asked_of (Session n line)) t.text) (λ next. HaveReplies (Some name) next (lines_of ts))
    by_name true n line reads more = (reads, more (live_after live (session_form line) t.text))
    by_name false n line reads more = more live

    by_act : (act : Act (List ℕ)) → IsAnswered old act t.calls t.text tells.0 → ((next : ℕ) → HaveReplies (Some name) next (lines_of ts)) → HaveReplies (Some name) live (with_reply (asked_of act) t.text ∷ lines_of ts)
    by_act (Operator line) is more = more live
    by_act (Session n line) is more = by_name (bytes_eq name n) n line (session_told words old tells.0 n line t.calls t.text live is tellable.0.1) more

-- the operator
operator_has : (old new : Stage) (ts : List Telling) → Tells old ts new → IsFine old → AreTellable ts → HaveReplies None (lives old.service.histories) (lines_of ts)
operator_has old new [] tells fine tellable = tt
operator_has old new (t ∷ ts) tells fine tellable =
    by_act t.act tells.1 tellable.0.0 (λ f. operator_has tells.0 new ts tells.2 f tellable.1)
  where
    by_act : (act : Act (List ℕ)) → IsAnswered old act t.calls t.text tells.0 → HasName act → (IsFine tells.0 → HaveReplies None (lives (tells.0).service.histories) (lines_of ts)) →
        HaveReplies None (lives old.service.histories) (with_reply (asked_of act) t.text ∷ lines_of ts)
    by_act (Operator line) is named more =
        let told = operator_told old tells.0 line t.calls t.text is fine named tellable.0.1 in
        let P : ℕ → Type 0 = λ n. HaveReplies None n (lines_of ts) in
        (told.reads, subst P (sym told.lives) (more told.fine))
    by_act (Session name line) is named more =
        let steady = steady_asks (last_id old.names name) line t.calls is.0 is.1 in
        let P : ℕ → Type 0 = λ n. HaveReplies None n (lines_of ts) in
        subst P (sym (lives-run old.service (tells.0).service t.calls steady is.2))
        (more (fine_same old tells.0 is.3 (lengths-run old.service (tells.0).service t.calls steady is.2) fine))

-- both
all_have : NetsAreWords → (start last : Stage) (ts : List Telling) → Tells start ts last → IsFine start → lives start.service.histories ≡ 0 → AreTellable ts → (speaker : Speaker) → HaveReplies speaker 0 (lines_of ts)
all_have words start last ts tells fine none tellable None = let P : ℕ → Type 0 = λ n. HaveReplies None n (lines_of ts) in subst P none (operator_has start last ts tells fine tellable)
all_have words start last ts tells fine none tellable (Some name) = session_has words name start last ts 0 tells tellable

asked_lines : (ts : List Telling) → map asked_of (map (λ t. t.act) ts) ≡ asked_in (lines_of ts)
asked_lines [] = refl
asked_lines (t ∷ ts) = ap (λ ls. asked_of t.act ∷ ls) (asked_lines ts)

pub told_is_read : NetsAreWords → (start last : Stage) (ts : List Telling) → Tells start ts last → IsFine start → lives start.service.histories ≡ 0 → AreTellable ts →
    replies_in (map (λ t. t.act) ts) (replies_text ts) ≡ Ok (lines_of ts)
told_is_read words start last ts tells fine none tellable = grind (arith, printed_is_written, read_back, all_have, asked_lines ts, printed_is_written ts, read_back (lines_of ts) (all_have words start last ts tells fine none tellable), all_have words start last ts tells fine none tellable)
