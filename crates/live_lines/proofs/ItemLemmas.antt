-- An item that is answered, and its reply with the tag.
use Rattle.live_lines.proofs.Prelude.{◌≡◌, ℕ, List, [], length, true, Option, Some, Result, arith, is_ok, Appends, MemorySink, Failed, Writes, Basis, ServiceState, Operator, Session, SessionLine, Answer, IsAnswer, answer_text, sink_text, HeldList, Answers, last_id, OperatorLine, named_operator, Bor, lengths-run, steady_asks, answer_told, output_of, IsAnswered}

-- what a sink holds that was empty
pub is_told : (w : Result (Unit {0}) Failed) (old new : MemorySink) (text : List ℕ) → is_ok w ≡ true → sink_text old ≡ [] →
    Writes (λ (s : MemorySink). Some (sink_text s)) (λ (s : MemorySink). s.failed) old new text w → sink_text new ≡ text
is_told w old new text same none writes = grind arith

pub held_as : (sink : MemorySink) (bytes : List ℕ) → Some (sink_text sink) ≡ Some bytes → bytes ≡ sink_text sink
held_as sink bytes same = cc

-- a session's item is answered by the core
pub item_answers : (names : List (List ℕ)) (jobs : HeldList) (graph : Basis) (old new : ServiceState) (name : List ℕ) (id : ℕ) (line : SessionLine) (answer : Answer) → id ≡ last_id names name → (is : IsAnswer graph old id line answer new) →
    IsAnswered (record { names = names; jobs = jobs; service = old; graph = graph }) (Session name line) is.0 (answer_text answer) (record { names = names; jobs = jobs; service = new; graph = graph })
item_answers names jobs graph old new name id line answer at is = grind arith

-- it admits and evicts no one
pub lengths_answered : (graph : Basis) (old new : ServiceState) (id : ℕ) (line : SessionLine) (answer : Answer) → IsAnswer graph old id line answer new → length old.histories ≡ length new.histories
lengths_answered graph old new id line answer is = lengths-run old new is.0 (steady_asks id line is.0 answer is.1) is.2

-- what is written with the tag is the reply
pub item_writes : (before after : Option (List ℕ)) (tag bytes text : List ℕ) → bytes ≡ text → Appends before after (output_of (answer_told tag bytes)) → Appends before after (output_of (answer_told tag text))
item_writes before after tag bytes text b h = grind arith

-- a line of the operator is answered
pub line_served : (graph : Basis) (names new_names : List (List ℕ)) (jobs new_jobs : HeldList) (service new_service : ServiceState) (kept : OperatorLine (Bor (List ℕ))) (line : OperatorLine (List ℕ)) (before after : List ℕ) →
    named_operator kept ≡ line → before ≡ [] → (a : Answers graph names jobs service kept before after new_names new_jobs new_service) →
    IsAnswered (record { names = names; jobs = jobs; service = service; graph = graph }) (Operator line) a.0 a.1 (record { names = new_names; jobs = new_jobs; service = new_service; graph = graph }) × (after ≡ a.1)
line_served graph names new_names jobs new_jobs service new_service kept line before after same none a = grind arith
