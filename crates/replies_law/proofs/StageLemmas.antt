-- From one stage of a run to the next.
use Rattle.replies_law.proofs.Prelude.{◌≡◌, ℕ, ◌<◌, ◌^◌, List, [], length, Result, Option, arith, length-append, OpRefusal, IsEvicted, History, Call, live_of, Operator, OperatorLine, Evict, Move, Owners, Step, Take, Put, evicted_text, last_id, IsAdmission, IsServed, Stage, lengths-evicted, lengths-run, ReplyForm, Admission, Eviction, IsReply, live_after, operator_form, HasName, NoFeed}
use Rattle.script_text.specs.declared.operator_line.OperatorLine.TheVariants.{Admit, List as ListAll}
use Rattle.replies_law.proofs.FormLemmas.{lines_are_first, owners_are_read}
use Rattle.replies_law.proofs.LiveLemmas.{AreOther, list_has_lines, lives, lives-append, lives-ended, lives-run}
use Rattle.replies_law.proofs.OwnerLemmas.{owners_lines, owners_small}
use Rattle.replies_law.proofs.ServedLemmas.{admitted_line, evicted_line, line_read, moved_line, refused_line, steady_tried, taken_line, tried_lines}

-- each id has a name, and names have no line feed
pub record IsFine (stage : Stage) : Type 0 where
  pub even : length stage.names ≡ length stage.service.histories
  pub names : AreOther stage.names

-- the reply to a line of the operator, of that form, is that text
pub record IsTold (old new : Stage) (form : ReplyForm) (text : List ℕ) : Type 0 where
  pub reads : IsReply (lives old.service.histories) form text
  pub lives : live_after (lives old.service.histories) form text ≡ lives new.service.histories
  pub fine : IsFine new

pub fine_same : (old new : Stage) → new.names ≡ old.names → length old.service.histories ≡ length new.service.histories → IsFine old → IsFine new
fine_same old new names lengths fine = grind arith

-- nothing changed
stays : (old new : Stage) (form : ReplyForm) (text : List ℕ) → new ≡ old → IsFine old → IsReply (lives old.service.histories) form text → live_after (lives old.service.histories) form text ≡ lives old.service.histories → IsTold old new form text
stays old new form text is fine reads same = grind arith

-- an admission
admission_told : (o : Option History) (old new : Stage) (name : List ℕ) (width : ℕ) (calls : List Call) (text : List ℕ) → IsAdmission o old name width calls text new → IsFine old → NoFeed name → IsTold old new Admission text
admission_told o old new name width calls text is fine other = grind (arith, line_read, refused_line, lives-append, length-append, admitted_line)

-- an eviction
eviction_told : (old new : Stage) (id : ℕ) (text : List ℕ) (answer : Result (Unit {0}) OpRefusal) → IsEvicted old.service id answer new.service → new.names ≡ old.names → text ≡ evicted_text answer → IsFine old → IsTold old new Eviction text
eviction_told old new id text answer evicts names told fine = grind (arith, lives-ended, line_read, evicted_line, lengths-evicted)

-- each line of the operator
pub operator_told : (old new : Stage) (line : OperatorLine (List ℕ)) (calls : List Call) (text : List ℕ) → IsServed old line calls text new → IsFine old → HasName (Operator line) → length text < 2 ^ 64 → IsTold old new (operator_form line) text
operator_told old new (Admit name width) calls text is fine other small = admission_told (live_of old.service.histories (last_id old.names name)) old new name width calls text is fine other
operator_told old new (Evict name) calls text is fine other small = eviction_told old new (last_id old.names name) text is.0 is.1 is.2 is.5 fine
operator_told old new (Move name offset) calls text is fine other small = grind (arith, line_read, moved_line)
operator_told old new ListAll calls text is fine other small = grind (arith, lines_are_first, list_has_lines)
operator_told old new Owners calls text is fine other small = grind (arith, owners_are_read, owners_small, owners_lines)
operator_told old new (Step name count) calls text is fine other small = grind (arith, lines_are_first, lives-run, lengths-run, steady_tried (last_id old.names name) is.0 is.2, tried_lines is.0)
operator_told old new (Take name) calls text is fine other small = grind (arith, line_read, taken_line, lives-run, lengths-run)
operator_told old new (Put number) calls text is fine other small = grind (arith, line_read, lives-run, lengths-run)
