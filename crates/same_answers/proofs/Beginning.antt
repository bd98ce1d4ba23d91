-- What comes before the first session's line, in a script that has no line by hand.
use Rattle.same_answers.proofs.Prelude.{◌≡◌, ℕ, List, [], ◌∷◌, ◌++◌, false, Option, refl, sym, ap, ◌∙◌, subst, arith, flat_map-append, History, own_exchange, own_exchanges, Call, Run, Run-append, Act, Operator, Session, OperatorLine, is_by_hand, IsAdmission, IsServed, Stage, served_runs, items_by, IsAnswered, Telling, Tells, AreRepliedTo, IsRepliedTo, acts_of, answer_for, answers_for, stage_at_session, from_session, if_session}
use Rattle.same_answers.proofs.ByHand.{AreNotByHand, IsNotByHand}

-- the calls are no events of any tenancy
abbrev pub AreNoEvents : List Call → Type 0
AreNoEvents calls = (id : ℕ) → own_exchanges id calls ≡ []

no_events : (calls these : List Call) → calls ≡ these → AreNoEvents these → AreNoEvents calls
no_events calls these is none = subst AreNoEvents (sym is) none

admission : (o : Option History) (old mid : Stage) (name : List ℕ) (width : ℕ) (calls : List Call) (text : List ℕ) → IsAdmission o old name width calls text mid → AreNoEvents calls × (mid.graph ≡ old.graph)
admission o old mid name width calls text is = grind arith

quiet_line : (old : Stage) (line : OperatorLine (List ℕ)) (calls : List Call) (text : List ℕ) (mid : Stage) → is_by_hand line ≡ false → IsServed old line calls text mid → AreNoEvents calls × (mid.graph ≡ old.graph)
quiet_line old line calls text mid none is = grind arith

-- what was called before, and the tellings that are left
pub record Begun (name : List ℕ) (old stage new : Stage) (acts : List (Act (List ℕ))) (text : List ℕ) (Replied : Type 0) : Type 0 where
  pub calls : List Call
  pub run : Run old.service calls stage.service
  pub quiet : AreNoEvents calls
  pub graph : stage.graph ≡ old.graph
  pub rest : List Telling
  pub tells : Tells stage rest new
  pub acts_are : acts_of rest ≡ from_session acts
  pub text_is : answers_for name rest ≡ text
  pub replied : Replied → AreRepliedTo name rest

begins : (name : List ℕ) (old : Stage) (t : Telling) (tellings : List Telling) (new : Stage) (tells : Tells old (t ∷ tellings) new) (later : Stage) → (AreNotByHand (acts_of tellings) → Begun name tells.0 later new (acts_of tellings) (answers_for name tellings) (AreRepliedTo name tellings)) →
    AreNotByHand (acts_of (t ∷ tellings)) → Begun name old (if_session t.act old later) new (acts_of (t ∷ tellings)) (answers_for name (t ∷ tellings)) (AreRepliedTo name (t ∷ tellings))
begins name old t tellings new tells later more free = by_act t.act refl tells.1 free.0
  where
    by_act : (act : Act (List ℕ)) → t.act ≡ act → IsAnswered old act t.calls t.text tells.0 → IsNotByHand act →
        Begun name old (if_session act old later) new (act ∷ acts_of tellings) (answer_for name act t.text ++ answers_for name tellings) (IsRepliedTo name act t.text × AreRepliedTo name tellings)
    by_act (Operator line) e is none =
        let b = more free.1 in
        let quiet = quiet_line old line t.calls t.text tells.0 none is in
        record {
          calls = t.calls ++ b.calls;
          run = Run-append old.service t.calls (tells.0).service b.calls later.service (served_runs old line t.calls t.text tells.0 is) b.run;
          quiet = λ id. flat_map-append (own_exchange id) t.calls b.calls ∙ (ap (λ xs. xs ++ own_exchanges id b.calls) (quiet.0 id) ∙ b.quiet id);
          graph = b.graph ∙ quiet.1;
          rest = b.rest;
          tells = b.tells;
          acts_are = b.acts_are;
          text_is = b.text_is;
          replied = λ are. b.replied are.1;
        }
    by_act (Session other line) e is none = record {
      calls = [];
      run = refl;
      quiet = λ id. refl;
      graph = refl;
      rest = t ∷ tellings;
      tells = tells;
      acts_are = ap (λ act. act ∷ acts_of tellings) e;
      text_is = ap (λ act. answer_for name act t.text ++ answers_for name tellings) e;
      replied = λ are. ((let P : Act (List ℕ) → Type 0 = λ act. IsRepliedTo name act t.text in subst P (sym e) are.0), are.1);
    }

pub has_begun : (name : List ℕ) (old : Stage) (tellings : List Telling) (new : Stage) (tells : Tells old tellings new) → AreNotByHand (acts_of tellings) →
    Begun name old (stage_at_session old tellings new tells) new (acts_of tellings) (answers_for name tellings) (AreRepliedTo name tellings)
has_begun name old [] new tells free = record { calls = []; run = refl; quiet = λ id. refl; graph = refl; rest = []; tells = tells; acts_are = refl; text_is = refl; replied = λ are. are }
has_begun name old (t ∷ tellings) new tells free =
    begins name old t tellings new tells (stage_at_session tells.0 tellings new tells.2) (λ less. has_begun name tells.0 tellings new tells.2 less) free

-- the operator's lines have no items
pub same_items : (name : List ℕ) (acts : List (Act (List ℕ))) → items_by name (from_session acts) ≡ items_by name acts
same_items name [] = refl
same_items name (Operator line ∷ acts) = same_items name acts
same_items name (Session other item ∷ acts) = refl
