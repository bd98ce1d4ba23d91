-- Lines of the operator, served one after another.
use Rattle.script_threads.proofs.Prelude.{◌≡◌, ℕ, Some, None, List, [], ◌∷◌, ◌++◌, length, refl, sym, ap, ◌∙◌, subst, append_assoc, append-nil, arith, filter_map, option_map, reverse, Call, Run, GiveBack, ServiceState, given_back, HeldList, give_backs, OperatorLine, IsServed, Stage, AreServed, RepliesEach}

pub AreServed-push : (a : Stage) (lines : List (OperatorLine (List ℕ))) (before : List Call) (text : List ℕ) (b : Stage) (line : OperatorLine (List ℕ)) (calls : List Call) (more : List ℕ) (c : Stage) →
    AreServed a lines before text b → IsServed b line calls more c → AreServed a (lines ++ line ∷ []) (before ++ calls) (text ++ more) c
AreServed-push a [] before text b line calls more c done next = (
  calls,
  more,
  c,
  [],
  [],
  (let P : Stage → Type 0 = λ s. IsServed s line calls more c in subst P done.2 next),
  (refl, refl, refl),
  ap (λ cs. cs ++ calls) done.0 ∙ sym (append-nil calls),
  ap (λ t. t ++ more) done.1 ∙ sym (append-nil more),
)
AreServed-push a (x ∷ xs) before text b line calls more c done next = (
  done.0,
  done.1,
  done.2,
  done.3 ++ calls,
  done.4 ++ more,
  done.5,
  AreServed-push done.2 xs done.3 done.4 b line calls more c done.6 next,
  ap (λ cs. cs ++ calls) done.7 ∙ append_assoc done.0 done.3 calls,
  ap (λ t. t ++ more) done.8 ∙ append_assoc done.1 done.4 more,
)

pub replies_more : (a : Stage) (lines : List (OperatorLine (List ℕ))) (before mid_text after : List ℕ) (b : Stage) (line : OperatorLine (List ℕ)) (calls : List Call) (more : List ℕ) (c : Stage) →
    RepliesEach a lines before mid_text b → IsServed b line calls more c → after ≡ mid_text ++ more → length c.names ≡ length c.service.histories → RepliesEach a (lines ++ line ∷ []) before after c
replies_more a lines before mid_text after b line calls more c done next told even = grind (arith, AreServed-push a lines done.calls done.text b line calls more c done.served next, append_assoc before done.text more)

-- giving jobs back keeps the tenancies
gives : (old new : ServiceState) (jobs : HeldList) → Run old (filter_map (option_map GiveBack) jobs) new → length new.histories ≡ length old.histories
gives old new [] is = ap (λ (s : ServiceState). length s.histories) is
gives old new (None ∷ jobs) is = gives old new jobs is
gives old new (Some job ∷ jobs) is = grind (arith, given_back, gives is.0 new jobs is.2)

pub gives_keep : (old new : ServiceState) (jobs : HeldList) → Run old (give_backs jobs) new → length new.histories ≡ length old.histories
gives_keep old new jobs is = gives old new (reverse jobs) is
