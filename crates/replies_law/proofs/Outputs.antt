-- A script has one output.
use Rattle.replies_law.proofs.Prelude.{◌≡◌, ℕ, List, [], ◌∷◌, map, Option, refl, sym, ◌∙◌, subst, arith, ⊤, flat_map, Owned, History, ListsOwnersOf, Call, Run, ServiceState, live_of, Kept, run_keeps, Act, OperatorLine, Evict, Move, Owners, Step, Take, Put, last_id, IsAdmission, IsServed, Stage, Section, IsAnswered, Telling, Tells, sections_after, told_operator, told_session, replies_text, answered_runs, HasOneOutput}
use Rattle.script_text.specs.declared.operator_line.OperatorLine.TheVariants.{Admit, List as ListAll}
use Rattle.replies_law.proofs.Found.{AllHadMemory, HadMemory}
use Rattle.replies_law.proofs.Memory.{all_had}
use Rattle.replies_law.proofs.SameCalls.{admitted_alike, evicted_alike, moved_alike}
use Rattle.replies_law.proofs.SameHeld.{held_alike, holds_alike}
use Rattle.replies_law.proofs.SameLines.{line_alike, tried_alike}
use Rattle.replies_law.proofs.Sorted.{same_list}

stage_is : (a b : Stage) → a.names ≡ b.names → a.jobs ≡ b.jobs → a.service ≡ b.service → a.graph ≡ b.graph → a ≡ b
stage_is a b names jobs service graph = grind arith

admission_alike : (o : Option History) (old new other : Stage) (name : List ℕ) (width : ℕ) (calls more : List Call) (text told : List ℕ) → IsAdmission o old name width calls text new → IsAdmission o old name width more told other → HadMemory calls → HadMemory more →
    (text ≡ told) × (new ≡ other)
admission_alike o old new other name width calls more text told is it had has = grind (arith, admitted_alike)

owners_alike : (state : ServiceState) (xs ys : List Owned) → ListsOwnersOf state xs → ListsOwnersOf state ys → xs ≡ ys
owners_alike state xs ys one two = same_list xs ys one.0 two.0 (λ z. ((λ c. (two.1 z).1 ((one.1 z).0 c)), (λ c. (one.1 z).1 ((two.1 z).0 c))))

operator_alike : (old new other : Stage) (line : OperatorLine (List ℕ)) (calls more : List Call) (text told : List ℕ) → IsServed old line calls text new → IsServed old line more told other → Kept old.service → HadMemory calls → HadMemory more → (text ≡ told) × (new ≡ other)
operator_alike old new other (Admit name width) calls more text told is it kept had has = admission_alike (live_of old.service.histories (last_id old.names name)) old new other name width calls more text told is it had has
operator_alike old new other (Evict name) calls more text told is it kept had has = grind (arith, evicted_alike, stage_is)
operator_alike old new other (Move name offset) calls more text told is it kept had has = grind (arith, moved_alike, stage_is)
operator_alike old new other (Step name count) calls more text told is it kept had has =
    let P : List Call → Type 0 = λ cs. Run old.service cs new.service in
    let Q : List Call → Type 0 = λ cs. Run old.service cs other.service in
    let same = tried_alike (last_id old.names name) is.0 it.0 old.service new.service other.service (is.1 ∙ sym it.1) is.2 it.2 (subst P is.6 is.3) (subst Q it.6 it.3) kept (subst HadMemory is.6 had) (subst HadMemory it.6 has) in
    (is.7 ∙ (same.0 ∙ sym it.7), stage_is new other (is.4 ∙ sym it.4) (is.5 ∙ sym it.5) same.1 (is.8 ∙ sym it.8))
operator_alike old new other (Take name) calls more text told is it kept had has = grind (arith, holds_alike, stage_is)
operator_alike old new other (Put number) calls more text told is it kept had has = grind (arith, held_alike, stage_is)
operator_alike old new other ListAll calls more text told is it kept had has = (is.1 ∙ sym it.1, is.2 ∙ sym it.2)
operator_alike old new other Owners calls more text told is it kept had has = grind (arith, owners_alike, owners_alike old.service is.0 it.0 is.1 it.1)

act_alike : (old new other : Stage) (act : Act (List ℕ)) (calls more : List Call) (text told : List ℕ) → IsAnswered old act calls text new → IsAnswered old act more told other → Kept old.service → HadMemory calls → HadMemory more → (text ≡ told) × (new ≡ other)
act_alike old new other act calls more text told is it kept had has = grind (arith, operator_alike, line_alike)

-- answers to the same acts with the same texts
abbrev Alike : List Telling → List Telling → Type 0
Alike [] [] = ⊤
Alike [] (u ∷ us) = ⊥
Alike (t ∷ ts) [] = ⊥
Alike (t ∷ ts) (u ∷ us) = (t.act ≡ u.act) × (t.text ≡ u.text) × Alike ts us

tells_alike : (ts us : List Telling) (old last end : Stage) → Tells old ts last → Tells old us end → map (λ t. t.act) ts ≡ map (λ t. t.act) us → Kept old.service → AllHadMemory ts → AllHadMemory us → Alike ts us
tells_alike [] [] old last end tells told acts kept had has = tt
tells_alike [] (u ∷ us) old last end tells told acts kept had has = cc
tells_alike (t ∷ ts) [] old last end tells told acts kept had has = cc
tells_alike (t ∷ ts) (u ∷ us) old last end tells told acts kept had has =
    let act : t.act ≡ u.act = cc in
    let rest : map (λ (t : Telling). t.act) ts ≡ map (λ (t : Telling). t.act) us = cc in
    let P : Act (List ℕ) → Type 0 = λ a. IsAnswered old a u.calls u.text told.0 in
    let same = act_alike old tells.0 told.0 t.act t.calls u.calls t.text u.text tells.1 (subst P (sym act) told.1) kept had.0 has.0 in
    let Q : Stage → Type 0 = λ s. Tells s us end in
    (act, same.0, tells_alike ts us tells.0 last end tells.2 (subst Q (sym same.1) told.2) rest (run_keeps old.service t.calls (tells.0).service (answered_runs old t.act t.calls t.text tells.0 tells.1) kept) had.1 has.1)

operator_texts : (ts us : List Telling) → Alike ts us → flat_map (λ t. told_operator t.act t.text) ts ≡ flat_map (λ t. told_operator t.act t.text) us
operator_texts [] [] alike = refl
operator_texts [] (u ∷ us) alike = absurd alike
operator_texts (t ∷ ts) [] alike = absurd alike
operator_texts (t ∷ ts) (u ∷ us) alike = grind (arith, operator_texts ts us alike.2)

sections_alike : (ts us : List Telling) (sections : List Section) → Alike ts us → sections_after sections ts ≡ sections_after sections us
sections_alike [] [] sections alike = refl
sections_alike [] (u ∷ us) sections alike = absurd alike
sections_alike (t ∷ ts) [] sections alike = absurd alike
sections_alike (t ∷ ts) (u ∷ us) sections alike = grind (arith, sections_alike ts us (told_session sections u.act u.text) alike.2)

written_alike : (ts us : List Telling) → Alike ts us → replies_text ts ≡ replies_text us
written_alike ts us alike = grind (arith, operator_texts, sections_alike)

pub has_one_output : HasOneOutput
has_one_output options start output other r s had has = grind (arith, written_alike, tells_alike, all_had)
