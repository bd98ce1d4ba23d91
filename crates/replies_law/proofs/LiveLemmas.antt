-- The number of live tenancies, and their lines in the operator's list.
use Rattle.replies_law.proofs.Prelude.{◌≡◌, ℕ, zero, suc, ◌+◌, ◌-◌, ◌<◌, ◌≤◌, Bool, true, false, cond, List, [], ◌∷◌, ◌++◌, length, take, get_or, Option, Some, None, refl, sym, ap, ◌∙◌, arith, subst, append-nil, ⊤, IsSome, option_and_then, false≢true, take_more, take-length, JobState, History, Call, Happens, Run, IsGivenBackTo, ServiceState, history_of, live_of, with_changed, offset_of, list_text, listed_text, AreSteady, Steady, NoFeed}
use Rattle.service_core.specs.declared.op_refusal.OpRefusal.TheVariants as Op
use Rattle.replies_law.proofs.FeedLemmas.{IsLine, decimal_no_feed, no_feed-append}
use Rattle.replies_law.proofs.FormLemmas.{AreLines, lines_more}
use Rattle.replies_law.proofs.AnswerLemmas.{line_of_bytes}

abbrev pub lives : List History → ℕ
lives [] = 0
lives (h ∷ hs) = cond h.live 1 0 + lives hs

pub lives-append : (xs ys : List History) → lives (xs ++ ys) ≡ lives xs + lives ys
lives-append [] ys = omega arith
lives-append (h ∷ xs) ys = let more = lives-append xs ys in omega (arith, more)

-- a change that keeps which tenancies are live
lives-kept : (hs : List History) (id : ℕ) (change : History → History) → ((h : History) → (change h).live ≡ h.live) → lives (with_changed hs id change) ≡ lives hs
lives-kept [] id change same = refl
lives-kept (h ∷ hs) id change same = grind (arith, lives-kept hs (id - 1) change same)

-- and one that ends a tenancy
pub lives-ended : (hs : List History) (id : ℕ) (change : History → History) → ((h : History) → (change h).live ≡ false) → IsSome (live_of hs id) → lives (with_changed hs id change) + 1 ≡ lives hs
lives-ended [] id change ends is = absurd (false≢true is)
lives-ended (h ∷ hs) id change ends is = grind (arith, lives-ended hs (id - 1) change ends)

same : (old new : ServiceState) → new ≡ old → lives old.histories ≡ lives new.histories
same old new is = ap (λ (s : ServiceState). lives s.histories) (sym is)

changed : (old new : ServiceState) (id : ℕ) (change : History → History) → ((h : History) → (change h).live ≡ h.live) → new ≡ record old { histories = with_changed old.histories id change } → lives old.histories ≡ lives new.histories
changed old new id change keeps is = rw is (sym (lives-kept old.histories id change keeps))

given : (o : Option History) (old new : ServiceState) (job : JobState) → IsGivenBackTo o old job new → lives old.histories ≡ lives new.histories
given o old new job is = grind (arith, changed)

lives-happens : (old new : ServiceState) (call : Call) → Steady call → Happens old call new → lives old.histories ≡ lives new.histories
lives-happens old new call never is = grind (arith, changed)

pub lives-run : (old new : ServiceState) (calls : List Call) → AreSteady calls → Run old calls new → lives old.histories ≡ lives new.histories
lives-run old new [] steady run = same old new run
lives-run old new (call ∷ calls) steady run = lives-happens old run.0 call steady.0 run.1 ∙ lives-run run.0 new calls steady.1 run.2

-- names without a line feed
abbrev pub AreOther : List (List ℕ) → Type 0
AreOther [] = ⊤
AreOther (name ∷ names) = NoFeed name × AreOther names

-- the history of an id, by its index
history_at : (hs : List History) (k : ℕ) (d : History) → k < length hs → history_of hs (k + 1) ≡ Some (get_or hs k d)
history_at [] k d within = absurd (omega arith)
history_at (h ∷ hs) zero d within = refl
history_at (h ∷ hs) (suc k) d within = grind (arith, history_at hs k d (omega (arith, within)))

listed_line : (h : History) (offset : Option ℕ) (id : ℕ) (name : List ℕ) → NoFeed name → IsLine (listed_text (Some h) offset id name)
listed_line h offset id name all = grind (arith, line_of_bytes, no_feed-append, decimal_no_feed)

-- the list has a line for each live tenancy
listed_so_far : (service : ServiceState) (names : List (List ℕ)) (d : History) → length names ≤ length service.histories → AreOther names → AreLines (lives (take (length names) service.histories)) (list_text service names)
listed_so_far service [] d few all = refl
listed_so_far service (newest ∷ older) d few all =
    let hs = service.histories in
    let k = length older in
    let h = get_or hs k d in
    let within : k < length hs = omega (arith, few) in
    let front = listed_so_far service older d (omega (arith, few)) all.1 in
    let more : lives (take (k + 1) hs) ≡ lives (take k hs) + (cond h.live 1 0 + 0) = ap lives (take_more hs k d within) ∙ lives-append (take k hs) (h ∷ []) in
    let live : live_of hs (k + 1) ≡ cond h.live (Some h) None = ap (option_and_then (λ (g : History). cond g.live (Some g) None)) (history_at hs k d within) in
    let P : ℕ → Type 0 = λ n. AreLines (lives (take n hs)) (list_text service (newest ∷ older)) in
    let Q : ℕ → Type 0 = λ n. AreLines n (list_text service (newest ∷ older)) in
    let R : Option History → Type 0 = λ o. AreLines (lives (take k hs) + (cond h.live 1 0 + 0)) (list_text service older ++ listed_text o (offset_of service.plan.strips (k + 1)) (k + 1) newest) in
    let e : k + 1 ≡ suc k = omega arith in
    subst P e (subst Q (sym more) (subst R (sym live) (by_live h.live front)))
  where
    by_live : (b : Bool) → AreLines (lives (take (length older) service.histories)) (list_text service older) →
        AreLines (lives (take (length older) service.histories) + (cond b 1 0 + 0)) (list_text service older ++ listed_text (cond b (Some (get_or service.histories (length older) d)) None) (offset_of service.plan.strips (length older + 1)) (length older + 1) newest)
    by_live true front =
        let h = get_or service.histories (length older) d in
        lines_more (lives (take (length older) service.histories)) (list_text service older) (listed_text (Some h) (offset_of service.plan.strips (length older + 1)) (length older + 1) newest) front
        (listed_line h (offset_of service.plan.strips (length older + 1)) (length older + 1) newest all.0)
    by_live false front =
        let n = lives (take (length older) service.histories) in
        let P : List ℕ → Type 0 = λ t. AreLines (n + 0) t in
        let Q : ℕ → Type 0 = λ m. AreLines m (list_text service older) in
        let e : n ≡ n + 0 = omega arith in
        subst P (sym (append-nil (list_text service older))) (subst Q e front)

pub list_has_lines : (service : ServiceState) (names : List (List ℕ)) → length names ≡ length service.histories → AreOther names → AreLines (lives service.histories) (list_text service names)
list_has_lines service [] even all = by_none service.histories even
  where
    by_none : (hs : List History) → 0 ≡ length hs → AreLines (lives hs) []
    by_none [] e = refl
    by_none (h ∷ hs) e = absurd (omega arith)
list_has_lines service (newest ∷ older) even all = by_some service.histories refl
  where
    by_some : (hs : List History) → service.histories ≡ hs → AreLines (lives service.histories) (list_text service (newest ∷ older))
    by_some [] e = let none = ap length e in absurd (omega (arith, even, none))
    by_some (h ∷ hs) e =
        let P : List History → Type 0 = λ l. AreLines (lives l) (list_text service (newest ∷ older)) in
        let whole : take (length (newest ∷ older)) service.histories ≡ service.histories = ap (λ n. take n service.histories) even ∙ take-length service.histories in
        subst P whole (listed_so_far service (newest ∷ older) h (omega (arith, even)) all)
