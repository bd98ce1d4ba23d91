-- Which tenancies are live, and which id a name has.
use Rattle.live_machine.proofs.Prelude.{◌≡◌, ◌≢◌, ℕ, ◌+◌, ◌-◌, ◌≤◌, List, [], ◌∷◌, ◌++◌, Bool, true, false, cond, eqb, Some, None, Result, Ok, Err, length, refl, sym, ap, ◌∙◌, arith, is_some, option_and_then, ⊤, AllByRecursion, bytes_eq, eqb-true, false≢true, bytes_eq-Decides, History, Call, Happens, Run, OpRefusal, ServiceState, history_of, live_of, with_changed, last_id}
use Rattle.service_core.specs.Run.Call.{Admit, Evict, Move}

-- that tenancy is live
abbrev pub alive : List History → ℕ → Bool
alive hs id = is_some (live_of hs id)

alive_none : (hs : List History) → alive hs 0 ≡ false
alive_none [] = refl
alive_none (h ∷ hs) = alive_none hs

by_live : (b : Bool) (a : History) → is_some (cond b (Some a) None) ≡ b
by_live b a = grind arith

is_live : (a : History) → is_some (cond a.live (Some a) None) ≡ a.live
is_live a = by_live a.live a

-- histories that change, but not in whether they are live
changed_alive : (hs : List History) (id at : ℕ) (change : History → History) → ((h : History) → (change h).live ≡ h.live) → alive (with_changed hs at change) id ≡ alive hs id
changed_alive [] id at change same = refl
changed_alive (h ∷ hs) id at change same = grind (arith, changed_alive hs (id - 1) (at - 1) change same)

pub not_alive : (hs : List History) (id : ℕ) → alive hs id ≡ true → id ≢ 0
not_alive hs id live none = false≢true (sym (alive_none hs) ∙ (ap (alive hs) (sym none) ∙ live))

-- one of the histories ends: the others stay
ended_alive : (hs : List History) (id at : ℕ) (end : History → History) → at ≢ id → alive hs id ≡ true → alive (with_changed hs at end) id ≡ true
ended_alive [] id at end apart live = live
ended_alive (h ∷ hs) id at end apart live =
    elim (eqb at 1) as (λ a. eqb at 1 ≡ a → alive (cond a (end h ∷ hs) (h ∷ with_changed hs (at - 1) end)) id ≡ true) [
      | true ↦ λ first.
          elim (eqb id 1) as (λ i. eqb id 1 ≡ i → is_some (option_and_then (λ x. cond x.live (Some x) None) (cond i (Some h) (history_of hs (id - 1)))) ≡ true → is_some (option_and_then (λ x. cond x.live (Some x) None) (cond i (Some (end h)) (history_of hs (id - 1)))) ≡ true) [
            | true ↦ λ same _. absurd (apart (eqb-true at 1 first ∙ sym (eqb-true id 1 same)))
            | false ↦ λ other l. l
          ] refl live
      | false ↦ λ later.
          elim (eqb id 1) as (λ i. eqb id 1 ≡ i → is_some (option_and_then (λ x. cond x.live (Some x) None) (cond i (Some h) (history_of hs (id - 1)))) ≡ true → is_some (option_and_then (λ x. cond x.live (Some x) None) (cond i (Some h) (history_of (with_changed hs (at - 1) end) (id - 1)))) ≡ true) [
            | true ↦ λ same l. l
            | false ↦ λ other l.
                let not_at : at ≢ 1 = λ e. false≢true (sym later ∙ ap (λ n. eqb n 1) e) in
                let not_id : id ≢ 1 = λ e. false≢true (sym other ∙ ap (λ n. eqb n 1) e) in
                let some : id - 1 ≢ 0 = not_alive hs (id - 1) l in
                let still : at - 1 ≢ id - 1 = λ e. apart (omega (arith, e, some)) in
                ended_alive hs (id - 1) (at - 1) end still l
          ] refl live
    ] refl

-- one more history: the others stay
added_alive : (hs : List History) (h : History) (id : ℕ) → alive hs id ≡ true → alive (hs ++ h ∷ []) id ≡ true
added_alive [] h id live = absurd (false≢true live)
added_alive (first ∷ hs) h id live =
    elim (eqb id 1) as (λ i. is_some (option_and_then (λ x. cond x.live (Some x) None) (cond i (Some first) (history_of hs (id - 1)))) ≡ true → is_some (option_and_then (λ x. cond x.live (Some x) None) (cond i (Some first) (history_of (hs ++ h ∷ []) (id - 1)))) ≡ true) [
      | true ↦ λ l. l
      | false ↦ λ l. added_alive hs h (id - 1) l
    ] live

-- a call that neither admits nor evicts nor moves
abbrev pub IsQuiet : Call → Type 0
IsQuiet (Admit width answer) = ⊥
IsQuiet (Evict id answer) = ⊥
IsQuiet (Move id offset answer) = ⊥
IsQuiet call = ⊤

stays_alive : (old new : ServiceState) (id : ℕ) → alive old.histories id ≡ true → new ≡ old → alive new.histories id ≡ true
stays_alive old new id live same = ap (λ (s : ServiceState). alive s.histories id) same ∙ live

change_alive : (old new : ServiceState) (id at : ℕ) (change : History → History) → alive old.histories id ≡ true → ((h : History) → (change h).live ≡ h.live) → new ≡ record old { histories = with_changed old.histories at change } → alive new.histories id ≡ true
change_alive old new id at change live same is = ap (λ (s : ServiceState). alive s.histories id) is ∙ (changed_alive old.histories id at change same ∙ live)

pub quiet_alive : (old new : ServiceState) (call : Call) (id : ℕ) → IsQuiet call → alive old.histories id ≡ true → Happens old call new → alive new.histories id ≡ true
quiet_alive old new call id quiet live happens = grind (arith, change_alive)

pub run_alive : (old new : ServiceState) (calls : List Call) (id : ℕ) → AllByRecursion IsQuiet calls → alive old.histories id ≡ true → Run old calls new → alive new.histories id ≡ true
run_alive old new [] id quiet live same = stays_alive old new id live same
run_alive old new (call ∷ calls) id quiet live (mid, one, rest) = run_alive mid new calls id quiet.1 (quiet_alive old mid call id quiet.0 live one) rest

-- an admission, an eviction of another, and a move
pub admitted_alive : (old new : ServiceState) (width : ℕ) (answer : Result (ℕ × ℕ) OpRefusal) (id : ℕ) → alive old.histories id ≡ true → Happens old (Admit width answer) new → alive new.histories id ≡ true
admitted_alive old new width answer id live h2 = grind (arith, added_alive)

pub evicted_alive : (old new : ServiceState) (at : ℕ) (answer : Result (Unit {0}) OpRefusal) (id : ℕ) → at ≢ id → alive old.histories id ≡ true → Happens old (Evict at answer) new → alive new.histories id ≡ true
evicted_alive old new at (Ok nothing) id apart live (some, is) = ap (λ (s : ServiceState). alive s.histories id) is ∙ ended_alive old.histories id at (λ h. record h { live = false; here = Some false }) apart live
evicted_alive old new at (Err refusal) id apart live (why, gone, same) = stays_alive old new id live same

pub moved_alive : (old new : ServiceState) (at offset : ℕ) (answer : Result (Unit {0}) OpRefusal) (id : ℕ) → alive old.histories id ≡ true → Happens old (Move at offset answer) new → alive new.histories id ≡ true
moved_alive old new at offset answer id live happens = grind arith

-- two names have not the same id
last_bound : (names : List (List ℕ)) (name : List ℕ) → last_id names name ≤ length names
last_bound [] name = omega arith
last_bound (newest ∷ older) name = grind (arith, last_bound older name)

pub ids_apart : (names : List (List ℕ)) (one other : List ℕ) → bytes_eq one other ≡ false → last_id names other ≢ 0 → last_id names one ≢ last_id names other
ids_apart [] one other apart some = λ same. some refl
ids_apart (newest ∷ older) one other apart some =
    let one_bound = last_bound older one in
    let other_bound = last_bound older other in
    elim (bytes_eq newest one) as (λ a. bytes_eq newest one ≡ a → cond a (length older + 1) (last_id older one) ≢ last_id (newest ∷ older) other) [
      | true ↦ λ is.
          elim (bytes_eq newest other) as (λ b. bytes_eq newest other ≡ b → length older + 1 ≢ cond b (length older + 1) (last_id older other)) [
            | true ↦ λ so. absurd (false≢true (sym apart ∙ (ap (λ n. bytes_eq n other) (sym ((bytes_eq-Decides newest one).0 is)) ∙ so)))
            | false ↦ λ so same. omega (arith, other_bound, same)
          ] refl
      | false ↦ λ is.
          elim (bytes_eq newest other) as (λ b. bytes_eq newest other ≡ b → cond b (length older + 1) (last_id older other) ≢ 0 → last_id older one ≢ cond b (length older + 1) (last_id older other)) [
            | true ↦ λ so s same. omega (arith, one_bound, same)
            | false ↦ λ so s. ids_apart older one other apart s
          ] refl some
    ] refl
