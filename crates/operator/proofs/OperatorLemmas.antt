-- The names of all ids, and the last id of each.
use Rattle.operator.proofs.Prelude.{◌≡◌, ◌≢◌, ℕ, ◌+◌, ◌-◌, ltb, get_or, arith, Result, codes, length-append, List, [], ◌∷◌, ◌++◌, true, false, cond, Option, Some, length, refl, sym, ap, ◌∙◌, subst, reverse, unwrap_or, option_copied, option_map, slice_get, is_some, IfSome, OnErr, OnOk, Bor, lookup, bytes_eq, map_push, reverse-append, reverse-reverse, slice_get-map, slice_get_past, slice_get_read, Basis, StateName, OpRefusal, History, state_of, ServiceState, with_changed, IsAdmitted, IsEvicted, IsMoved, Admit as AdmitCall, Evict as EvictCall, Move as MoveCall, same_histories, texts, AreLastIds, newest_first, admitted_text, evicted_text, last_id, moved_text, name_of, names_after, refused_text, HeldList, Stage, IsAdmission, IsServed}
use Rattle.script_text.specs.declared.operator_line.OperatorLine.TheVariants.{Evict, Move}

pub newest_first-push : (admitted : List (Bor (List ℕ))) (name : Bor (List ℕ)) → newest_first (admitted ++ name ∷ []) ≡ name.now ∷ newest_first admitted
newest_first-push admitted name = ap reverse (map_push (λ slice. slice.now) admitted name) ∙ reverse-append (texts admitted) (name.now ∷ [])

-- the name at a place, from the names in the order of admission
named : (admitted : List (Bor (List ℕ))) (k : ℕ) → slice_get (reverse (newest_first admitted)) k ≡ option_copied (slice_get admitted k)
named admitted k = ap (λ names. slice_get names k) (reverse-reverse (texts admitted)) ∙ slice_get-map (λ slice. slice.now) admitted k

-- what is read at an index
pub read_at : {T : Type 0} (xs : List T) (k : ℕ) (found : Option (Bor T)) → is_some found ≡ ltb k (length xs) → IfSome found (λ x. x.now ≡ get_or xs k x.now) → option_copied found ≡ slice_get xs k
read_at xs k found within value = grind (arith, slice_get_past, slice_get_read)

-- the name of an id, from the name at its place
pub name_by : (admitted : List (Bor (List ℕ))) (id : ℕ) (found : Option (Bor (List ℕ))) → id ≢ 0 → found ≡ slice_get admitted (id - 1) → option_copied found ≡ name_of (newest_first admitted) id
name_by admitted id found some is = grind (arith, named)

-- a name's new id is its last one
pub AreLastIds-insert : (old new : List (Bor (List ℕ) × ℕ)) (names : List (List ℕ)) (name : Bor (List ℕ)) (id : ℕ) →
    ((q : Bor (List ℕ)) → lookup (λ key. bytes_eq q.now key.now) new ≡ cond (bytes_eq name.now q.now) (Some id) (lookup (λ key. bytes_eq q.now key.now) old)) →
    id ≡ length names + 1 → AreLastIds old names → AreLastIds new (name.now ∷ names)
AreLastIds-insert old new names name id updates is_next were = λ asked.
    let q : Bor (List ℕ) = record name { now = asked } in
    ap (λ o. unwrap_or o 0) (updates q) ∙ (elim (bytes_eq name.now asked) as (λ b. unwrap_or (cond b (Some id) (lookup (λ key. bytes_eq asked key.now) old)) 0 ≡ cond b (length names + 1) (last_id names asked)) [
      | true ↦ is_next
      | false ↦ were asked
    ])

pub on_ok : {E : Type 0} {P Q : Type 0} (r : Result (Unit {0}) E) → (P → Q) → OnOk r P → OnOk r Q
on_ok r f p = grind arith

pub on_err : {E : Type 0} {P : Type 0} (r : Result (Unit {0}) E) → P → OnErr r P
on_err r p = grind arith

pub on_err_more : {E : Type 0} {P Q : Type 0} (r : Result (Unit {0}) E) → (P → Q) → OnErr r P → OnErr r Q
on_err_more r f p = grind arith

-- a name that is in use
pub refuses : (live : Option History) (state : Option StateName) (old : Stage) (name : List ℕ) (width : ℕ) →
    state ≡ option_map (λ h. (state_of h).name) live → true ≡ is_some state → IsAdmission live old name width [] (refused_text 7 (codes "NameInUse")) old
refuses live state old name width is some = grind arith

pub lengths-admitted : (old new : ServiceState) (width : ℕ) (answer : Result (ℕ × ℕ) OpRefusal) (names : List (List ℕ)) (name : List ℕ) →
    length names ≡ length old.histories → IsAdmitted old width answer new → length (names_after names name answer) ≡ length new.histories
lengths-admitted old new width answer names name same is = grind (arith, length-append)

-- a name that is not
pub admits : (live : Option History) (state : Option StateName) (old new : Stage) (name : List ℕ) (width : ℕ) (answer : Result (ℕ × ℕ) OpRefusal) →
    state ≡ option_map (λ h. (state_of h).name) live → false ≡ is_some state → IsAdmitted old.service width answer new.service → new.names ≡ names_after old.names name answer → new.jobs ≡ old.jobs → new.graph ≡ old.graph →
    IsAdmission live old name width (AdmitCall width answer ∷ []) (admitted_text answer) new
admits live state old new name width answer is none admitted names jobs graph = grind arith

pub length-modified : (histories : List History) (id : ℕ) (change : History → History) → length (with_changed histories id change) ≡ length histories
length-modified [] id change = refl
length-modified (h ∷ hs) id change = grind (arith, length-modified hs (id - 1) change)

pub lengths-evicted : (old new : ServiceState) (id : ℕ) (answer : Result (Unit {0}) OpRefusal) → IsEvicted old id answer new → length old.histories ≡ length new.histories
lengths-evicted old new id answer is = grind (arith, length-modified)

pub evicts : (names : List (List ℕ)) (jobs : HeldList) (graph : Basis) (old new : ServiceState) (name : List ℕ) (id : ℕ) (answer : Result (Unit {0}) OpRefusal) → id ≡ last_id names name → IsEvicted old id answer new →
    IsServed (record { names = names; jobs = jobs; service = old; graph = graph }) (Evict name) (EvictCall id answer ∷ []) (evicted_text answer) (record { names = names; jobs = jobs; service = new; graph = graph })
evicts names jobs graph old new name id answer is evicted = (answer, (let P : ℕ → Type 0 = λ n. IsEvicted old n answer new in subst P is evicted), refl, refl, ap (λ n. EvictCall n answer ∷ []) is, refl, refl)

pub lengths-moved : (old new : ServiceState) (id offset : ℕ) (answer : Result (Unit {0}) OpRefusal) → IsMoved old id offset answer new → length old.histories ≡ length new.histories
lengths-moved old new id offset answer is = ap length (sym (same_histories old id offset answer new is))

pub moves : (names : List (List ℕ)) (jobs : HeldList) (graph : Basis) (old new : ServiceState) (name : List ℕ) (id offset : ℕ) (answer : Result (Unit {0}) OpRefusal) → id ≡ last_id names name → IsMoved old id offset answer new →
    IsServed (record { names = names; jobs = jobs; service = old; graph = graph }) (Move name offset) (MoveCall id offset answer ∷ []) (moved_text offset answer) (record { names = names; jobs = jobs; service = new; graph = graph })
moves names jobs graph old new name id offset answer is moved = (answer, (let P : ℕ → Type 0 = λ n. IsMoved old n offset answer new in subst P is moved), refl, refl, ap (λ n. MoveCall n offset answer ∷ []) is, refl, refl)
