-- What one line changes.
use Rattle.device_lines.proofs.Prelude.{◌≡◌, ℕ, List, [], ◌∷◌, ◌++◌, Bool, true, false, cond, Option, Some, None, Result, Ok, Err, refl, sym, ap, ◌∙◌, subst, codes, ◌&&◌, is_some, option_map, list_all, option_or, NotParted, OutOfOrder, UnknownLine, DeviceFault, InputFault, Behind, TextError, DeviceSize, Listed, OwnedNode, begins_with_digit, change_in, is_name, is_on_device, is_silent, is_state, listed_in, listed_on, owner_count, IsStep, Seen, Step, are_parted, seen_in_list, first_foreign, follows, owner_fault, last_fault, last_of, list_line, missing_part, other_line, reply_line, with_change, with_owned, after_text}

-- a tenancy's values
values : (size : DeviceSize) (one : Listed) (a b c : Bool) → a ≡ is_name one.name → (b ≡ is_state one.state) → c ≡ is_on_device size one.offset one.width → cond (a && (b && c)) (Some one) None ≡ listed_on size one
values size one a b c e f g = ap (λ t. cond (t && (b && c)) (Some one) None) e ∙ ap (λ t. cond (is_name one.name && (t && c)) (Some one) None) f ∙ ap (λ t. cond (is_name one.name && (is_state one.state && t)) (Some one) None) g

pub is_nameless : (size : DeviceSize) (one : Listed) → false ≡ is_name one.name → None ≡ listed_on size one
is_nameless size one e = values size one false (is_state one.state) (is_on_device size one.offset one.width) e refl refl

pub is_stateless : (size : DeviceSize) (one : Listed) → true ≡ is_name one.name → false ≡ is_state one.state → None ≡ listed_on size one
is_stateless size one e f = values size one true false (is_on_device size one.offset one.width) e f refl

pub is_outside : (size : DeviceSize) (one : Listed) → true ≡ is_name one.name → true ≡ is_state one.state → false ≡ is_on_device size one.offset one.width → None ≡ listed_on size one
is_outside size one e f g = values size one true true false e f g

pub is_shown : (size : DeviceSize) (one : Listed) → true ≡ is_name one.name → true ≡ is_state one.state → true ≡ is_on_device size one.offset one.width → Some one ≡ listed_on size one
is_shown size one e f g = values size one true true true e f g

-- a line of a list
parted_as : (seen mid : Seen) (one : Listed) (o : Option Listed) (b : Bool) → Some one ≡ o → mid ≡ seen_in_list seen one.id → b ≡ list_all (λ other. are_parted other one) mid.listed →
    list_line seen o ≡ cond b (Ok (record mid { listed = mid.listed ++ one ∷ [] })) (Err NotParted)
parted_as seen mid one o b is begins test =
    ap (list_line seen) (sym is)
    ∙ ap (λ (s : Seen). cond (list_all (λ other. are_parted other one) s.listed) (Ok (record s { listed = s.listed ++ one ∷ [] })) (Err NotParted)) (sym begins)
    ∙ ap (λ t. cond t (Ok (record mid { listed = mid.listed ++ one ∷ [] })) (Err NotParted)) (sym test)

pub is_refused : (seen mid : Seen) (one : Listed) (o : Option Listed) → Some one ≡ o → mid ≡ seen_in_list seen one.id → false ≡ list_all (λ other. are_parted other one) mid.listed → list_line seen o ≡ Err NotParted
is_refused seen mid one o is begins test = parted_as seen mid one o false is begins test

pub is_listed : (seen mid : Seen) (one : Listed) (o : Option Listed) (new : List Listed) → Some one ≡ o → mid ≡ seen_in_list seen one.id → true ≡ list_all (λ other. are_parted other one) mid.listed → mid.listed ++ one ∷ [] ≡ new →
    list_line seen o ≡ Ok (record mid { listed = new })
is_listed seen mid one o new is begins test all = parted_as seen mid one o true is begins test ∙ ap (λ (ls : List Listed). Ok (record mid { listed = ls })) all

-- an owner's line
pub is_disordered : (seen : Seen) (rest : ℕ) (one : OwnedNode) → false ≡ follows (last_of seen.owned) one → with_owned seen rest one ≡ Err OutOfOrder
is_disordered seen rest one test = ap (λ t. cond t (Ok (record seen { owned = seen.owned ++ one ∷ []; awaited = rest })) (Err OutOfOrder)) (sym test)

pub is_added : (seen : Seen) (rest : ℕ) (one : OwnedNode) (new : List OwnedNode) → true ≡ follows (last_of seen.owned) one → seen.owned ++ one ∷ [] ≡ new → with_owned seen rest one ≡ Ok (record seen { owned = new; awaited = rest })
is_added seen rest one new test all =
    ap (λ t. cond t (Ok (record seen { owned = seen.owned ++ one ∷ []; awaited = rest })) (Err OutOfOrder)) (sym test) ∙ ap (λ (ns : List OwnedNode). Ok (record seen { owned = ns; awaited = rest })) all

-- another reply
pub is_unknown : (seen : Seen) (line : List ℕ) (number : ℕ) (o : Option ℕ) → None ≡ o → false ≡ is_silent line → other_line seen line number o ≡ Err UnknownLine
is_unknown seen line number o none test =
    ap (other_line seen line number) (sym none) ∙ ap (λ t. cond t (Ok (with_change seen number (change_in line))) (Err UnknownLine)) (sym test)

pub is_silent_line : (seen new : Seen) (line : List ℕ) (number : ℕ) (o : Option ℕ) → None ≡ o → true ≡ is_silent line → new ≡ with_change seen number (change_in line) → other_line seen line number o ≡ Ok new
is_silent_line seen new line number o none test is =
    ap (other_line seen line number) (sym none) ∙ ap (λ t. cond t (Ok (with_change seen number (change_in line))) (Err UnknownLine)) (sym test) ∙ ap Ok (sym is)

-- a reply by its first bytes
abbrev reply_by : Bool → Bool → Seen → List ℕ → ℕ → Step
reply_by digit heading seen line number =
    cond digit (list_line seen (listed_in seen.size line)) (cond heading (Ok (record seen { in_list = false; place = Behind })) (other_line (record seen { in_list = false }) line number (owner_count line)))

pub reply_listed : (seen new : Seen) (line : List ℕ) (number : ℕ) (result : Result (Unit {0}) (TextError DeviceFault)) → true ≡ begins_with_digit line → IsStep (list_line seen (listed_in seen.size line)) new result → IsStep (reply_line seen line number) new result
reply_listed seen new line number result test is =
    let P : Bool → Type 0 = λ b. IsStep (reply_by b (is_some (after_text (codes "== ") line)) seen line number) new result in
    subst P test is

pub reply_heading : (seen : Seen) (line : List ℕ) (number : ℕ) → false ≡ begins_with_digit line → true ≡ is_some (after_text (codes "== ") line) → reply_line seen line number ≡ Ok (record seen { in_list = false; place = Behind })
reply_heading seen line number digit heading =
    ap (λ b. reply_by b (is_some (after_text (codes "== ") line)) seen line number) (sym digit) ∙ ap (λ b. reply_by false b seen line number) (sym heading)

pub reply_other : (seen new : Seen) (line : List ℕ) (number : ℕ) (result : Result (Unit {0}) (TextError DeviceFault)) → false ≡ begins_with_digit line → false ≡ is_some (after_text (codes "== ") line) →
    IsStep (other_line (record seen { in_list = false }) line number (owner_count line)) new result → IsStep (reply_line seen line number) new result
reply_other seen new line number result digit heading is =
    let P : Bool → Type 0 = λ b. IsStep (reply_by b (is_some (after_text (codes "== ") line)) seen line number) new result in
    let Q : Bool → Type 0 = λ b. IsStep (reply_by false b seen line number) new result in
    subst P digit (subst Q heading is)

-- the end
pub fault_missing : (seen : Seen) (lines : ℕ) (fault : InputFault) → Some fault ≡ missing_part seen lines → Some fault ≡ last_fault seen lines
unfolding last_fault
fault_missing seen lines fault is = ap (λ o. option_or o (option_map (owner_fault seen) (first_foreign seen))) is

pub fault_none : (seen : Seen) (lines : ℕ) → None ≡ missing_part seen lines → None ≡ first_foreign seen → None ≡ last_fault seen lines
unfolding last_fault
fault_none seen lines is none = ap (λ o. option_map (owner_fault seen) o) none ∙ ap (λ o. option_or o (option_map (owner_fault seen) (first_foreign seen))) is

pub fault_foreign : (seen : Seen) (lines place : ℕ) → None ≡ missing_part seen lines → Some place ≡ first_foreign seen → Some (owner_fault seen place) ≡ last_fault seen lines
unfolding last_fault
fault_foreign seen lines place is some = ap (λ o. option_map (owner_fault seen) o) some ∙ ap (λ o. option_or o (option_map (owner_fault seen) (first_foreign seen))) is
