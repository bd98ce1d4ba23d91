-- Whose a line is, and what each name hears of it.
use Rattle.live_machine.proofs.Prelude.{◌≡◌, ℕ, List, [], ◌∷◌, ◌++◌, Bool, true, false, ◌&&◌, Option, None, refl, sym, subst, append-nil, arith, bytes_eq, is_name, SessionLine, TextSoFar, items_to_come, rest_of, items_for, said_by, LiveState, asked_of, Says, items_with, named, not_of, says, AnswersLine, is_nobodys, form_of, is_wait, is_busy, is_outside, must_wait}
use Rattle.live_machine.proofs.FollowLemmas.{IsOf}
use Rattle.live_machine.proofs.HeldLemmas.{one_name, same_name}

-- what holds of a name and of each other one holds of each
pub each_name : (F : List ℕ → Type 0) (name : List ℕ) → F name → ((other : List ℕ) → bytes_eq name other ≡ false → is_name other ≡ true → F other) → (other : List ℕ) → is_name other ≡ true → F other
each_name F name own others other ok =
    elim (bytes_eq name other) as (λ b. bytes_eq name other ≡ b → F other) [
      | true ↦ λ e. subst F (one_name name other e) own
      | false ↦ λ e. others other e ok
    ] refl

-- a `wait` that can't be answered yet
waits_as : (text : Option TextSoFar) (wait busy : Bool) → is_outside text && (wait && busy) ≡ true → (text ≡ None) × (wait ≡ true) × (busy ≡ true)
waits_as text wait busy is = grind arith

pub must_wait_so : (live : LiveState) (name line : List ℕ) → must_wait live name line ≡ true → (live.texts name ≡ None) × (is_wait (form_of line) ≡ true) × (is_busy live name ≡ true)
must_wait_so live name line waits = waits_as (live.texts name) (is_wait (form_of line)) (is_busy live name) waits

-- a line that a name says has its tag
has_tag : (name said line : List ℕ) → asked_of line ≡ Says name said → IsOf name line
has_tag name said line is = search (not_of, same_name, arith)

pub said_of : (name said line : List ℕ) → asked_of line ≡ Says name said → IsOf name line × (is_name name ≡ true) × (rest_of line ≡ said)
said_of name said line is = grind (arith, named, has_tag)

pub said_nobody : (name line : List ℕ) → is_name name ≡ true → is_nobodys (asked_of line) ≡ true → said_by name (line ∷ []) ≡ []
said_nobody name line ok is = search (says, arith)

-- what a name hears of a line, whatever lines come after it
pub line_read : (name : List ℕ) → is_name name ≡ true → (old : LiveState) (number : ℕ) (line reply : List ℕ) (new : LiveState) → AnswersLine old number line reply new →
    (items : List SessionLine) × ((more : List (List ℕ)) → items_to_come (old.texts name) (said_by name (line ∷ []) ++ more) ≡ items ++ items_to_come (new.texts name) more)
line_read name ok old number line reply new answers = (
  items_for name answers.tellings,
  λ more.
      items_with name old new number (line ∷ []) answers.tellings answers.told more ok
      (answers.tellings, answers.told, new, [], [], answers.takes, (refl, refl, refl), sym (append-nil answers.tellings), sym (append-nil answers.told)),
)
