-- All that was said and served so far.
use Rattle.live_machine.proofs.Prelude.{◌≡◌, ℕ, List, [], ◌∷◌, ◌++◌, Bool, true, false, Option, Some, refl, sym, ap, subst, ◌∙◌, append_assoc, append-nil, arith, AllByRecursion, flat_map-append, Step, is_name, SessionLine, TextSoFar, said_by, Asked, LiveState, asked_of, Operates, says, is_nobodys, nobodys_line, nobodys_lines, Held, held_of, IsMade, MachineState, Serves, ServesNobodys, Works, is_by_hand, IsDay, IsNobodysLine, IsServedAs, IsServedTurn, Turn, heard_lines, log_of, told_of, Answers}
use Rattle.live_machine.specs.Turn.Turn.{Works as WorksLine}
use Rattle.live_machine.proofs.FollowLemmas.{AreOf, Follows, follow_other}
use Rattle.live_machine.proofs.LineLemmas.{line_read, said_nobody}
use Rattle.live_machine.proofs.ReadLemmas.{Reads}
use Rattle.live_machine.proofs.TurnLemmas.{Makes, all_both, day_both, heard_both, log_both, said_both, serves_makes, serves_read, told_both, works_makes}

abbrev pub IsNamed : List Held → Type 0
IsNamed held = (name : List ℕ) (h : Held) → held_of held name ≡ Some h → is_name name ≡ true

abbrev pub Followed : LiveState → List (List ℕ) → List (List ℕ) → MachineState → List ℕ → Type 0
Followed begun lines heard now name = Follows name (begun.texts name) (said_by name lines) (said_by name heard) (held_of now.held name) (now.live.texts name)

-- what came, the turns so far, and those of them whose lines and replies are in the machine
pub record Books (begun : LiveState) (first : ℕ) (lines : List (List ℕ)) (taken : List Turn) (now : MachineState) : Type 0 where
  pub turns : List Turn
  pub rest : List Turn
  pub all : turns ≡ taken ++ rest
  pub day : IsDay begun first turns now.live now.next
  pub log : now.log ≡ log_of rest
  pub told : now.told ≡ told_of rest
  pub served : AllByRecursion IsServedTurn turns
  pub said : (name : List ℕ) → is_name name ≡ true → Followed begun lines (heard_lines turns) now name
  pub nobodys : nobodys_lines lines ≡ nobodys_lines (heard_lines turns)
  pub named : IsNamed now.held

pub nobodys_both : (first more : List (List ℕ)) → nobodys_lines (first ++ more) ≡ nobodys_lines first ++ nobodys_lines more
nobodys_both first more = flat_map-append nobodys_line first more

pub not_nobodys : (name : List ℕ) (lines : List (List ℕ)) → is_name name ≡ true → AreOf name lines → nobodys_lines lines ≡ []
not_nobodys name [] ok of = refl
not_nobodys name (line ∷ lines) ok of = grind (arith, says, not_nobodys name lines ok of.1)

-- more turns, and perhaps more lines
pub books_more : (begun : LiveState) (first : ℕ) (lines more heard : List (List ℕ)) (taken turns : List Turn) (old new : MachineState) (b : Books begun first lines taken old) → Makes old turns new → heard_lines turns ≡ heard →
    ((name : List ℕ) → is_name name ≡ true → Followed begun more (heard_lines b.turns ++ heard) new name) → nobodys_lines more ≡ nobodys_lines (heard_lines b.turns ++ heard) → IsNamed new.held → Books begun first more taken new
books_more begun first lines more heard taken turns old new b makes is said nobodys named = grind (arith, heard_both, append_assoc, day_both, log_both, told_both, all_both)

-- the parts of what a name follows, given as other texts
pub follow_as : (name : List ℕ) (begun : Option TextSoFar) (said saying served serving : List (List ℕ)) (held holding : Option Held) (now : Option TextSoFar) → said ≡ saying → served ≡ serving → held ≡ holding → Follows name begun said served held now → Follows name begun saying serving holding now
follow_as name begun said saying served serving held holding now one two three f = grind arith

-- a line of nobody's session is served
so_nobody : (asked : Asked) (heard line : List ℕ) → is_nobodys asked ≡ true → IsNobodysLine (is_by_hand asked) heard line → IsServedAs asked heard line
so_nobody asked heard line is so = grind arith

nobody_served : (begun : LiveState) (first : ℕ) (lines : List (List ℕ)) (taken : List Turn) (old new : MachineState) (heard line : List ℕ) → Books begun first lines taken old → is_nobodys (asked_of heard) ≡ true → is_nobodys (asked_of line) ≡ true → IsNobodysLine (is_by_hand (asked_of heard)) heard line → Serves old line new →
    Books begun first (lines ++ heard ∷ []) taken new
nobody_served begun first lines taken old new heard line b nobodys still so s =
    let held : new.held ≡ old.held = ap (λ (m : MachineState). m.held) s.rest in
    let H : List Held → Type 0 = IsNamed in
    books_more begun first lines (lines ++ heard ∷ []) (heard ∷ []) taken (Answers heard line s.reply ∷ []) old new b (serves_makes old new heard line (so_nobody (asked_of heard) heard line nobodys so) s) refl
    (λ name ok.
    let none = said_nobody name heard ok nobodys in
    let (items, reads) = serves_read name ok old new line [] (said_nobody name line ok still) s in
    follow_as name (begun.texts name) (said_by name lines) (said_by name (lines ++ heard ∷ [])) (said_by name (heard_lines b.turns)) (said_by name (heard_lines b.turns ++ heard ∷ [])) (held_of old.held name) (held_of new.held name) (new.live.texts name)
    (sym (said_both name lines (heard ∷ []) ∙ (ap (λ x. said_by name lines ++ x) none ∙ append-nil (said_by name lines))))
    (sym (said_both name (heard_lines b.turns) (heard ∷ []) ∙ (ap (λ x. said_by name (heard_lines b.turns) ++ x) none ∙ append-nil (said_by name (heard_lines b.turns)))))
    (ap (λ h. held_of h name) (sym held))
    (follow_other name (begun.texts name) (said_by name lines) (said_by name (heard_lines b.turns)) (held_of old.held name) (old.live.texts name) (new.live.texts name) items (b.said name ok) reads))
    (nobodys_both lines (heard ∷ []) ∙ (ap (λ x. x ++ nobodys_lines (heard ∷ [])) b.nobodys ∙ sym (nobodys_both (heard_lines b.turns) (heard ∷ []))))
    (subst H (sym held) b.named)

pub books_nobody : (begun : LiveState) (first : ℕ) (lines : List (List ℕ)) (taken : List Turn) (old new : MachineState) (line : List ℕ) (by_hand : Bool) → Books begun first lines taken old → is_nobodys (asked_of line) ≡ true → is_by_hand (asked_of line) ≡ by_hand → ServesNobodys by_hand line old new →
    Books begun first (lines ++ line ∷ []) taken new
books_nobody begun first lines taken old new line false b nobodys is s = grind (arith, nobody_served)
books_nobody begun first lines taken old new line true b nobodys is (made, asks, s) =
    let P : Bool → Type 0 = λ by. IsNobodysLine by line made in
    nobody_served begun first lines taken old new line made b nobodys (ap is_nobodys asks) (subst P (sym is) asks) s

-- a worker's line
pub books_worked : (begun : LiveState) (first : ℕ) (lines : List (List ℕ)) (taken : List Turn) (old new : MachineState) (line name : List ℕ) → Books begun first lines taken old → IsMade (Operates (Step name 1)) line → Works old line new → Books begun first lines taken new
books_worked begun first lines taken old new line name b so s =
    let held : new.held ≡ old.held = ap (λ (m : MachineState). m.held) s.rest in
    let H : List Held → Type 0 = IsNamed in
    let nothing : (x : List (List ℕ)) → x ++ [] ≡ x = append-nil in
    books_more begun first lines lines [] taken (WorksLine line s.reply ∷ []) old new b (works_makes old new line name so s) refl
    (λ other ok.
    let P : List (List ℕ) → Type 0 = λ l. (items : List SessionLine) × Reads (old.live.texts other) l items (new.live.texts other) in
    let (items, reads) = subst P (said_nobody other line ok (ap is_nobodys so)) (line_read other ok old.live old.next line s.reply new.live s.answers) in
    follow_as other (begun.texts other) (said_by other lines) (said_by other lines) (said_by other (heard_lines b.turns)) (said_by other (heard_lines b.turns ++ [])) (held_of old.held other) (held_of new.held other) (new.live.texts other)
    refl (ap (said_by other) (sym (nothing (heard_lines b.turns)))) (ap (λ h. held_of h other) (sym held))
    (follow_other other (begun.texts other) (said_by other lines) (said_by other (heard_lines b.turns)) (held_of old.held other) (old.live.texts other) (new.live.texts other) items (b.said other ok) reads))
    (b.nobodys ∙ ap nobodys_lines (sym (nothing (heard_lines b.turns))))
    (subst H (sym held) b.named)
