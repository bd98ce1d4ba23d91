-- The turns that calls make.
use Rattle.live_machine.proofs.Prelude.{◌&&◌, ◌≡◌, inl, inr, ℕ, ◌+◌, List, [], ◌∷◌, ◌++◌, codes, Bool, true, false, cond, Option, None, refl, sym, ap, subst, ◌∙◌, append_assoc, append-nil, arith, AllByRecursion, flat_map, bytes_eq, flat_map-append, Step, is_name, SessionLine, Command, TextSoFar, Status, id_of, is_good_id, is_of, owner_of, rest_of, tag_of, with_feed, both, said_by, Asked, LiveState, asked_of, Operates, Says, says, AreAnswered, AnswersLine, form_of, is_wait, IsMade, IsStatusFor, MachineState, Serves, ServesAll, ServesSaid, TellsLost, Works, must_wait, IsDay, IsServedAs, IsServedTurn, Turn, heard_in, heard_lines, log_of, replies_of, served_in, served_lines, told_in, told_of, Answers, Loses}
use Rattle.live_machine.specs.Turn.Turn.{Works as WorksLine}
use Rattle.live_machine.proofs.FollowLemmas.{AreOf, IsOf, wait_whole}
use Rattle.live_machine.proofs.HeldLemmas.{one_name}
use Rattle.live_machine.proofs.LineLemmas.{each_name, line_read, must_wait_so, said_of}
use Rattle.live_machine.proofs.ReadLemmas.{Reads, outside_after, reads_both, rests}

-- lists of turns, one after another
pub heard_both : (first more : List Turn) → heard_lines (first ++ more) ≡ heard_lines first ++ heard_lines more
heard_both first more = flat_map-append heard_in first more

pub told_both : (first more : List Turn) → told_of (first ++ more) ≡ told_of first ++ told_of more
told_both first more = flat_map-append told_in first more

pub log_both : (first more : List Turn) → log_of (first ++ more) ≡ log_of first ++ log_of more
log_both first more = ap (flat_map with_feed) (flat_map-append served_in first more) ∙ flat_map-append with_feed (served_lines first) (served_lines more)

pub said_both : (name : List ℕ) (first more : List (List ℕ)) → said_by name (first ++ more) ≡ said_by name first ++ said_by name more
said_both name first more = flat_map-append (λ l. cond (is_of (64 ∷ name) (tag_of l)) (rest_of l ∷ []) []) first more

pub day_both : (first more : List Turn) (old mid new : LiveState) (number middle next : ℕ) → IsDay old number first mid middle → IsDay mid middle more new next → IsDay old number (first ++ more) new next
day_both [] more old mid new number middle next (same, counted) day = grind arith
day_both (Answers heard line reply ∷ first) more old mid new number middle next (after, answers, rest) day = (after, answers, day_both first more after mid new (number + 1) middle next rest day)
day_both (WorksLine line reply ∷ first) more old mid new number middle next (after, answers, rest) day = (after, answers, day_both first more after mid new (number + 1) middle next rest day)
day_both (Loses name lines ∷ first) more old mid new number middle next rest day = day_both first more old mid new number middle next rest day

pub all_both : (first more : List Turn) → AllByRecursion IsServedTurn first → AllByRecursion IsServedTurn more → AllByRecursion IsServedTurn (first ++ more)
all_both [] more one other = other
all_both (turn ∷ first) more one other = (one.0, all_both first more one.1 other)

-- these turns lead from one machine to another, whatever is held
pub record Makes (old : MachineState) (turns : List Turn) (new : MachineState) : Type 0 where
  pub day : IsDay old.live old.next turns new.live new.next
  pub log : new.log ≡ old.log ++ log_of turns
  pub told : new.told ≡ old.told ++ told_of turns
  pub served : AllByRecursion IsServedTurn turns

pub makes_none : (machine : MachineState) → Makes machine [] machine
makes_none machine = record { day = (refl, refl); log = sym (append-nil machine.log); told = sym (append-nil machine.told); served = tt }

pub makes_both : (old mid new : MachineState) (first more : List Turn) → Makes old first mid → Makes mid more new → Makes old (first ++ more) new
makes_both old mid new first more one other = grind (arith, day_both, append_assoc, log_both, told_both, all_both)

-- one line is served, as itself or for another
pub serves_makes : (old new : MachineState) (heard line : List ℕ) → IsServedAs (asked_of heard) heard line → (s : Serves old line new) → Makes old (Answers heard line s.reply ∷ []) new
serves_makes old new heard line so s = grind (arith, append-nil)

pub works_makes : (old new : MachineState) (line name : List ℕ) → IsMade (Operates (Step name 1)) line → (s : Works old line new) → Makes old (WorksLine line s.reply ∷ []) new
works_makes old new line name so s = grind (arith, append-nil)

pub loses_makes : (old new : MachineState) (name : List ℕ) (lines : List (List ℕ)) → TellsLost old name new → Makes old (Loses name lines ∷ []) new
loses_makes old new name lines tells = grind (arith, append-nil)

-- what a name says in its own lines, and in those of another name
pub own_lines : (name : List ℕ) (lines : List (List ℕ)) → AreOf name lines → said_by name lines ≡ rests lines
own_lines name [] of = refl
own_lines name (line ∷ lines) of = grind (arith, own_lines name lines of.1)

apart_tag : (name other line : List ℕ) → IsOf name line → bytes_eq name other ≡ false → is_of (64 ∷ other) (tag_of line) ≡ false
apart_tag name other line of apart =
    let tag = tag_of line in
    let parts = both (bytes_eq (owner_of tag) (64 ∷ name)) (is_good_id (id_of tag)) of in
    ap (λ o. bytes_eq o (64 ∷ other) && is_good_id (id_of tag)) (one_name (owner_of tag) (64 ∷ name) parts.0)
    ∙ ap (λ b. b && is_good_id (id_of tag)) apart

pub other_lines : (name other : List ℕ) (lines : List (List ℕ)) → AreOf name lines → bytes_eq name other ≡ false → said_by other lines ≡ []
other_lines name other [] of apart = refl
other_lines name other (line ∷ lines) of apart = grind (arith, apart_tag, other_lines name other lines of.1 apart)

-- a line that is served is read by each name
pub serves_read : (name : List ℕ) → is_name name ≡ true → (old new : MachineState) (line : List ℕ) (lines : List (List ℕ)) → said_by name (line ∷ []) ≡ lines → Serves old line new → (items : List SessionLine) × Reads (old.live.texts name) lines items (new.live.texts name)
serves_read name ok old new line lines is s = grind (arith, line_read name ok old.live old.next line s.reply new.live s.answers)

-- `status` is read as the `wait` in whose place it is served: the name is in no text after both
status_read : (name : List ℕ) → is_name name ≡ true → (old new : MachineState) (line made : List ℕ) → IsOf name line → old.live.texts name ≡ None → is_wait (form_of line) ≡ true → IsStatusFor name line made → Serves old made new →
    (other : List ℕ) → is_name other ≡ true → (items : List SessionLine) × Reads (old.live.texts other) (said_by other (line ∷ [])) items (new.live.texts other)
status_read name ok old new line made of outside waits asks s other other_ok =
    let F : List ℕ → Type 0 = λ n. (items : List SessionLine) × Reads (old.live.texts n) (said_by n (line ∷ [])) items (new.live.texts n) in
    let (of_made, named, status) = said_of name (codes "status") made asks.0 in
    let made_says : said_by name (made ∷ []) ≡ codes "status" ∷ [] = own_lines name (made ∷ []) (of_made, tt) ∙ ap (λ said. said ∷ []) status in
    let (items, reads) = serves_read name ok old new made (codes "status" ∷ []) made_says s in
    let N : Option TextSoFar → Type 0 = λ t. Reads t (codes "status" ∷ []) items (new.live.texts name) in
    let before = subst N outside reads in
    let after : new.live.texts name ≡ None = outside_after items (Command Status) (new.live.texts name) (λ more. sym (before more)) in
    let (wait, whole) = wait_whole line waits in
    let A : Option TextSoFar → Type 0 = λ t. Reads t (rests (line ∷ [])) (wait ∷ []) None in
    let B : Option TextSoFar → Type 0 = λ t. Reads (old.live.texts name) (rests (line ∷ [])) (wait ∷ []) t in
    let C : List (List ℕ) → Type 0 = λ l. Reads (old.live.texts name) l (wait ∷ []) (new.live.texts name) in
    each_name F name (wait ∷ [], subst C (sym (own_lines name (line ∷ []) (of, tt))) (subst B (sym after) (subst A (sym outside) whole)))
    (λ n apart is.
    let P : List (List ℕ) → Type 0 = λ l. (all : List SessionLine) × Reads (old.live.texts n) l all (new.live.texts n) in
    subst P (sym (other_lines name n (line ∷ []) (of, tt) apart)) (serves_read n is old new made [] (other_lines name n (made ∷ []) (of_made, tt) apart) s))
    other other_ok

-- turns in which lines of a name are served, and what each name reads of them
pub record ServedAs (name : List ℕ) (lines : List (List ℕ)) (old new : MachineState) : Type 0 where
  pub turns : List Turn
  pub makes : Makes old turns new
  pub heard : heard_lines turns ≡ lines
  pub held : new.held ≡ old.held
  pub read : (other : List ℕ) → is_name other ≡ true → (items : List SessionLine) × Reads (old.live.texts other) (said_by other lines) items (new.live.texts other)

pub serves_said : (name : List ℕ) → is_name name ≡ true → (line : List ℕ) (waits : Bool) (old new : MachineState) → IsOf name line → must_wait old.live name line ≡ waits → ServesSaid waits name line old new → ServedAs name (line ∷ []) old new
serves_said name ok line false old new of waits s =
    let Q : Asked → Type 0 = λ a. IsServedAs a line line in
    record {
      turns = Answers line line s.reply ∷ [];
      makes = serves_makes old new line line (subst Q (sym (says name line ok of)) (inl refl)) s;
      heard = refl;
      held = ap (λ (m : MachineState). m.held) s.rest;
      read = λ other is. line_read other is old.live old.next line s.reply new.live s.answers;
    }
serves_said name ok line true old new of waits (made, asks, s) =
    let (outside, wait, busy) = must_wait_so old.live name line waits in
    let Q : Asked → Type 0 = λ a. IsServedAs a line made in
    record {
      turns = Answers line made s.reply ∷ [];
      makes = serves_makes old new line made (subst Q (sym (says name line ok of)) (inr (wait, asks))) s;
      heard = refl;
      held = ap (λ (m : MachineState). m.held) s.rest;
      read = status_read name ok old new line made of outside wait asks s;
    }

pub serves_all : (name : List ℕ) → is_name name ≡ true → (lines : List (List ℕ)) (old new : MachineState) → AreOf name lines → ServesAll name lines old new → ServedAs name lines old new
serves_all name ok [] old new of same = grind (arith, makes_none, makes_none old)
serves_all name ok (line ∷ lines) old new of (mid, one, rest) =
    let f = serves_said name ok line (must_wait old.live name line) old mid of.0 refl one in
    let r = serves_all name ok lines mid new of.1 rest in
    record {
      turns = f.turns ++ r.turns;
      makes = makes_both old mid new f.turns r.turns f.makes r.makes;
      heard = heard_both f.turns r.turns ∙ (ap (λ x. x ++ heard_lines r.turns) f.heard ∙ ap (λ x. line ∷ x) r.heard);
      held = r.held ∙ f.held;
      read = λ other is.
          let a = f.read other is in
          let b = r.read other is in
          let P : List (List ℕ) → Type 0 = λ x. Reads (old.live.texts other) x (a.0 ++ b.0) (new.live.texts other) in
          (a.0 ++ b.0, subst P (sym (said_both other (line ∷ []) lines)) (reads_both (old.live.texts other) (mid.live.texts other) (new.live.texts other) (said_by other (line ∷ [])) (said_by other lines) a.0 b.0 a.1 b.1));
    }

-- all lines that were served are those of a live service without workers
pub turns_answered : (turns : List Turn) (old new : LiveState) (number next : ℕ) → AllByRecursion IsServedTurn turns → IsDay old number turns new next → AreAnswered AnswersLine old number (served_lines turns) (replies_of turns) new
turns_answered [] old new number next served (same, counted) = (refl, same)
turns_answered (Answers heard line reply ∷ turns) old new number next served (mid, answers, rest) = grind (arith, turns_answered turns mid new (number + 1) next served.1 rest)
turns_answered (WorksLine line reply ∷ turns) old new number next served (mid, answers, rest) = grind (arith, turns_answered turns mid new (number + 1) next served.1 rest)
turns_answered (Loses name lines ∷ turns) old new number next served rest = turns_answered turns old new number next served.1 rest
