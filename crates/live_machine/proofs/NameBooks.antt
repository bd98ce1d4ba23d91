-- What a name's lines do to what was said and served.
use Rattle.live_machine.proofs.Prelude.{◌≡◌, inl, inr, ℕ, List, [], ◌∷◌, ◌++◌, Bool, true, false, Option, Some, None, refl, sym, ap, subst, ◌∙◌, append-nil, arith, bytes_eq, is_name, SessionLine, TextSoFar, last_id, said_by, LiveState, nobodys_lines, Held, HearsHeld, form_of, held_of, is_wait, with_held, NoText, Holds, MachineState, ServesSaid, must_wait, Turn, heard_lines, Loses}
use Rattle.live_machine.proofs.Books.{Books, Followed, books_more, follow_as, nobodys_both, not_nobodys}
use Rattle.live_machine.proofs.FollowLemmas.{AreOf, Follows, IsOf, follow_heard, follow_held, follow_other, follow_served, wait_whole}
use Rattle.live_machine.proofs.HeldLemmas.{added_other, added_own, changed_other, changed_own, one_name}
use Rattle.live_machine.proofs.LineLemmas.{each_name}
use Rattle.live_machine.proofs.ReadLemmas.{Reads, rests}
use Rattle.live_machine.proofs.TurnLemmas.{Makes, ServedAs, loses_makes, other_lines, own_lines, said_both, serves_said}

-- these turns are about one name: what is held of others, and what they read, stays
pub record IsAbout (name : List ℕ) (old : MachineState) (turns : List Turn) (heard : List (List ℕ)) (new : MachineState) : Type 0 where
  pub named : is_name name ≡ true
  pub of : AreOf name heard
  pub makes : Makes old turns new
  pub heard_is : heard_lines turns ≡ heard
  pub held : (other : List ℕ) → bytes_eq name other ≡ false → held_of new.held other ≡ held_of old.held other
  pub read : (other : List ℕ) → bytes_eq name other ≡ false → is_name other ≡ true → (items : List SessionLine) × Reads (old.live.texts other) [] items (new.live.texts other)

pub books_about : (begun : LiveState) (first : ℕ) (lines more heard : List (List ℕ)) (taken turns : List Turn) (old new : MachineState) (b : Books begun first lines taken old) (name : List ℕ) → IsAbout name old turns heard new → AreOf name more →
    Follows name (begun.texts name) (said_by name lines ++ rests more) (said_by name (heard_lines b.turns) ++ rests heard) (held_of new.held name) (new.live.texts name) → Books begun first (lines ++ more) taken new
books_about begun first lines more heard taken turns old new b name about of own =
    let F : List ℕ → Type 0 = Followed begun (lines ++ more) (heard_lines b.turns ++ heard) new in
    books_more begun first lines (lines ++ more) heard taken turns old new b about.makes about.heard_is
    (each_name F name
    (follow_as name (begun.texts name) (said_by name lines ++ rests more) (said_by name (lines ++ more)) (said_by name (heard_lines b.turns) ++ rests heard) (said_by name (heard_lines b.turns ++ heard)) (held_of new.held name) (held_of new.held name) (new.live.texts name)
    (sym (said_both name lines more ∙ ap (λ x. said_by name lines ++ x) (own_lines name more of)))
    (sym (said_both name (heard_lines b.turns) heard ∙ ap (λ x. said_by name (heard_lines b.turns) ++ x) (own_lines name heard about.of)))
    refl own)
    (λ other apart ok.
    let (items, reads) = about.read other apart ok in
    follow_as other (begun.texts other) (said_by other lines) (said_by other (lines ++ more)) (said_by other (heard_lines b.turns)) (said_by other (heard_lines b.turns ++ heard)) (held_of old.held other) (held_of new.held other) (new.live.texts other)
    (sym (said_both other lines more ∙ (ap (λ x. said_by other lines ++ x) (other_lines name other more of apart) ∙ append-nil (said_by other lines))))
    (sym (said_both other (heard_lines b.turns) heard ∙ (ap (λ x. said_by other (heard_lines b.turns) ++ x) (other_lines name other heard about.of apart) ∙ append-nil (said_by other (heard_lines b.turns)))))
    (sym (about.held other apart))
    (follow_other other (begun.texts other) (said_by other lines) (said_by other (heard_lines b.turns)) (held_of old.held other) (old.live.texts other) (new.live.texts other) items (b.said other ok) reads)))
    (nobodys_both lines more ∙ (ap (λ x. nobodys_lines lines ++ x) (not_nobodys name more about.named of) ∙ (append-nil (nobodys_lines lines) ∙ (b.nobodys
    ∙ sym (nobodys_both (heard_lines b.turns) heard ∙ (ap (λ x. nobodys_lines (heard_lines b.turns) ++ x) (not_nobodys name heard about.named about.of) ∙ append-nil (nobodys_lines (heard_lines b.turns))))))))
    (λ other h is.
    elim (bytes_eq name other) as (λ v. bytes_eq name other ≡ v → is_name other ≡ true) [
      | true ↦ λ e. subst (λ n. is_name n ≡ true) (one_name name other e) about.named
      | false ↦ λ e. b.named other h (sym (about.held other e) ∙ is)
    ] refl)

-- nothing more was said
pub books_silent : (begun : LiveState) (first : ℕ) (lines heard : List (List ℕ)) (taken turns : List Turn) (old new : MachineState) (b : Books begun first lines taken old) (name : List ℕ) → IsAbout name old turns heard new →
    Follows name (begun.texts name) (said_by name lines) (said_by name (heard_lines b.turns) ++ rests heard) (held_of new.held name) (new.live.texts name) → Books begun first lines taken new
books_silent begun first lines heard taken turns old new b name about own =
    let P : List (List ℕ) → Type 0 = λ x. Follows name (begun.texts name) x (said_by name (heard_lines b.turns) ++ rests heard) (held_of new.held name) (new.live.texts name) in
    let Q : List (List ℕ) → Type 0 = λ x. Books begun first x taken new in
    subst Q (append-nil lines) (books_about begun first lines [] heard taken turns old new b name about tt (subst P (sym (append-nil (said_by name lines))) own))

-- lines of one name are served, after what is held of it changed
pub about_served : (name : List ℕ) → is_name name ≡ true → (lines : List (List ℕ)) (old : MachineState) (held : List Held) (new : MachineState) → AreOf name lines → (s : ServedAs name lines (record old { held = held }) new) → ((other : List ℕ) → bytes_eq name other ≡ false → held_of held other ≡ held_of old.held other) →
    IsAbout name old s.turns lines new
about_served name ok lines old held new of s same = grind (arith, other_lines)

pub own_read : (name : List ℕ) → is_name name ≡ true → (lines : List (List ℕ)) (old new : MachineState) → AreOf name lines → ServedAs name lines old new → (items : List SessionLine) × Reads (old.live.texts name) (rests lines) items (new.live.texts name)
own_read name ok lines old new of s = grind (arith, own_lines)

pub nothing_read : (text new : Option TextSoFar) → new ≡ text → (items : List SessionLine) × Reads text [] items new
nothing_read text new is = let P : Option TextSoFar → Type 0 = λ t. (items : List SessionLine) × Reads text [] items t in subst P (sym is) ([], λ more. refl)

-- a line of a name that isn't held is served
pub books_own : (begun : LiveState) (first : ℕ) (lines : List (List ℕ)) (taken : List Turn) (old new : MachineState) (line name : List ℕ) (waits : Bool) → Books begun first lines taken old → is_name name ≡ true → IsOf name line → held_of old.held name ≡ None → must_wait old.live name line ≡ waits → ServesSaid waits name line old new →
    Books begun first (lines ++ line ∷ []) taken new
books_own begun first lines taken old new line name waits b ok of free must serves =
    let s = serves_said name ok line waits old new of must serves in
    let (items, reads) = own_read name ok (line ∷ []) old new (of, tt) s in
    let P : Option Held → Type 0 = λ h. Follows name (begun.texts name) (said_by name lines) (said_by name (heard_lines b.turns)) h (old.live.texts name) in
    let Q : Option Held → Type 0 = λ h. Follows name (begun.texts name) (said_by name lines ++ rests (line ∷ [])) (said_by name (heard_lines b.turns) ++ rests (line ∷ [])) h (new.live.texts name) in
    books_about begun first lines (line ∷ []) (line ∷ []) taken s.turns old new b name (about_served name ok (line ∷ []) old old.held new (of, tt) s (λ other apart. refl)) (of, tt)
    (subst Q (sym (ap (λ h. held_of h name) s.held ∙ free))
    (follow_served name (begun.texts name) (said_by name lines) (said_by name (heard_lines b.turns)) (rests (line ∷ [])) (old.live.texts name) (new.live.texts name) items (subst P free (b.said name ok)) reads))

-- a line of a name whose `wait` holds it, or is lost
pub books_holds : (begun : LiveState) (first : ℕ) (lines : List (List ℕ)) (taken : List Turn) (old new : MachineState) (line name : List ℕ) → Books begun first lines taken old → is_name name ≡ true → IsOf name line → held_of old.held name ≡ None → old.live.texts name ≡ None → is_wait (form_of line) ≡ true → Holds name line old new →
    Books begun first (lines ++ line ∷ []) taken new
books_holds begun first lines taken old new line name b ok of free outside is (inl holds) =
    let h : Held = record { name = name; id = last_id old.live.stage.names name; items = Some (line ∷ []) ∷ []; text = NoText } in
    let held : new.held ≡ old.held ++ h ∷ [] = ap (λ (m : MachineState). m.held) holds in
    let P : Option Held → Type 0 = λ h. Follows name (begun.texts name) (said_by name lines) (said_by name (heard_lines b.turns)) h (old.live.texts name) in
    let it = follow_held name (begun.texts name) (said_by name lines) (said_by name (heard_lines b.turns)) line (last_id old.live.stage.names name) (old.live.texts name) (subst P free (b.said name ok)) outside is of in
    let texts : new.live.texts name ≡ old.live.texts name = ap (λ (m : MachineState). m.live.texts name) holds in
    let T : Option TextSoFar → Type 0 = λ t. Follows name (begun.texts name) (said_by name lines ++ rests (line ∷ [])) (said_by name (heard_lines b.turns)) (Some h) t in
    let M : MachineState → Type 0 = λ m. Makes old [] m in
    books_about begun first lines (line ∷ []) [] taken [] old new b name
    (record {
      named = ok;
      of = tt;
      makes = subst M (sym holds) (record { day = (refl, refl); log = sym (append-nil old.log); told = sym (append-nil old.told); served = tt });
      heard_is = refl;
      held = λ other apart. ap (λ hs. held_of hs other) held ∙ added_other old.held h other apart;
      read = λ other apart ok. nothing_read (old.live.texts other) (new.live.texts other) (ap (λ (m : MachineState). m.live.texts other) holds);
    })
    (of, tt)
    (follow_as name (begun.texts name) (said_by name lines ++ rests (line ∷ [])) (said_by name lines ++ rests (line ∷ [])) (said_by name (heard_lines b.turns)) (said_by name (heard_lines b.turns) ++ []) (Some h) (held_of new.held name) (new.live.texts name)
    refl (sym (append-nil (said_by name (heard_lines b.turns)))) (sym (ap (λ hs. held_of hs name) held ∙ added_own old.held h free))
    (subst T (sym texts) it))
books_holds begun first lines taken old new line name b ok of free outside is (inr lost) =
    let held : new.held ≡ old.held = ap (λ (m : MachineState). m.held) lost in
    let texts : new.live.texts name ≡ old.live.texts name = ap (λ (m : MachineState). m.live.texts name) lost in
    let whole = wait_whole line is in
    let P : Option Held → Type 0 = λ h. Follows name (begun.texts name) (said_by name lines) (said_by name (heard_lines b.turns)) h (old.live.texts name) in
    let R : Option TextSoFar → Type 0 = λ t. Reads t (rests (line ∷ [])) (whole.0 ∷ []) t in
    let it = follow_served name (begun.texts name) (said_by name lines) (said_by name (heard_lines b.turns)) (rests (line ∷ [])) (old.live.texts name) (old.live.texts name) (whole.0 ∷ []) (subst P free (b.said name ok)) (subst R (sym outside) whole.1) in
    let T : Option TextSoFar → Type 0 = λ t. Follows name (begun.texts name) (said_by name lines ++ rests (line ∷ [])) (said_by name (heard_lines b.turns) ++ rests (line ∷ [])) None t in
    let Q : Option Held → Type 0 = λ h. Follows name (begun.texts name) (said_by name lines ++ rests (line ∷ [])) (said_by name (heard_lines b.turns) ++ rests (line ∷ [])) h (new.live.texts name) in
    books_about begun first lines (line ∷ []) (line ∷ []) taken (Loses name (line ∷ []) ∷ []) old new b name
    (record {
      named = ok;
      of = (of, tt);
      makes = loses_makes old new name (line ∷ []) lost;
      heard_is = refl;
      held = λ other apart. ap (λ h. held_of h other) held;
      read = λ other apart ok. nothing_read (old.live.texts other) (new.live.texts other) (ap (λ (m : MachineState). m.live.texts other) lost);
    })
    (of, tt)
    (subst Q (sym (ap (λ h. held_of h name) held ∙ free)) (subst T (sym texts) it))

-- a line of a held name waits too
pub books_heard : (begun : LiveState) (first : ℕ) (lines : List (List ℕ)) (taken : List Turn) (old new : MachineState) (line name : List ℕ) (h after : Held) → Books begun first lines taken old → is_name name ≡ true → IsOf name line → held_of old.held name ≡ Some h → after.name ≡ name → HearsHeld h line after → new ≡ record old { held = with_held old.held after } →
    Books begun first (lines ++ line ∷ []) taken new
books_heard begun first lines taken old new line name h after b ok of is named hears changed =
    let held : new.held ≡ with_held old.held after = ap (λ (m : MachineState). m.held) changed in
    let texts : new.live.texts name ≡ old.live.texts name = ap (λ (m : MachineState). m.live.texts name) changed in
    let P : Option Held → Type 0 = λ x. Follows name (begun.texts name) (said_by name lines) (said_by name (heard_lines b.turns)) x (old.live.texts name) in
    let it = follow_heard name (begun.texts name) (said_by name lines) (said_by name (heard_lines b.turns)) h after (old.live.texts name) line (subst P is (b.said name ok)) of hears in
    let T : Option TextSoFar → Type 0 = λ t. Follows name (begun.texts name) (said_by name lines ++ rests (line ∷ [])) (said_by name (heard_lines b.turns)) (Some after) t in
    let M : MachineState → Type 0 = λ m. Makes old [] m in
    let N : List ℕ → Type 0 = λ n. held_of old.held n ≡ Some h in
    let O : List ℕ → Type 0 = λ n. held_of (with_held old.held after) n ≡ Some after in
    books_about begun first lines (line ∷ []) [] taken [] old new b name
    (record {
      named = ok;
      of = tt;
      makes = subst M (sym changed) (record { day = (refl, refl); log = sym (append-nil old.log); told = sym (append-nil old.told); served = tt });
      heard_is = refl;
      held = λ other apart. ap (λ hs. held_of hs other) held ∙ changed_other old.held after other (ap (λ n. bytes_eq n other) named ∙ apart);
      read = λ other apart ok. nothing_read (old.live.texts other) (new.live.texts other) (ap (λ (m : MachineState). m.live.texts other) changed);
    })
    (of, tt)
    (follow_as name (begun.texts name) (said_by name lines ++ rests (line ∷ [])) (said_by name lines ++ rests (line ∷ [])) (said_by name (heard_lines b.turns)) (said_by name (heard_lines b.turns) ++ []) (Some after) (held_of new.held name) (new.live.texts name)
    refl (sym (append-nil (said_by name (heard_lines b.turns)))) (sym (ap (λ hs. held_of hs name) held ∙ subst O named (changed_own old.held h after (subst N (sym named) is))))
    (subst T (sym texts) it))
