-- The first item that is held of a name is served, and a name without items is freed.
use Rattle.live_machine.proofs.Prelude.{◌≡◌, ℕ, List, [], ◌∷◌, ◌++◌, Option, Some, None, refl, sym, ap, subst, ◌∙◌, append_assoc, append-nil, arith, ⊤, AllByRecursion, flat_map, SessionLine, TextSoFar, items_to_come, rest_of, AreItems, IsText, Held, HeldItem, OpenText, NoText, Begun}
use Rattle.live_machine.proofs.ReadLemmas.{IsWhole, Reads, reads_both, rests}
use Rattle.live_machine.proofs.FollowLemmas.{AreOf, Follows, said_in}

-- the first item of a held name, by its lines
abbrev pub IsFirst : HeldItem → List (List ℕ) → Type 0
IsFirst (Some lines) item = item ≡ lines
IsFirst None item = ⊤

first_item : (first : HeldItem) (held : List HeldItem) (items : List (List (List ℕ))) → AreItems (first ∷ held) items → (item : List (List ℕ)) × (rest : List (List (List ℕ))) × (items ≡ item ∷ rest) × IsFirst first item × AreItems held rest
first_item first held items are = grind arith

-- its first item is served, after which it is in no text
pub record IsTaken (name : List ℕ) (begun : Option TextSoFar) (said served : List (List ℕ)) (h : Held) (first : HeldItem) (held : List HeldItem) (now : Option TextSoFar) : Type 0 where
  pub item : List (List ℕ)
  pub is_first : IsFirst first item
  pub of : AreOf name item
  pub whole : IsWhole item
  pub outside : now ≡ None
  pub follows : (new : Option TextSoFar) → new ≡ None → Follows name begun said (served ++ rests item) (Some (record h { items = held })) new

pub follow_taken : (name : List ℕ) (begun : Option TextSoFar) (said served : List (List ℕ)) (h : Held) (first : HeldItem) (held : List HeldItem) (now : Option TextSoFar) → Follows name begun said served (Some h) now → h.items ≡ first ∷ held → IsTaken name begun said served h first held now
follow_taken name begun said served h first held now f is =
    let P : List HeldItem → Type 0 = λ all. AreItems all f.items in
    let (item, rest, all, is_first, are) = first_item first held f.items (subst P is f.are.items_are) in
    let W : List (List (List ℕ)) → Type 0 = AllByRecursion IsWhole in
    let whole = subst W all f.are.whole in
    let O : List (List (List ℕ)) → Type 0 = AllByRecursion (AreOf name) in
    let of = subst O all f.are.items_of in
    let T : Option TextSoFar → Type 0 = λ t. Reads begun served f.done t in
    let read = reads_both begun None None served (rests item) f.done (whole.0.0 ∷ []) (subst T f.are.outside f.read) whole.0.1 in
    record {
      item = item;
      is_first = is_first;
      of = of.0;
      whole = whole.0;
      outside = f.are.outside;
      follows = λ new none.
          let U : Option TextSoFar → Type 0 = λ t. Reads begun (served ++ rests item) (f.done ++ whole.0.0 ∷ []) t in
          record {
            items = rest;
            text = f.text;
            are = record { items_are = are; text_is = f.are.text_is; outside = none; whole = whole.1; begun = f.are.begun; items_of = of.1; text_of = f.are.text_of };
            same = λ more.
                f.same more
                ∙ (ap (λ is. items_to_come begun (served ++ (said_in is ++ (rests f.text ++ more)))) all
                ∙ (ap (λ x. items_to_come begun (served ++ x)) (append_assoc (rests item) (said_in rest) (rests f.text ++ more))
                ∙ ap (items_to_come begun) (sym (append_assoc served (rests item) (said_in rest ++ (rests f.text ++ more))))));
            done = f.done ++ whole.0.0 ∷ [];
            read = subst U (sym none) read;
          };
    }

no_items : (items : List (List (List ℕ))) → AreItems [] items → items ≡ []
no_items items are = grind arith

-- no item is left
pub follow_freed : (name : List ℕ) (begun : Option TextSoFar) (said served : List (List ℕ)) (h : Held) (now : Option TextSoFar) → Follows name begun said served (Some h) now → h.items ≡ [] → h.text ≡ NoText → Follows name begun said served None now
follow_freed name begun said served h now f none is = grind arith

pub follow_text : (name : List ℕ) (begun : Option TextSoFar) (said served lines : List (List ℕ)) (h : Held) (now : Option TextSoFar) → Follows name begun said served (Some h) now → h.items ≡ [] → h.text ≡ Begun lines →
    AreOf name lines × ((new : Option TextSoFar) (items : List SessionLine) → Reads now (rests lines) items new → Follows name begun said (served ++ rests lines) None new)
follow_text name begun said served lines h now f none is =
    let P : List HeldItem → Type 0 = λ all. AreItems all f.items in
    let Q : OpenText → Type 0 = λ t. IsText t f.text in
    let own : f.text ≡ lines = subst Q is f.are.text_is in
    let O : List (List ℕ) → Type 0 = AreOf name in (
      subst O own f.are.text_of,
      λ new items reads.
          record {
            items = [];
            text = [];
            are = (refl, refl);
            same = λ more.
                f.same more
                ∙ (ap (λ is. items_to_come begun (served ++ (said_in is ++ (rests f.text ++ more)))) (no_items f.items (subst P none f.are.items_are))
                ∙ (ap (λ t. items_to_come begun (served ++ (rests t ++ more))) own
                ∙ ap (items_to_come begun) (sym (append_assoc served (rests lines) more))));
            done = f.done ++ items;
            read = reads_both begun now new served (rests lines) f.done items f.read reads;
          },
    )

rests-append : (first more : List (List ℕ)) → rests (first ++ more) ≡ rests first ++ rests more
rests-append [] more = refl
rests-append (line ∷ first) more = ap (λ x. rest_of line ∷ x) (rests-append first more)

-- all that is held, as one list of lines
pub rests_flat : (items : List (List (List ℕ))) (text : List (List ℕ)) → said_in items ++ (rests text ++ []) ≡ rests (flat_map (λ item. item) items ++ text)
rests_flat [] text = append-nil (rests text)
rests_flat (item ∷ items) text = grind (arith, append_assoc, rests-append, rests_flat items text)
