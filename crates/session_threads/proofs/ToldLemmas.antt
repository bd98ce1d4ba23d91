-- Answers, one after another.
use Rattle.session_threads.proofs.Prelude.{◌≡◌, ◌≢◌, ℕ, ◌-◌, List, [], ◌∷◌, ◌++◌, length, Bool, true, Option, Some, None, refl, ap, sym, subst, ◌∙◌, arith, length-append, append-nil, option_map, slice_get, flat_map-append, Command as TenantCommand, SessionLine, CoreState, ItemAnswer, IsPlaceOf, TranscriptState, transcript_with, with_no_memory, SessionEnd, ReaderFailed, Item as ItemOutcome, NoMemory, Within, AnswersCommand, AnswersItem, AreTold, NotesBy, last_place, noted_all, told_text, told_texts, EndsItems, Finishes, Serves, TellsItem}
use Rattle.transcripts.specs.declared.item.Item.{Item}

pub noted_all-append : (t : TranscriptState) (xs ys : List (Option ItemAnswer)) → noted_all t (xs ++ ys) ≡ noted_all (noted_all t xs) ys
noted_all-append t [] ys = refl
noted_all-append t (x ∷ xs) ys = noted_all-append (transcript_with t x) xs ys

pub noted-id : (t : TranscriptState) (x : Option ItemAnswer) → (transcript_with t x).id ≡ t.id
noted-id t x = grind arith

pub noted_all-id : (t : TranscriptState) (xs : List (Option ItemAnswer)) → (noted_all t xs).id ≡ t.id
noted_all-id t [] = refl
noted_all-id t (x ∷ xs) = noted_all-id (transcript_with t x) xs ∙ noted-id t x

pub texts-append : (xs ys : List (Option ItemAnswer)) → told_texts (xs ++ ys) ≡ told_texts xs ++ told_texts ys
texts-append xs ys = flat_map-append told_text xs ys

pub texts-one : (x : Option ItemAnswer) → told_text x ≡ told_texts (x ∷ [])
texts-one x = sym (append-nil (told_text x))

pub told-append : (id : ℕ) (is js : List SessionLine) (xs ys : List (Option ItemAnswer)) → AreTold id is xs → AreTold id js ys → AreTold id (is ++ js) (xs ++ ys)
told-append id [] js [] ys a b = b
told-append id [] js (x ∷ xs) ys a b = absurd a
told-append id (i ∷ is) js [] ys a b = absurd a
told-append id (i ∷ is) js (x ∷ xs) ys a b = (a.0, told-append id is js xs ys a.1 b)

-- the last item
length-snoc : (xs : List Item) (x : Item) → length (xs ++ x ∷ []) - 1 ≡ length xs
length-snoc xs x = omega (arith, length-append xs (x ∷ []))

get-snoc : (xs : List Item) (x : Item) → slice_get (xs ++ x ∷ []) (length xs) ≡ Some x
get-snoc [] x = refl
get-snoc (y ∷ xs) x = get-snoc xs x

pub last_place-snoc : (xs : List Item) (x : Item) → last_place (xs ++ x ∷ []) ≡ Some x.place
last_place-snoc xs x = ap (λ n. option_map (λ (i : Item). i.place) (slice_get (xs ++ x ∷ []) n)) (length-snoc xs x) ∙ ap (option_map (λ (i : Item). i.place)) (get-snoc xs x)

pub place_answers : (before after : CoreState) (id : ℕ) (command : TenantCommand) (place : ItemAnswer) → IsPlaceOf before id command place after → AnswersCommand id command place
place_answers before after id command place is = grind arith

-- an item that has an answer
pub tells_placed : (id : ℕ) (item : SessionLine) (wrote : List ℕ → Type 0) (old mid new : TranscriptState) (has : Bool) (last : Option ItemAnswer) → old.id ≡ id → mid ≡ old → has ≡ true → NotesBy (AnswersItem mid.id item) mid has new → last ≡ last_place new.items → wrote (told_text last) →
    TellsItem id item wrote old new
tells_placed id item wrote old mid new has last own same h3 notes last_is written = grind (arith, last_place-snoc)

-- the item at the input's end
pub finishes : (id : ℕ) (within : Within) (item : SessionLine) (wrote : List ℕ → SessionEnd → Type 0) (old new : TranscriptState) (end : SessionEnd) → end ≢ ReaderFailed → EndsItems within (Some item) → TellsItem id item (λ text. wrote text end) old new → Finishes id within wrote old end new
finishes id within item wrote old new end not ends tells = record {
  told = tells.told ∷ [];
  noted_is = tells.noted_is;
  written = (let P : List ℕ → Type 0 = λ text. wrote text end in subst P (texts-one tells.told) tells.written);
  at_end = not;
  answers = λ text is. (let P : List SessionLine → Type 0 = λ items. AreTold id items (tells.told ∷ []) in subst P (sym (ends text is)) (tells.answers, tt));
}

-- the outcome of a line
pub serves_item : (id : ℕ) (item : SessionLine) (wrote : List ℕ → Type 0) (old new : TranscriptState) → TellsItem id item wrote old new → Serves id (ItemOutcome item) wrote old new
serves_item id item wrote old new tells = record {
  told = tells.told ∷ [];
  answers = (tells.told, tells.answers, refl);
  noted_is = tells.noted_is;
  written = subst wrote (texts-one tells.told) tells.written;
}

pub serves_none : (id : ℕ) (wrote : List ℕ → Type 0) (old new : TranscriptState) → new ≡ with_no_memory old → wrote (told_text None) → Serves id NoMemory wrote old new
serves_none id wrote old new is written = grind (arith, texts-one None)
