-- A session, turn by turn.
use Rattle.session_threads.proofs.Prelude.{◌≡◌, ℕ, List, [], ◌∷◌, ◌++◌, Bool, true, Option, Some, None, refl, ap, sym, subst, ◌∙◌, append-nil, append_assoc, arith, IfSome, Consumes, prepend_known, physical_lines, TakesAll, all_none, SessionLine, items_of, TextSoFar, item_and, items_to_come, SessionEnd, Ended, ReaderFailed, WriterFailed, ItemAnswer, TranscriptState, Within, Session, is_one_line, AreTold, noted_all, told_texts, IsWithin, GoesOn, HaveEnded, KeepsNoneAhead, LastToldOf, Stops, ToldOf, WholeSession, Wrote}
use Rattle.session_threads.proofs.ItemLemmas.{line_then}
use Rattle.session_threads.proofs.KnownLemmas.{consumes_both, prepend_none}
use Rattle.session_threads.proofs.ToldLemmas.{noted_all-append, noted_all-id, told-append}
use Rattle.session_threads.proofs.TurnLemmas.{line_items, wrote_texts}

-- a session so far
pub record Going {W : Type 0} (id : ℕ) (old now : TranscriptState) (input ahead : Option (List ℕ)) (within : Within) (contents : W → Option (List ℕ)) (has_failed : W → Bool) (w x : W) : Type 0 where
  pub told : List (Option ItemAnswer)
  pub noted_is : now ≡ noted_all old told
  pub written : TakesAll contents has_failed w x (told_texts told)
  pub read : List ℕ
  pub consumed : Consumes input ahead read
  pub text : Option TextSoFar
  pub text_is : IsWithin within text
  pub items : List SessionLine
  pub ended : HaveEnded read items text
  pub are : AreTold id items told

prepend_nothing : (known : Option (List ℕ)) → Consumes known (prepend_known [] known) []
prepend_nothing known = grind arith

pub going_begins : {W : Type 0} (contents : W → Option (List ℕ)) (has_failed : W → Bool) (w : W) (id : ℕ) (t : TranscriptState) (known : Option (List ℕ)) (none : List ℕ) (within : Within) → none ≡ [] → within ≡ Session → Going id t t known (prepend_known none known) within contents has_failed w w
going_begins contents has_failed w id t known none within is outside = record {
  told = [];
  noted_is = refl;
  written = all_none contents has_failed w;
  read = [];
  consumed = rw is (prepend_nothing known);
  text = None;
  text_is = rw outside refl;
  items = [];
  ended = λ more. refl;
  are = tt;
}

-- the items that ended, after one more line
ended_more : (read line more : List ℕ) (items its : List SessionLine) (text next : Option TextSoFar) → is_one_line line ≡ true → items_of (read ++ ((line ++ 10 ∷ []) ++ more)) ≡ items ++ items_to_come text (physical_lines ((line ++ 10 ∷ []) ++ more)) →
    items_to_come text (line ∷ physical_lines more) ≡ its ++ items_to_come next (physical_lines more) → items_of ((read ++ (line ++ 10 ∷ [])) ++ more) ≡ (items ++ its) ++ items_to_come next (physical_lines more)
ended_more read line more items its text next one was gives =
    ap items_of (append_assoc read (line ++ 10 ∷ []) more)
    ∙ (was
    ∙ (ap (λ lines. items ++ items_to_come text lines) (line_then line more one)
    ∙ (ap (λ i. items ++ i) gives ∙ sym (append_assoc items its (items_to_come next (physical_lines more))))))

pub goes_on : {W : Type 0} (contents : W → Option (List ℕ)) (has_failed : W → Bool) (w x y : W) (id now_id : ℕ) (old now new : TranscriptState) (input a b : Option (List ℕ)) (p q : Within) → old.id ≡ id → now_id ≡ now.id →
    Going id old now input a p contents has_failed w x → GoesOn now_id a b p q (λ text. Wrote contents has_failed x y text Ended) now new → Going id old new input b q contents has_failed w y
goes_on contents has_failed w x y id now_id old now new input a b p q own same going turn =
    let ids : now_id ≡ id = same ∙ (ap (λ (t : TranscriptState). t.id) going.noted_is ∙ (noted_all-id old going.told ∙ own)) in
    let its = turn.asked going.text going.text_is in
    record {
      told = going.told ++ turn.told;
      noted_is = turn.noted ∙ (ap (λ t. noted_all t turn.told) going.noted_is ∙ sym (noted_all-append old going.told turn.told));
      written = wrote_texts contents has_failed w x y going.told turn.told Ended going.written turn.written;
      read = going.read ++ (turn.line ++ 10 ∷ []);
      consumed = consumes_both input a b going.read (turn.line ++ 10 ∷ []) going.consumed turn.read;
      text = its.next;
      text_is = its.within;
      items = going.items ++ item_and its.item [];
      ended = λ more. ended_more going.read turn.line more going.items (item_and its.item []) going.text its.next turn.is_line (going.ended ((turn.line ++ 10 ∷ []) ++ more)) (line_items now_id going.text turn.line q turn.told its (physical_lines more));
      are = told-append id going.items (item_and its.item []) going.told turn.told going.are (let P : ℕ → Type 0 = λ i. AreTold i (item_and its.item []) turn.told in subst P ids its.are);
    }

-- the answers to the whole input
whole : (id : ℕ) (end : SessionEnd) (input ahead : Option (List ℕ)) (final : Option (List ℕ)) (read last : List ℕ) (items : List SessionLine) (text : Option TextSoFar) (told more : List (Option ItemAnswer)) (bs : List ℕ) (left : Option (List ℕ)) → Consumes input ahead read → Consumes ahead final last → HaveEnded read items text → AreTold id items told → LastToldOf id text last final end more →
    final ≡ prepend_known bs left → KeepsNoneAhead end bs → IfSome input (λ bytes. ToldOf id bytes left end (told ++ more))
whole id end None ahead final read last items text told more bs left a b ended are its is_left none = tt
whole id end (Some bytes) None final read last items text told more bs left a b ended are its is_left none = absurd a
whole id end (Some bytes) (Some ahead) None read last items text told more bs left a b ended are its is_left none = absurd b
whole id Ended (Some bytes) (Some ahead) (Some rest) read last items text told more bs left a b ended are its is_left none =
    let all : bytes ≡ read ++ last = a ∙ ap (λ t. read ++ t) (b ∙ (ap (λ t. last ++ t) its.0 ∙ append-nil last)) in
    let is : items_of bytes ≡ items ++ items_to_come text (physical_lines last) = ap items_of all ∙ ended last in
    let P : List SessionLine → Type 0 = λ items. AreTold id items (told ++ more) in subst P (sym is) (told-append id items (items_to_come text (physical_lines last)) told more are its.1)
whole id ReaderFailed (Some bytes) (Some ahead) (Some rest) read last items text told more bs left a b ended are its is_left none =
    let same : told ++ more ≡ told = ap (λ t. told ++ t) its.1 ∙ append-nil told in
    let all : bytes ≡ (read ++ last) ++ rest = a ∙ (ap (λ t. read ++ t) b ∙ sym (append_assoc read last rest)) in
    let is : Some rest ≡ left = is_left ∙ (ap (λ b. prepend_known b left) none ∙ prepend_none left) in
    let Q : Option (List ℕ) → Type 0 = λ known. Consumes (Some bytes) known (read ++ last) in
    let P : List (Option ItemAnswer) → Type 0 = λ t. ToldOf id bytes left ReaderFailed t in subst P (sym same) (read, last, items, text, subst Q is all, its.0, ended, are)
whole id WriterFailed (Some bytes) (Some ahead) (Some rest) read last items text told more bs left a b ended are its is_left none =
    let is : items_of bytes ≡ items ++ items_to_come text (physical_lines (last ++ rest)) = ap items_of (a ∙ ap (λ t. read ++ t) b) ∙ ended (last ++ rest) in (
      items ++ its.0,
      its.1,
      is ∙ (ap (λ t. items ++ t) its.2 ∙ sym (append_assoc items its.0 its.1)),
      told-append id items its.0 told more are its.3,
    )

pub stops : {W : Type 0} (contents : W → Option (List ℕ)) (has_failed : W → Bool) (w x y : W) (id now_id : ℕ) (old now new : TranscriptState) (input a b : Option (List ℕ)) (p : Within) (end : SessionEnd) (bs : List ℕ) (left : Option (List ℕ)) → old.id ≡ id → now_id ≡ now.id →
    Going id old now input a p contents has_failed w x → Stops now_id a b p (λ text how. Wrote contents has_failed x y text how) now end new → b ≡ prepend_known bs left → KeepsNoneAhead end bs → WholeSession id input left (λ text how. Wrote contents has_failed w y text how) old end new
stops contents has_failed w x y id now_id old now new input a b p end bs left own same going turn is_left none =
    let ids : now_id ≡ id = same ∙ (ap (λ (t : TranscriptState). t.id) going.noted_is ∙ (noted_all-id old going.told ∙ own)) in
    let P : ℕ → Type 0 = λ i. LastToldOf i going.text turn.bytes b end turn.told in
    record {
      told = going.told ++ turn.told;
      noted = turn.noted ∙ (ap (λ t. noted_all t turn.told) going.noted_is ∙ sym (noted_all-append old going.told turn.told));
      written = wrote_texts contents has_failed w x y going.told turn.told end going.written turn.written;
      asked = whole id end input a b going.read turn.bytes going.items going.text going.told turn.told bs left going.consumed turn.read going.ended going.are (subst P ids (turn.asked going.text going.text_is)) is_left none;
    }
