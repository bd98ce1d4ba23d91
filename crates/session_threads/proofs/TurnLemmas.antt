-- A turn of a session.
use Rattle.session_threads.proofs.Prelude.{◌≡◌, ◌≢◌, ℕ, ◌<◌, List, [], ◌∷◌, ◌++◌, length, Bool, Option, Some, None, Ok, Err, refl, ap, sym, subst, ◌∙◌, append-nil, arith, IfSome, IsAtEnd, Failed, physical_lines, TakesAll, Writes, all_none, all_then, part_then, SessionLine, TextSoFar, item_and, items_to_come, SessionEnd, Ended, ReaderFailed, WriterFailed, ItemAnswer, TranscriptState, Within, LineFeed, Input, ReadsLine, IsLine, LineSoFar, AreTold, noted_all, told_texts, LineIsTold, EndsInput, EndsReading, Finishes, FirstAreTold, GoesOn, KeepsNoneAhead, LastToldOf, ServesLine, Stops, ToldAtEnd, Wrote}
use Rattle.session_threads.proofs.ItemLemmas.{last_line, line_then}
use Rattle.session_threads.proofs.ToldLemmas.{noted_all-append, noted_all-id, texts-append, told-append}

-- a text, and then its last part
pub wrote_then : {W : Type 0} (contents : W → Option (List ℕ)) (has_failed : W → Bool) (a b c : W) (s t : List ℕ) (end : SessionEnd) → TakesAll contents has_failed a b s → Wrote contents has_failed b c t end → Wrote contents has_failed a c (s ++ t) end
wrote_then contents has_failed a b c s t Ended all last = all_then all last
wrote_then contents has_failed a b c s t ReaderFailed all last = all_then all last
wrote_then contents has_failed a b c s t WriterFailed all last = part_then all last

pub wrote_texts : {W : Type 0} (contents : W → Option (List ℕ)) (has_failed : W → Bool) (a b c : W) (xs ys : List (Option ItemAnswer)) (end : SessionEnd) → TakesAll contents has_failed a b (told_texts xs) → Wrote contents has_failed b c (told_texts ys) end → Wrote contents has_failed a c (told_texts (xs ++ ys)) end
wrote_texts contents has_failed a b c xs ys end all last = grind (arith, texts-append, wrote_then)

-- a line's items are before those that follow
item_and-append : (item : Option SessionLine) (items : List SessionLine) → item_and item items ≡ item_and item [] ++ items
item_and-append item items = grind arith

pub line_items : (id : ℕ) (text : Option TextSoFar) (line : List ℕ) (after : Within) (told : List (Option ItemAnswer)) (t : LineIsTold id text line after told) (lines : List (List ℕ)) → items_to_come text (line ∷ lines) ≡ item_and t.item [] ++ items_to_come t.next lines
line_items id text line after told t lines = t.gives lines ∙ item_and-append t.item (items_to_come t.next lines)

pub reader_fails : {W : Type 0} (contents : W → Option (List ℕ)) (has_failed : W → Bool) (w : W) (id : ℕ) (input ahead : Option (List ℕ)) (within : Within) (kept : LineSoFar) (failed : Failed) (t : TranscriptState) →
    ReadsLine input ahead kept (Err failed) → Stops id input ahead within (Wrote contents has_failed w w) t ReaderFailed t
reader_fails contents has_failed w id input ahead within kept failed t reads = record {
  told = [];
  noted = refl;
  written = all_none contents has_failed w;
  bytes = reads.0;
  read = reads.3;
  asked = λ text is. (reads.1, refl);
}

pub line_served : {W : Type 0} (contents : W → Option (List ℕ)) (has_failed : W → Bool) (a b : W) (id : ℕ) (input ahead : Option (List ℕ)) (within after : Within) (kept : LineSoFar) (old new : TranscriptState) (u : Unit {0}) →
    ReadsLine input ahead kept (Ok LineFeed) → ServesLine id within after kept (λ text. Writes contents has_failed a b text (Ok u)) old new → GoesOn id input ahead within after (λ text. Wrote contents has_failed a b text Ended) old new
line_served contents has_failed a b id input ahead within after kept old new u reads serves = grind arith

-- the writer fails at the line
pub line_unwritten : {W : Type 0} (contents : W → Option (List ℕ)) (has_failed : W → Bool) (a b : W) (id : ℕ) (input ahead : Option (List ℕ)) (within after : Within) (kept : LineSoFar) (old new : TranscriptState) (failed : Failed) →
    ReadsLine input ahead kept (Ok LineFeed) → ServesLine id within after kept (λ text. Writes contents has_failed a b text (Err failed)) old new → Stops id input ahead within (Wrote contents has_failed a b) old WriterFailed new
line_unwritten contents has_failed a b id input ahead within after kept old new failed reads serves = record {
  told = serves.told;
  noted = serves.noted_is;
  written = serves.written;
  bytes = reads.0 ++ 10 ∷ [];
  read = reads.3;
  asked = λ text is. first ahead text (serves.asked reads.0 reads.2 text is);
}
  where
    first : (known : Option (List ℕ)) (text : Option TextSoFar) → LineIsTold id text reads.0 after serves.told → IfSome known (λ rest. FirstAreTold id (items_to_come text (physical_lines ((reads.0 ++ 10 ∷ []) ++ rest))) serves.told)
    first None text told = tt
    first (Some rest) text told = (item_and told.item [], items_to_come told.next (physical_lines rest), ap (items_to_come text) (line_then reads.0 rest reads.1) ∙ line_items id text reads.0 after serves.told told (physical_lines rest), told.are)

pub input_ended : {W : Type 0} (contents : W → Option (List ℕ)) (has_failed : W → Bool) (a b : W) (id : ℕ) (input ahead : Option (List ℕ)) (within : Within) (kept : LineSoFar) (old new : TranscriptState) (end : SessionEnd) →
    ReadsLine input ahead kept (Ok Input) → EndsInput id within kept (Wrote contents has_failed a b) old end new → Stops id input ahead within (Wrote contents has_failed a b) old end new
input_ended contents has_failed a b id input ahead within kept old new end reads ends = record {
  told = ends.told;
  noted = ends.noted_is;
  written = ends.written;
  bytes = reads.0;
  read = reads.3.0;
  asked = λ text is. at_end end ahead text reads.3.1 (ends.asked reads.0 reads.2 reads.1 text is);
}
  where
    at_end : (how : SessionEnd) (known : Option (List ℕ)) (text : Option TextSoFar) → IsAtEnd known → ToldAtEnd how id (items_to_come text (physical_lines reads.0)) ends.told → LastToldOf id text reads.0 known how ends.told
    at_end Ended known text none told = (none, told)
    at_end ReaderFailed known text none told = absurd told
    at_end WriterFailed None text none told = tt
    at_end WriterFailed (Some rest) text none told =
        let same : reads.0 ++ rest ≡ reads.0 = ap (λ r. reads.0 ++ r) none ∙ append-nil reads.0 in
        let P : List ℕ → Type 0 = λ bytes. FirstAreTold id (items_to_come text (physical_lines bytes)) ends.told in subst P (sym same) told

-- no line is left, only the end
at_once : (id : ℕ) (items : List SessionLine) (told : List (Option ItemAnswer)) (end : SessionEnd) → end ≢ ReaderFailed → AreTold id items told → ToldAtEnd end id items told
at_once id items told end not told_is = grind (arith, append-nil)

pub no_last_line : {W : Type 0} (contents : W → Option (List ℕ)) (has_failed : W → Bool) (a b : W) (id : ℕ) (within : Within) (kept : LineSoFar) (old new : TranscriptState) (end : SessionEnd) →
    ((line : List ℕ) → IsLine kept line → line ≡ []) → Finishes id within (Wrote contents has_failed a b) old end new → EndsInput id within kept (Wrote contents has_failed a b) old end new
no_last_line contents has_failed a b id within kept old new end empty f = record {
  told = f.told;
  noted_is = f.noted_is;
  written = f.written;
  at_end = f.at_end;
  asked = λ line is one text there.
      let P : List ℕ → Type 0 = λ bytes. ToldAtEnd end id (items_to_come text (physical_lines bytes)) f.told in
      subst P (sym (empty line is)) (at_once id (items_to_come text []) f.told end f.at_end (f.answers text there));
}

-- a last line, and the end
pub last_line_served : {W : Type 0} (contents : W → Option (List ℕ)) (has_failed : W → Bool) (a b c : W) (id : ℕ) (within after : Within) (kept : LineSoFar) (old mid new : TranscriptState) (end : SessionEnd) (u : Unit {0}) → old.id ≡ id → ((line : List ℕ) → IsLine kept line → 0 < length line) →
    ServesLine id within after kept (λ text. Writes contents has_failed a b text (Ok u)) old mid → Finishes mid.id after (Wrote contents has_failed b c) mid end new → EndsInput id within kept (Wrote contents has_failed a c) old end new
last_line_served contents has_failed a b c id within after kept old mid new end u own some serves f = record {
  told = serves.told ++ f.told;
  noted_is = f.noted_is ∙ (ap (λ t. noted_all t f.told) serves.noted_is ∙ sym (noted_all-append old serves.told f.told));
  written = wrote_texts contents has_failed a b c serves.told f.told end serves.written f.written;
  at_end = f.at_end;
  asked = λ line is one text there.
      let its = serves.asked line is text there in
      let line_is : items_to_come text (physical_lines line) ≡ item_and its.item [] ++ items_to_come its.next [] = ap (items_to_come text) (last_line line one (some line is)) ∙ line_items id text line after serves.told its [] in
      let Q : ℕ → Type 0 = λ i. AreTold i (items_to_come its.next []) f.told in
      let more : AreTold id (items_to_come its.next []) f.told = subst Q (ap (λ (t : TranscriptState). t.id) serves.noted_is ∙ (noted_all-id old serves.told ∙ own)) (f.answers its.next its.within) in
      let P : List SessionLine → Type 0 = λ items. ToldAtEnd end id items (serves.told ++ f.told) in
      subst P (sym line_is) (at_once id (item_and its.item [] ++ items_to_come its.next []) (serves.told ++ f.told) end f.at_end (told-append id (item_and its.item []) (items_to_come its.next []) serves.told f.told its.are more));
}

-- a last line, at which the writer fails
pub last_line_unwritten : {W : Type 0} (contents : W → Option (List ℕ)) (has_failed : W → Bool) (a b : W) (id : ℕ) (within after : Within) (kept : LineSoFar) (old new : TranscriptState) (failed : Failed) → ((line : List ℕ) → IsLine kept line → 0 < length line) →
    ServesLine id within after kept (λ text. Writes contents has_failed a b text (Err failed)) old new → EndsInput id within kept (Wrote contents has_failed a b) old WriterFailed new
last_line_unwritten contents has_failed a b id within after kept old new failed some serves = record {
  told = serves.told;
  noted_is = serves.noted_is;
  written = serves.written;
  at_end = λ e. (let f : WriterFailed ≡ ReaderFailed = e in cc);
  asked = λ line is one text there.
      let its = serves.asked line is text there in
      (item_and its.item [], items_to_come its.next [], ap (items_to_come text) (last_line line one (some line is)) ∙ line_items id text line after serves.told its [], its.are);
}

-- the reader didn't fail
pub none_ahead : (end : SessionEnd) (ahead : List ℕ) → end ≢ ReaderFailed → KeepsNoneAhead end ahead
none_ahead end ahead not = grind arith

pub ends_reading : (known : Option (List ℕ)) (failed : Bool) (end : SessionEnd) → IsAtEnd known → end ≢ ReaderFailed → EndsReading known failed end
ends_reading known failed end none not = grind arith
