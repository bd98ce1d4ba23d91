-- The lines of a log, answered again.
use Rattle.live_run.proofs.Prelude.{◌≡◌, ℕ, ◌+◌, List, [], ◌∷◌, ◌++◌, length, true, false, Option, Some, Ok, Err, refl, sym, ap, subst, ◌∙◌, arith, append-nil, append_assoc, length-append, Consumes, IsAtEnd, Keeps, Appends-nil, Appends-trans, flat_map-append, take-append-drop, Event, Fails, Follows, Happens, View, Writes, bytes_kept, bytes_told, Told, FailedDevice, IsKept, TakesPiece, kept_of, kept_none, AreAnswered, answered_push, LiveState, AnswersLine, Outcome, Done, ArchUnreadable, ArchRefused, LogUnreadable, LogDiffers, LogIsStream, LogInUse, Stopped, TooManyLines, NoMemory, EndsRetelling, IsRetold, Retells, RetellsLine, StopsRetelling, TellsPart, TellsReply, is_told, text_told}
use Rattle.live_run.proofs.ReadLemmas.{IsRead, read_first, read_line, read_more, read_none, read_piece, read_whole}

follows_none : (a : Option (List Event)) → Follows a a []
follows_none a = grind (arith, append-nil)

follows_then : (a b c : Option (List Event)) (events more : List Event) → Follows a b events → Follows b c more → Follows a c (events ++ more)
follows_then a b c events more p q = grind (arith, append_assoc)

happens_then : (a b c : View) (events more : List Event) → Happens a b events → Happens b c more → Happens a c (events ++ more)
happens_then a b c events more first second = grind (arith, flat_map-append, Appends-trans, follows_then)

-- nothing is written
pub retold_none : (told : Option ℕ) (view : View) → IsRetold told view view []
retold_none told view = grind (arith, Appends-nil, follows_none)

-- texts are written one after the other
pub retold_then : (told : Option ℕ) (a b c : View) (text more : List ℕ) → IsRetold told a b text → IsRetold told b c more → IsRetold told a c (text ++ more)
retold_then told a b c text more first second = grind (arith, flat_map-append, happens_then a b c first.events second.events first.happens second.happens, flat_map-append bytes_kept first.events second.events, flat_map-append bytes_told first.events second.events)

-- one text is written
pub retold_text : (told : Option ℕ) (line : ℕ) (before after : View) (text : List ℕ) → told ≡ Some line → Happens before after (Told text ∷ []) → IsRetold told before after text
retold_text told line before after text some happens = grind (arith, append-nil)

pub keeps_same : (known : Option (List ℕ)) → Keeps known known
keeps_same known = grind arith

-- a reply that is written
pub reply_told : (told : Option ℕ) (number : ℕ) (reply : List ℕ) (before after : View) → is_told told number ≡ true → Happens before after (Told reply ∷ []) → IsRetold told before after (text_told told number reply)
reply_told told number reply before after is happens = grind (arith, retold_text)

-- and one of which a beginning was written
pub part_told : (told : Option ℕ) (number : ℕ) (reply : List ℕ) (before after : View) (fault : FailedDevice) → is_told told number ≡ true → Fails before after fault Told reply → TellsPart told before after (text_told told number reply)
part_told told number reply before after fault is fails = grind (arith, retold_text, take-append-drop fails.count reply)

-- what a write did to a reply
pub write_told : (told : Option ℕ) (number : ℕ) (reply : List ℕ) (before after : View) → is_told told number ≡ true → Writes before after reply (Ok tt) → TellsReply told number reply before (Ok tt) after
write_told told number reply before after is writes = (reply_told told number reply before after is writes.0, writes.1)

-- a line that was answered
pub line_told : (old new : LiveState) (number next : ℕ) (line reply : List ℕ) (told : Option ℕ) (before after : View) → AnswersLine old number line reply new → TellsReply told number reply before (Ok tt) after → next ≡ number + 1 → RetellsLine old number line told before (Ok tt) new next after
line_told old new number next line reply told before after answered tells counted = grind arith

pub line_fails : (old new : LiveState) (number next : ℕ) (line reply : List ℕ) (told : Option ℕ) (before after : View) (outcome : Outcome) → AnswersLine old number line reply new → TellsReply told number reply before (Err outcome) after → RetellsLine old number line told before (Err outcome) new next after
line_fails old new number next line reply told before after outcome answered tells = grind arith

-- the lines so far were answered
pub record RetellsSome (start : LiveState) (first : ℕ) (input now : Option (List ℕ)) (ahead kept : List ℕ) (told : Option ℕ) (before : View) (number : ℕ) (state : LiveState) (after : View) : Type 0 where
  pub lines : List (List ℕ)
  pub read : IsRead input now ahead kept lines
  pub text : List ℕ
  pub answered : AreAnswered (Retells told) start first lines text state
  pub counted : number ≡ first + length lines
  pub retold : IsRetold told before after text
  pub stays : Keeps before.remaining after.remaining

pub some_none : (start : LiveState) (first : ℕ) (input : Option (List ℕ)) (ahead kept : List ℕ) (told : Option ℕ) (view : View) → ahead ≡ [] → IsKept kept [] → RetellsSome start first input input ahead kept told view first start view
some_none start first input ahead kept told view none line = grind (arith, read_none, retold_none)

-- one more line
pub some_line : (start : LiveState) (first : ℕ) (input now : Option (List ℕ)) (ahead kept rest after cleared : List ℕ) (told : Option ℕ) (before : View) (number next : ℕ) (state new : LiveState) (mid last : View) → RetellsSome start first input now ahead kept told before number state mid → TakesPiece ahead kept true rest after → IsKept cleared [] → RetellsLine state number after told mid (Ok tt) new next last → RetellsSome start first input now rest cleared told before next new last
some_line start first input now ahead kept rest after cleared told before number next state new mid last g p none (text, one, retold, keeps, counted) = grind (arith, answered_push, length-append, read_line input now ahead kept rest after cleared g.lines g.read p none, retold_then told before mid last g.text text g.retold retold)

-- more of the log is read
pub some_read : (start : LiveState) (first : ℕ) (input now later : Option (List ℕ)) (ahead kept rest after bytes line : List ℕ) (told : Option ℕ) (before : View) (number : ℕ) (state : LiveState) (mid : View) → RetellsSome start first input now ahead kept told before number state mid → TakesPiece ahead kept false rest after → Consumes now later bytes → line ≡ after → RetellsSome start first input later bytes line told before number state mid
some_read start first input now later ahead kept rest after bytes line told before number state mid g p reads same = grind (arith, read_more input now later rest after bytes g.lines p.rest.1 (read_piece input now ahead kept rest after g.lines g.read p) reads)

-- all of it was
pub some_whole : (start : LiveState) (first : ℕ) (input now : Option (List ℕ)) (ahead kept : List ℕ) (told : Option ℕ) (before : View) (number : ℕ) (state : LiveState) (after : View) → ahead ≡ [] → IsAtEnd now → RetellsSome start first input now ahead kept told before number state after → EndsRetelling start first input told before (Ok tt) state number after
some_whole start first input now ahead kept told before number state after none at g =
    (record { lines = g.lines; all = read_whole input now ahead kept g.lines none g.read at; text = g.text; answered = g.answered; retold = g.retold; input = g.stays }, g.counted)

-- nothing more is written
pub some_stops : (start : LiveState) (first : ℕ) (input now : Option (List ℕ)) (ahead kept : List ℕ) (told : Option ℕ) (before : View) (number : ℕ) (state : LiveState) (after : View) → RetellsSome start first input now ahead kept told before number state after → StopsRetelling start first input told before after
some_stops start first input now ahead kept told before number state after g = grind (arith, read_first input now ahead kept g.lines g.read, append-nil g.text)

-- a line was not answered, or a beginning of its reply was written
some_fails : (start : LiveState) (first : ℕ) (input now : Option (List ℕ)) (ahead kept rest after : List ℕ) (told : Option ℕ) (before : View) (number : ℕ) (state new : LiveState) (mid last : View) (text said unsaid : List ℕ) → RetellsSome start first input now ahead kept told before number state mid → TakesPiece ahead kept true rest after → Retells told state number after text new → text ≡ said ++ unsaid → IsRetold told mid last said → StopsRetelling start first input told before last
some_fails start first input now ahead kept rest after told before number state new mid last text said unsaid g p one cut retold =
    let line = g.read.begun ++ p.piece in
    let L : List ℕ → Type 0 = λ l. Retells told state number l text new in
    let N : ℕ → Type 0 = λ n. Retells told state n (kept_of line) text new in
    record {
      lines = g.lines ++ line ∷ [];
      are_first = read_first input now rest [] (g.lines ++ line ∷ []) (read_line input now ahead kept rest after [] g.lines g.read p (sym kept_none));
      text = g.text ++ text;
      new = new;
      answered = answered_push (Retells told) start first g.lines line g.text text state new g.answered (subst N g.counted (subst L (p.kept g.read.begun g.read.line) one));
      said = g.text ++ said;
      unsaid = unsaid;
      cut = ap (λ t. g.text ++ t) cut ∙ sym (append_assoc g.text said unsaid);
      retold = retold_then told before mid last g.text said g.retold retold;
    }

pub some_ends : (start : LiveState) (first : ℕ) (input now : Option (List ℕ)) (ahead kept rest after : List ℕ) (told : Option ℕ) (before : View) (number next : ℕ) (state new : LiveState) (mid last : View) (outcome : Outcome) → RetellsSome start first input now ahead kept told before number state mid → TakesPiece ahead kept true rest after → RetellsLine state number after told mid (Err outcome) new next last → EndsRetelling start first input told before (Err outcome) new next last
some_ends start first input now ahead kept rest after told before number next state new mid last Done g p l = absurd l
some_ends start first input now ahead kept rest after told before number next state new mid last ArchUnreadable g p l = absurd l
some_ends start first input now ahead kept rest after told before number next state new mid last (ArchRefused fault) g p l = absurd l
some_ends start first input now ahead kept rest after told before number next state new mid last LogUnreadable g p l = grind (arith, some_stops, some_stops start first input now ahead kept told before number state mid g)
some_ends start first input now ahead kept rest after told before number next state new mid last (LogDiffers difference) g p l = absurd l
some_ends start first input now ahead kept rest after told before number next state new mid last LogIsStream g p l = absurd l
some_ends start first input now ahead kept rest after told before number next state new mid last LogInUse g p l = absurd l
some_ends start first input now ahead kept rest after told before number next state new mid last (Stopped fault) g p (text, one, part, failed) =
    (some_fails start first input now ahead kept rest after told before number state new mid last text part.said part.unsaid g p one part.cut part.retold, failed)
some_ends start first input now ahead kept rest after told before number next state new mid last TooManyLines g p l = absurd l
some_ends start first input now ahead kept rest after told before number next state new mid last NoMemory g p l =
    let P : View → Type 0 = λ v. StopsRetelling start first input told before v in
    subst P (sym l) (some_stops start first input now ahead kept told before number state mid g)

-- no line was answered
pub none_stops : (start : LiveState) (first : ℕ) (input : Option (List ℕ)) (told : Option ℕ) (view : View) → StopsRetelling start first input told view view
none_stops start first input told view = some_stops start first input input [] [] told view first start view (some_none start first input [] [] told view refl (sym kept_none))
