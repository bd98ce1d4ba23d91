-- Where a log leads.
use Rattle.live_threads.proofs.Prelude.{◌≡◌, inl, inr, ℕ, ◌+◌, List, [], ◌∷◌, ◌++◌, Bool, true, false, not, ◌&&◌, Option, refl, sym, ap, subst, ◌∙◌, arith, append-nil, append_assoc, IfOk, OnErr, OnOk, Result, flat_map-append, Consumes, IsAtEnd, and_from, and_parts, length-append, Admit, Evict, Move, Owners, Step, Take, Put, IsKept, TakesPiece, kept_of, answered_append, Asked, LiveState, asked_of, Echoes, Figures, NoForm, Nothing, Operates, Says, AnswersLine, is_busy, is_by_hand, is_outside, IsHome, NeedNotWait, without_workers, ArePuts, CutsLine, HasReply, IsServable, LeadsFrom, LeadsTo, PutsHeld, Replays, ReplaysSome, ServesLine, StopsLine, StopsReplay, move_no_job, moves_job, put_line, IsRetold, TellsPart, text_told, retold_none, retold_then, View, kept_none, both_lines}
use Rattle.std.specs.Prelude.{Ok, Err}
use Rattle.script_text.specs.declared.operator_line.OperatorLine.TheVariants.{List as ListAll}
use Rattle.live_threads.proofs.FedLemmas.{cut_is_line, fed_first, fed_line, fed_none, fed_piece, fed_read, fed_whole}

-- what workers have is no part of what a line is answered, if they have nothing that it needs
pub record HomeLaws : Type 0 where
  pub line : (old new : LiveState) (number : ℕ) (line reply : List ℕ) → is_by_hand (asked_of line) ≡ false → NeedNotWait (without_workers old) (asked_of line) line → AnswersLine old number line reply new → AnswersLine (without_workers old) number line reply (without_workers new)
  pub said : (old new : LiveState) (number : ℕ) (line reply name said : List ℕ) → asked_of line ≡ Says name said → IsHome old name → AnswersLine old number line reply new → AnswersLine (without_workers old) number line reply (without_workers new)
  pub steps : (old new : LiveState) (number count : ℕ) (line reply name : List ℕ) → asked_of line ≡ Operates (Step name count) → IsHome old name → AnswersLine old number line reply new → AnswersLine (without_workers old) number line reply (without_workers new)

no_wait : (outside busy : Bool) → (outside && (false && busy)) ≡ false
no_wait outside busy = grind arith

served_alone : (laws : HomeLaws) (old new : LiveState) (number : ℕ) (line reply : List ℕ) (asked : Asked) → asked_of line ≡ asked → moves_job asked ≡ false → IsServable old asked line → AnswersLine old number line reply new → AnswersLine (without_workers old) number line reply (without_workers new)
served_alone laws old new number line reply asked is none can answers = by asked is none can
  where
    plain : (a : Asked) → asked_of line ≡ a → is_by_hand a ≡ false → NeedNotWait (without_workers old) a line → AnswersLine (without_workers old) number line reply (without_workers new)
    plain a is hand need =
        let P : Asked → Type 0 = λ b. NeedNotWait (without_workers old) b line in
        laws.line old new number line reply (ap is_by_hand is ∙ hand) (subst P (sym is) need) answers

    by : (a : Asked) → asked_of line ≡ a → moves_job a ≡ false → IsServable old a line → AnswersLine (without_workers old) number line reply (without_workers new)
    by Nothing is none can = plain Nothing is refl tt
    by NoForm is none can = plain NoForm is refl tt
    by (Echoes words) is none can = plain (Echoes words) is refl tt
    by Figures is none can = plain Figures is refl tt
    by (Operates (Admit name width)) is none can = plain (Operates (Admit name width)) is refl tt
    by (Operates (Evict name)) is none can = plain (Operates (Evict name)) is refl tt
    by (Operates (Move name offset)) is none can = plain (Operates (Move name offset)) is refl tt
    by (Operates ListAll) is none can = plain (Operates ListAll) is refl tt
    by (Operates Owners) is none can = plain (Operates Owners) is refl tt
    by (Operates (Step name count)) is none can = laws.steps old new number count line reply name is can answers
    by (Operates (Take name)) is none can = absurd (cc)
    by (Operates (Put job)) is none can = absurd (cc)
    by (Says name said) is none (inl free) =
        let outside : Bool = is_outside (old.texts name) in
        let busy : Bool = is_busy (without_workers old) name in
        plain (Says name said) is refl (ap (λ w. outside && (w && busy)) free ∙ no_wait outside busy)
    by (Says name said) is none (inr home) = laws.said old new number line reply name said is home answers

-- no line leads nowhere
pub leads_none : (told : Option ℕ) (old : LiveState) (number next taken : ℕ) → next ≡ number → LeadsTo told old number taken [] [] old next taken
leads_none told old number next taken same = λ is none. ((refl, refl), omega (arith, same), none)

not_true : (b : Bool) → not b ≡ true → b ≡ false
not_true b is = grind arith

-- the reply to a line, as without workers
pub reply_line : (laws : HomeLaws) (old at after new : LiveState) (number taken took : ℕ) (line reply : List ℕ) → without_workers at ≡ without_workers old → (taken ≡ 0 → IsServable at (asked_of line) line) → AnswersLine at number line reply after →
    without_workers new ≡ without_workers after → (moves_job (asked_of line) ≡ false → took ≡ taken) → HasReply (without_workers old) number taken line reply (without_workers new) took
reply_line laws old at after new number taken took line reply before can answers later same = search (served_alone, arith)

-- a line leads on
pub leads_line : (told : Option ℕ) (old new : LiveState) (number next taken took : ℕ) (line reply text : List ℕ) → kept_of line ≡ line → HasReply old number taken line reply new took → next ≡ number + 1 → text ≡ text_told told number reply → LeadsTo told old number taken (line ∷ []) text new next took
leads_line told old new number next taken took line reply text cut has counted is_text = grind (arith, not_true, and_parts, append-nil text)

none_parts : (lines more : List (List ℕ)) → move_no_job (lines ++ more) ≡ true → (move_no_job lines ≡ true) × (move_no_job more ≡ true)
none_parts [] more is = (refl, is)
none_parts (line ∷ lines) more is =
    let parts = and_parts (not (moves_job (asked_of line))) (move_no_job (lines ++ more)) is in
    let rest = none_parts lines more parts.1 in
    (and_from _ _ parts.0 rest.0, rest.1)

-- lines after lines
pub leads_then : (told : Option ℕ) (old mid new : LiveState) (number middle next taken between took : ℕ) (lines more : List (List ℕ)) (text reply : List ℕ) → LeadsTo told old number taken lines text mid middle between → LeadsTo told mid middle between more reply new next took → LeadsTo told old number taken (lines ++ more) (text ++ reply) new next took
leads_then told old mid new number middle next taken between took lines more text reply first second = grind (arith, none_parts, answered_append, length-append)

-- the first line of a log comes
pub some_none : (told : Option ℕ) (begun : LiveState) (input : Option (List ℕ)) (ahead kept : List ℕ) (view : View) (next taken : ℕ) → ahead ≡ [] → IsKept kept [] → next ≡ 1 → taken ≡ 0 → ReplaysSome told begun input input ahead kept view begun next taken view
some_none told begun input ahead kept view next taken none line first free = grind (arith, fed_none input ahead kept none line, retold_none told view)

-- a line of it is whole, and was served
pub some_line : (told : Option ℕ) (begun : LiveState) (input now : Option (List ℕ)) (ahead kept rest after cleared : List ℕ) (before : View) (mid new : LiveState) (middle next taken took : ℕ) (between last : View) → ReplaysSome told begun input now ahead kept before mid middle taken between → TakesPiece ahead kept true rest after → IsKept cleared [] → ServesLine told mid middle taken after between new next took last → ReplaysSome told begun input now rest cleared before new next took last
some_line told begun input now ahead kept rest after cleared before mid new middle next taken took between last s p none serves = grind (arith, leads_then, retold_then, fed_line input now ahead kept rest after cleared s.fed s.is_fed p none, leads_then told begun mid new 1 middle next 0 taken took s.fed (after ∷ []) s.text serves.text s.leads serves.leads, retold_then told before between last s.text serves.text s.retold serves.retold)

pub some_cut : (told : Option ℕ) (begun : LiveState) (input now : Option (List ℕ)) (ahead kept rest after : List ℕ) (before : View) (mid : LiveState) (middle taken : ℕ) (between : View) → ReplaysSome told begun input now ahead kept before mid middle taken between → TakesPiece ahead kept true rest after → kept_of after ≡ after
some_cut told begun input now ahead kept rest after before mid middle taken between s p = grind (arith, cut_is_line, both_lines)

-- more of it is read
pub some_read : (told : Option ℕ) (begun : LiveState) (input now later : Option (List ℕ)) (ahead kept rest after bytes line : List ℕ) (before : View) (mid : LiveState) (middle taken : ℕ) (between : View) → ReplaysSome told begun input now ahead kept before mid middle taken between → TakesPiece ahead kept false rest after → Consumes now later bytes → line ≡ after → ReplaysSome told begun input later bytes line before mid middle taken between
some_read told begun input now later ahead kept rest after bytes line before mid middle taken between s p reads same = grind (arith, fed_read input now later rest after bytes s.fed p.rest.1 (fed_piece input now ahead kept rest after s.fed s.is_fed p) reads)

from_first : (told : Option ℕ) (begun : LiveState) (lines : List (List ℕ)) (text : List ℕ) (new : LiveState) (next taken : ℕ) → LeadsTo told begun 1 0 lines text new next taken → LeadsFrom told begun lines text new
from_first told begun lines text new next taken leads = λ is. (leads is refl).0

-- all of it was served, and the jobs that the operator held were put
pub replayed : (told : Option ℕ) (begun : LiveState) (input now : Option (List ℕ)) (ahead kept : List ℕ) (before : View) (mid new : LiveState) (middle next taken : ℕ) (put : List ℕ) (after : View) → ahead ≡ [] → IsAtEnd now → ReplaysSome told begun input now ahead kept before mid middle taken after → PutsHeld mid middle taken new next put → Replays told begun input before new next put after
replayed told begun input now ahead kept before mid new middle next taken put after none at s p = grind (arith, fed_whole input now ahead kept s.fed none s.is_fed)

-- nothing more is written
pub some_stops : (told : Option ℕ) (begun : LiveState) (input now : Option (List ℕ)) (ahead kept : List ℕ) (before : View) (mid : LiveState) (middle taken : ℕ) (after : View) → ReplaysSome told begun input now ahead kept before mid middle taken after → StopsReplay told begun input before after
some_stops told begun input now ahead kept before mid middle taken after s = grind (arith, fed_first input now ahead kept s.fed s.is_fed, append-nil s.text)

some_part : (told : Option ℕ) (begun : LiveState) (input now : Option (List ℕ)) (ahead kept rest after : List ℕ) (before : View) (mid : LiveState) (middle taken : ℕ) (between last : View) → ReplaysSome told begun input now ahead kept before mid middle taken between → TakesPiece ahead kept true rest after → CutsLine told mid middle taken after between last → StopsReplay told begun input before last
some_part told begun input now ahead kept rest after before mid middle taken between last s p c = grind (arith, fed_line, kept_none, from_first, leads_then, append_assoc, retold_then, fed_first input now rest [] (s.fed ++ after ∷ []) (fed_line input now ahead kept rest after [] s.fed s.is_fed p (sym kept_none)), fed_line input now ahead kept rest after [] s.fed s.is_fed p (sym kept_none), from_first told begun (s.fed ++ after ∷ []) (s.text ++ c.text) c.new c.next c.took (leads_then told begun mid c.new 1 middle c.next 0 taken c.took s.fed (after ∷ []) s.text c.text s.leads c.leads), leads_then told begun mid c.new 1 middle c.next 0 taken c.took s.fed (after ∷ []) s.text c.text s.leads c.leads, append_assoc s.text c.part.said c.part.unsaid, retold_then told before between last s.text c.part.said s.retold c.part.retold)

-- a line was not served, or only a beginning of its reply was written
pub some_fails : (told : Option ℕ) (begun : LiveState) (input now : Option (List ℕ)) (ahead kept rest after : List ℕ) (before : View) (mid : LiveState) (middle taken : ℕ) (between last : View) → ReplaysSome told begun input now ahead kept before mid middle taken between → TakesPiece ahead kept true rest after → StopsLine told mid middle taken after between last → StopsReplay told begun input before last
some_fails told begun input now ahead kept rest after before mid middle taken between last s p (inl same) = grind (arith, some_stops told begun input now ahead kept before mid middle taken between s)
some_fails told begun input now ahead kept rest after before mid middle taken between last s p (inr c) = some_part told begun input now ahead kept rest after before mid middle taken between last s p c

-- no line was served
pub none_stops : (told : Option ℕ) (begun : LiveState) (input : Option (List ℕ)) (view : View) → StopsReplay told begun input view view
none_stops told begun input view = some_stops told begun input input [] [] view begun 1 0 view (some_none told begun input [] [] view 1 0 refl (sym kept_none) refl refl)

-- all lines were, and then the service stopped
pub replay_stops : (told : Option ℕ) (begun : LiveState) (log : Option (List ℕ)) (before : View) (new : LiveState) (next : ℕ) (put : List ℕ) (after : View) → Replays told begun log before new next put after → StopsReplay told begun log before after
replay_stops told begun log before new next put after r = grind (arith, append-nil)

-- the lines after a log put jobs
pub puts_of : (told : Option ℕ) (begun : LiveState) (log : Option (List ℕ)) (before : View) (new : LiveState) (next : ℕ) (put : List ℕ) (after : View) → Replays told begun log before new next put after → ArePuts put
puts_of told begun log before new next put after r = (r.jobs, r.put_is)

-- one more line puts a job
pub puts_push : (text line more : List ℕ) (job : ℕ) → ArePuts text → line ≡ put_line job → more ≡ text ++ line → ArePuts more
puts_push text line more job (jobs, is) one all = grind (arith, append-nil (put_line job), flat_map-append put_line jobs (job ∷ []))

pub err_so : {T E : Type 0} {P : Type 0} (result : Result T E) → P → OnErr result P
err_so result p = grind arith

pub if_ok_so : {T E : Type 0} (result : Result T E) (P Q : T → Type 0) → ((x : T) → P x → Q x) → IfOk result P → IfOk result Q
if_ok_so result P Q so p = grind arith

-- a line that was served
pub ok_serves : {T E : Type 0} (result : Result T E) (told : Option ℕ) (old new : LiveState) (number next taken took : ℕ) (line reply : List ℕ) (before after : View) → kept_of line ≡ line → HasReply old number taken line reply new took → next ≡ number + 1 → OnOk result (IsRetold told before after (text_told told number reply)) → OnOk result (ServesLine told old number taken line before new next took after)
ok_serves (Ok x) told old new number next taken took line reply before after cut has counted retold = record { text = text_told told number reply; leads = leads_line told old new number next taken took line reply (text_told told number reply) cut has counted refl; retold = retold }
ok_serves (Err e) told old new number next taken took line reply before after cut has counted retold = tt

-- and one of whose reply a beginning was written
pub err_cuts : {T E : Type 0} (result : Result T E) (told : Option ℕ) (old new : LiveState) (number next taken took : ℕ) (line reply : List ℕ) (before after : View) → kept_of line ≡ line → HasReply old number taken line reply new took → next ≡ number + 1 → OnErr result (TellsPart told before after (text_told told number reply)) → OnErr result (StopsLine told old number taken line before after)
err_cuts (Ok x) told old new number next taken took line reply before after cut has counted part = tt
err_cuts (Err e) told old new number next taken took line reply before after cut has counted part = inr (record { text = text_told told number reply; new = new; next = next; took = took; leads = leads_line told old new number next taken took line reply (text_told told number reply) cut has counted refl; part = part })
