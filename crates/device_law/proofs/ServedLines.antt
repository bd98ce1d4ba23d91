-- What is read of the reply to each line of the operator.
use Rattle.device_law.proofs.Prelude.{◌≡◌, ℕ, zero, suc, ◌+◌, ◌-◌, ◌/◌, ◌%◌, ◌^◌, ◌<◌, ◌≤◌, Bool, true, false, cond, eqb, List, [], ◌∷◌, ◌++◌, length, map, codes, decimal, Option, Some, None, Result, Ok, Err, refl, sym, ap, ◌∙◌, subst, arith, append_assoc, ⊤, IsSome, min, option_map, digits, digits_onto, digit_glyph, list_all, and_from, false≢true, JobState, PlacedStrip, IsParted, Plan, moved_strip, strip_of, with_moved, strips_without, IsParted-with-inside, Device, OpRefusal, IsAdmitted, IsEvicted, IsMoved, History, IsDevice, op_refusal_number, op_refusal_text, Call, ServiceState, history_of, live_of, placed_strip, if_live_some, no_strip-next, own_stands, admitted_text, evicted_text, last_id, moved_text, names_after, refused_text, taken_text, IsAdmission, Stage, Seen, Shown, reports, size_of}
use Rattle.service_core.specs.declared.op_refusal.OpRefusal.TheVariants as Op
use Rattle.device_law.proofs.LineLemmas.{is_solid}
use Rattle.device_law.proofs.OwnerFacts.{Lives, Stands, live_within, of_both, strip_all}
use Rattle.device_law.proofs.ReplyLines.{IsReplyLine, admitted_line, kept, moved_line, one_less, one_more, refused_line, taken_line, word_none, word_ok}
use Rattle.device_law.proofs.Shows.{After, Shows, now_shown, reply_changed, reply_same}
use Rattle.device_law.proofs.Stages.{Fine, stands_in}
use Rattle.device_law.proofs.StripEntries.{entries_admitted, entries_evicted, entries_few, entries_moved, strip_entries}

-- the digits of any number
glyph_solid : (d : ℕ) → is_solid (digit_glyph false d) ≡ true
glyph_solid d = grind arith

digits_solid : (k n : ℕ) (acc : List ℕ) → list_all is_solid acc ≡ true → list_all is_solid (digits_onto k 10 false n acc) ≡ true
digits_solid zero n acc all = all
digits_solid (suc k) n acc all =
    let more : list_all is_solid (digit_glyph false (n % 10) ∷ acc) ≡ true = and_from _ _ (glyph_solid (n % 10)) all in
    by_test (eqb (n / 10) 0) more (digits_solid k (n / 10) (digit_glyph false (n % 10) ∷ acc) more)
  where
    by_test : (b : Bool) → list_all is_solid (digit_glyph false (n % 10) ∷ acc) ≡ true → list_all is_solid (digits_onto k 10 false (n / 10) (digit_glyph false (n % 10) ∷ acc)) ≡ true →
        list_all is_solid (cond b (digit_glyph false (n % 10) ∷ acc) (digits_onto k 10 false (n / 10) (digit_glyph false (n % 10) ∷ acc))) ≡ true
    by_test true one rest = one
    by_test false one rest = rest

any_solid : (n : ℕ) → list_all is_solid (decimal n) ≡ true
unfolding digits
any_solid n = digits_solid 64 n [] refl

-- the texts as lines
abbrev refused_words : ℕ → List ℕ → List ℕ
refused_words number name = codes "refused" ++ (32 ∷ (decimal number ++ (32 ∷ name)))

refused_is : (number : ℕ) (name : List ℕ) → refused_text number name ≡ refused_words number name ++ 10 ∷ []
refused_is number name = simp append_assoc

refusal_line : (refusal : OpRefusal) → IsReplyLine (refused_words (op_refusal_number refusal) (op_refusal_text refusal)) false kept
refusal_line Op.NoMemory = refused_line 1 (codes "NoMemory") (omega arith) refl
refusal_line Op.NoRoom = refused_line 2 (codes "NoRoom") (omega arith) refl
refusal_line Op.TooManyStrips = refused_line 3 (codes "TooManyStrips") (omega arith) refl
refusal_line Op.BadWidth = refused_line 4 (codes "BadWidth") (omega arith) refl
refusal_line Op.NoSuchTenancy = refused_line 5 (codes "NoSuchTenancy") (omega arith) refl
refusal_line Op.IdsSpent = refused_line 6 (codes "IdsSpent") (omega arith) refl

abbrev admitted_words : ℕ → ℕ → List ℕ
admitted_words id offset = codes "ok" ++ (32 ∷ (decimal id ++ (32 ∷ decimal offset)))

admitted_is : (id offset : ℕ) → admitted_text (Ok (id, offset)) ≡ admitted_words id offset ++ 10 ∷ []
admitted_is id offset = simp append_assoc

-- a live tenancy has a strip
lives_in : (device : Device) (state : ServiceState) (id : ℕ) → Stands device state → IsSome (live_of state.histories id) → Lives device state id
lives_in device state id stands live = by_both (live_of state.histories id) (strip_of state.plan.strips id) refl refl live (stands.kept.linked id)
  where
    by_both : (l : Option History) (o : Option PlacedStrip) → live_of state.histories id ≡ l → strip_of state.plan.strips id ≡ o → IsSome l →
        option_map (λ (s : PlacedStrip). s.width) (strip_of state.plan.strips id) ≡ option_map (λ (h : History). h.strip.width) (live_of state.histories id) → Lives device state id
    by_both None o is found never linked = absurd (false≢true never)
    by_both (Some h) None is found some linked =
        let wrong : option_map (λ (s : PlacedStrip). s.width) None ≡ Some h.strip.width = sym (ap (option_map (λ (s : PlacedStrip). s.width)) found) ∙ (linked ∙ ap (option_map (λ (h : History). h.strip.width)) is) in absurd cc
    by_both (Some h) (Some s) is found some linked = of_both device state id h s stands is found

module _ (device : Device) (known : IsDevice device) (old new : Stage) (fine : Fine device old) (shown : Shown) (seen : Seen) (number : ℕ)
    (shows : Shows (size_of device known) old.service.plan.strips old.names shown seen) where
  abbrev Then : List ℕ → Type 0
  Then text = After (size_of device known) new.service.plan.strips new.names (now_shown (reports text) shown) seen number text

  stands : Stands device old.service
  stands = stands_in device old fine

  pub names_few : length old.names ≤ 65535
  names_few = let few = (stands_in device old fine).kept.few in let even = fine.names.even in omega (arith, few, even)

  -- a refusal changes nothing
  refused_then : (refusal : OpRefusal) (text : List ℕ) → text ≡ refused_text (op_refusal_number refusal) (op_refusal_text refusal) → new.service ≡ old.service → new.names ≡ old.names → Then text
  refused_then refusal text told service names =
      reply_same (size_of device known) old.service.plan.strips old.names shown seen number shows (refused_words (op_refusal_number refusal) (op_refusal_text refusal)) text kept new.service.plan.strips new.names
      (refusal_line refusal) (told ∙ refused_is (op_refusal_number refusal) (op_refusal_text refusal)) (ap (λ (s : ServiceState). s.plan.strips) service) names

  -- an admission
  granted : (name text : List ℕ) (width : ℕ) (given : ℕ × ℕ) → IsAdmitted old.service width (Ok given) new.service → new.names ≡ name ∷ old.names → text ≡ admitted_text (Ok given) → Then text
  granted name text width given admits names told =
      let hs = old.service.histories in
      let strips = old.service.plan.strips in
      let s : PlacedStrip = record { id = length hs + 1; offset = given.1; width = width } in
      let nameless : PlacedStrip = record { id = 0; offset = given.1; width = width } in
      let even = fine.names.even in
      let most = names_few in
      let next : length hs + 1 ≡ length old.names + 1 = omega (arith, even) in
      let free : strip_of strips (length old.names + 1) ≡ None = ap (strip_of strips) (sym next) ∙ no_strip-next device strips hs (stands_in device old fine).kept in
      let more = entries_admitted strips old.names name s next free in
      let few = entries_few strips old.names in
      let now : length (strip_entries new.service.plan.strips new.names) ≡ length (strip_entries (strips ++ s ∷ []) (name ∷ old.names)) =
      ap (λ ss. length (strip_entries ss new.names)) (ap (λ (st : ServiceState). st.plan.strips) admits.3) ∙ ap (λ ns. length (strip_entries (strips ++ s ∷ []) ns)) names in
      let live = shows.live_is in
      let inside = IsParted-with-inside old.service.plan nameless admits.2.0.parted in
      let columns = (stands_in device old fine).parted.columns in
      let wide = known.columns.1 in
      let id = admits.1 in
      let counted : one_more seen.live ≡ length (strip_entries new.service.plan.strips new.names) = omega (arith, live, now, more, few, most) in
      reply_changed (size_of device known) strips old.names shown seen number shows (admitted_words given.0 given.1) text one_more new.service.plan.strips new.names
      (admitted_line given.0 given.1 (omega (arith, id, even, most)) (omega (arith, inside, columns, wide))) (told ∙ admitted_is given.0 given.1) counted

  pub admission_then : (o : Option History) (name : List ℕ) (width : ℕ) (calls : List Call) (text : List ℕ) → IsAdmission o old name width calls text new → Then text
  admission_then (Some h) name width calls text is =
      reply_same (size_of device known) old.service.plan.strips old.names shown seen number shows (refused_words 7 (codes "NameInUse")) text kept new.service.plan.strips new.names
      (refused_line 7 (codes "NameInUse") (omega arith) refl) (is.1 ∙ refused_is 7 (codes "NameInUse")) (ap (λ (s : Stage). s.service.plan.strips) is.2) (ap (λ (s : Stage). s.names) is.2)
  admission_then None name width calls text is = by_answer is.0 is.1 is.2 is.5
    where
      by_answer : (answer : Result (ℕ × ℕ) OpRefusal) → IsAdmitted old.service width answer new.service → new.names ≡ names_after old.names name answer → text ≡ admitted_text answer → Then text
      by_answer (Ok given) admits names told = granted name text width given admits names told
      by_answer (Err refusal) admits names told = refused_then refusal text told admits.1 names

  -- an eviction
  pub eviction_then : (id : ℕ) (text : List ℕ) (answer : Result (Unit {0}) OpRefusal) → IsEvicted old.service id answer new.service → new.names ≡ old.names → text ≡ evicted_text answer → Then text
  eviction_then id text (Ok nothing) evicts names told =
      let strips = old.service.plan.strips in
      let l = lives_in device old.service id (stands_in device old fine) evicts.0 in
      let within = live_within old.service id l.history (if_live_some (history_of old.service.histories id) l.history l.live) in
      let even = fine.names.even in
      let low = within.0 in
      let high = within.1 in
      let fewer = entries_evicted strips old.names id l.strip low (omega (arith, high, even)) l.found in
      let now : length (strip_entries new.service.plan.strips new.names) ≡ length (strip_entries (strips_without strips id) old.names) =
      ap (λ ss. length (strip_entries ss new.names)) (ap (λ (st : ServiceState). st.plan.strips) evicts.1) ∙ ap (λ ns. length (strip_entries (strips_without strips id) ns)) names in
      let live = shows.live_is in
      let counted : one_less seen.live ≡ length (strip_entries new.service.plan.strips new.names) = omega (arith, live, now, fewer) in
      reply_changed (size_of device known) strips old.names shown seen number shows (codes "ok") text one_less new.service.plan.strips new.names word_ok told counted
  eviction_then id text (Err refusal) evicts names told = refused_then refusal text told evicts.2 names

  -- a move
  moved : (id offset : ℕ) (text : List ℕ) → IsSome (live_of old.service.histories id) → IsParted (with_moved old.service.plan id offset) → new.service ≡ record old.service { plan = with_moved old.service.plan id offset } → new.names ≡ old.names →
      text ≡ (codes "ok" ++ (32 ∷ decimal offset)) ++ 10 ∷ [] → Then text
  moved id offset text live parted service names told =
      let strips = old.service.plan.strips in
      let l = lives_in device old.service id (stands_in device old fine) live in
      let at = own_stands strips id l.strip.offset offset (ap (option_map (λ (s : PlacedStrip). s.offset)) l.found) in
      let place = placed_strip (map (moved_strip id offset) strips) id offset at in
      let inside : place.0.offset + place.0.width ≤ old.service.plan.columns = strip_all (λ (s : PlacedStrip). s.offset + s.width ≤ old.service.plan.columns) (map (moved_strip id offset) strips) id place.0 place.1 parted.inside in
      let here = place.2 in
      let columns = (stands_in device old fine).parted.columns in
      let wide = known.columns.1 in
      let now : length (strip_entries new.service.plan.strips new.names) ≡ length (strip_entries (map (moved_strip id offset) strips) old.names) =
      ap (λ ss. length (strip_entries ss new.names)) (ap (λ (st : ServiceState). st.plan.strips) service) ∙ ap (λ ns. length (strip_entries (map (moved_strip id offset) strips) ns)) names in
      reply_changed (size_of device known) strips old.names shown seen number shows (codes "ok" ++ (32 ∷ decimal offset)) text kept new.service.plan.strips new.names (moved_line offset (omega (arith, inside, here, columns, wide))) told
      (shows.live_is ∙ sym (now ∙ entries_moved strips old.names id offset))

  pub move_then : (id offset : ℕ) (text : List ℕ) (answer : Result (Unit {0}) OpRefusal) → IsMoved old.service id offset answer new.service → new.names ≡ old.names → text ≡ moved_text offset answer → Then text
  move_then id offset text (Ok nothing) moves names told = moved id offset text moves.0 moves.1 moves.2 names told
  move_then id offset text (Err Op.NoSuchTenancy) moves names told = refused_then Op.NoSuchTenancy text told moves.1 names
  move_then id offset text (Err Op.NoRoom) moves names told = refused_then Op.NoRoom text told moves.2 names
  move_then id offset text (Err Op.NoMemory) never names told = absurd never
  move_then id offset text (Err Op.TooManyStrips) never names told = absurd never
  move_then id offset text (Err Op.BadWidth) never names told = absurd never
  move_then id offset text (Err Op.IdsSpent) never names told = absurd never

  -- a job that is taken
  pub take_then : (job : Option JobState) (count : ℕ) (text : List ℕ) → new.service.plan ≡ old.service.plan → new.names ≡ old.names → text ≡ taken_text (option_map (λ j. count) job) → Then text
  take_then None count text plan names told =
      reply_same (size_of device known) old.service.plan.strips old.names shown seen number shows (codes "none") text kept new.service.plan.strips new.names word_none told (ap (λ (p : Plan). p.strips) plan) names
  take_then (Some job) count text plan names told =
      reply_same (size_of device known) old.service.plan.strips old.names shown seen number shows (codes "ok job" ++ (32 ∷ decimal count)) text kept new.service.plan.strips new.names (taken_line count (any_solid count)) told (ap (λ (p : Plan). p.strips) plan) names
