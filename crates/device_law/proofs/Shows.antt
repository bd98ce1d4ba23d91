-- What has been read shows what the operator was shown.
use Rattle.device_law.proofs.Prelude.{◌≡◌, ℕ, ◌+◌, ◌-◌, ◌^◌, ◌<◌, ◌≤◌, Bool, true, false, cond, ◌||◌, List, [], ◌∷◌, ◌++◌, length, map, Option, Some, None, refl, sym, ap, ◌∙◌, subst, arith, append_assoc, ⊤, IfSome, is_some, unwrap_or, PlacedStrip, Call, StepOutcome, outcome_text, outcome_word, Tried, tried_text, DeviceSize, Listed, OwnedNode, Seen, plus, IsInside, Shown, nothing_shown, reports, without_state}
use Rattle.device_law.proofs.Each.{Each}
use Rattle.device_law.proofs.Found.{OwnedIn}
use Rattle.device_law.proofs.ReplyLines.{IsReplyLine, Reads, after_reply, kept, line_reads, quiet, reads-append, reads-none, reports-line, reports-none, reset, word_advanced, word_finished, word_full, word_gone, word_no_memory, word_none, word_stale}
use Rattle.device_law.proofs.StripEntries.{strip_entries}

-- the live tenancies are those of the strips and names, what was read is what was shown, and the
-- tenancies shown are those that are live now
pub record Shows (size : DeviceSize) (strips : List PlacedStrip) (names : List (List ℕ)) (shown : Shown) (seen : Seen) : Type 0 where
  pub size_is : seen.size ≡ size
  pub inside : IsInside seen
  pub live_is : seen.live ≡ length (strip_entries strips names)
  pub listed_is : seen.listed ≡ unwrap_or shown.listed []
  pub list_now : IfSome shown.listed (λ listed. map without_state listed ≡ strip_entries strips names)
  pub owned_is : seen.owned ≡ unwrap_or shown.owned []
  pub has_is : seen.has_owners ≡ is_some shown.owned
  pub owned_now : IfSome shown.owned (Each (OwnedIn strips (length names)))

-- what follows from a text
pub record After (size : DeviceSize) (strips : List PlacedStrip) (names : List (List ℕ)) (shown : Shown) (seen : Seen) (number : ℕ) (text : List ℕ) : Type 0 where
  pub new : Seen
  pub reads : Reads seen number text new
  pub shows : Shows size strips names shown new

pub shows_same : (size : DeviceSize) (strips other : List PlacedStrip) (names others : List (List ℕ)) (shown : Shown) (seen : Seen) → other ≡ strips → others ≡ names → Shows size strips names shown seen → Shows size other others shown seen
shows_same size strips other names others shown seen same same_names shows = grind arith

shows_quiet : (size : DeviceSize) (strips : List PlacedStrip) (names : List (List ℕ)) (shown : Shown) (seen : Seen) → Shows size strips names shown seen → Shows size strips names shown (quiet seen)
shows_quiet size strips names shown seen shows = grind arith

shows_reset : (size : DeviceSize) (strips other : List PlacedStrip) (names others : List (List ℕ)) (shown : Shown) (seen : Seen) (number live : ℕ) → live ≡ length (strip_entries other others) → Shows size strips names shown seen →
    Shows size other others nothing_shown (reset (quiet seen) number live)
shows_reset size strips other names others shown seen number live is shows = grind arith

-- after a reply of one line
abbrev pub now_shown : Bool → Shown → Shown
now_shown told shown = cond told nothing_shown shown

one_told : (line text : List ℕ) (told : Bool) (live : ℕ → ℕ) → IsReplyLine line told live → text ≡ line ++ 10 ∷ [] → reports text ≡ told
one_told line text told live is same = grind (arith, reports-none, reports-line line [] told live is)

module _ (size : DeviceSize) (strips : List PlacedStrip) (names : List (List ℕ)) (shown : Shown) (seen : Seen) (number : ℕ) (shows : Shows size strips names shown seen) where
  -- one that reports no change
  pub reply_same : (line text : List ℕ) (live : ℕ → ℕ) (other : List PlacedStrip) (others : List (List ℕ)) → IsReplyLine line false live → text ≡ line ++ 10 ∷ [] → other ≡ strips → others ≡ names → After size other others (now_shown (reports text) shown) seen number text
  reply_same line text live other others is same strips_same names_same =
      let P : Bool → Type 0 = λ b. Shows size other others (now_shown b shown) (quiet seen) in
      let Q : List ℕ → Type 0 = λ t. Reads seen number t (quiet seen) in
      record {
        new = quiet seen;
        reads = subst Q (sym same) (line_reads seen number line false live shows.inside is);
        shows = subst P (sym (one_told line text false live is same)) (shows_same size strips other names others shown (quiet seen) strips_same names_same (shows_quiet size strips names shown seen shows));
      }

  -- one that reports a change
  pub reply_changed : (line text : List ℕ) (live : ℕ → ℕ) (other : List PlacedStrip) (others : List (List ℕ)) → IsReplyLine line true live → text ≡ line ++ 10 ∷ [] → live seen.live ≡ length (strip_entries other others) →
      After size other others (now_shown (reports text) shown) seen number text
  reply_changed line text live other others is same counted =
      let read = line_reads seen number line true live shows.inside is in
      let new : Seen = after_reply seen (plus number 1) true live in
      let P : Bool → Type 0 = λ b. Shows size other others (now_shown b shown) new in
      let Q : List ℕ → Type 0 = λ t. Reads seen number t new in
      record {
        new = new;
        reads = subst Q (sym same) read;
        shows = subst P (sym (one_told line text true live is same)) (shows_reset size strips other names others shown seen (plus number 1) (live seen.live) counted shows);
      }

-- after the outcomes of steps
record Outcome (outcome : StepOutcome) : Type 0 where
  told : Bool
  line : IsReplyLine (outcome_word outcome) told kept

outcome_line : (outcome : StepOutcome) → Outcome outcome
outcome_line outcome = grind (arith, word_advanced, word_finished, word_stale, word_full, word_gone, word_no_memory, word_none)

pub outcome_after : (size : DeviceSize) (strips : List PlacedStrip) (names : List (List ℕ)) (shown : Shown) (seen : Seen) (number : ℕ) → Shows size strips names shown seen → (outcome : StepOutcome) →
    After size strips names (now_shown (reports (outcome_text outcome)) shown) seen number (outcome_text outcome)
outcome_after size strips names shown seen number shows outcome = let o = outcome_line outcome in by o.told o.line
  where
    by : (told : Bool) → IsReplyLine (outcome_word outcome) told kept → After size strips names (now_shown (reports (outcome_text outcome)) shown) seen number (outcome_text outcome)
    by true line = reply_changed size strips names shown seen number shows (outcome_word outcome) (outcome_text outcome) kept strips names line refl shows.live_is
    by false line = reply_same size strips names shown seen number shows (outcome_word outcome) (outcome_text outcome) kept strips names line refl refl refl

twice : (a b : Bool) (shown : Shown) → now_shown b (now_shown a shown) ≡ now_shown (a || b) shown
twice a b shown = grind arith

more_told : (outcome : StepOutcome) (rest : List ℕ) → reports (outcome_text outcome ++ rest) ≡ (reports (outcome_text outcome) || reports rest)
more_told outcome rest =
    let o = outcome_line outcome in
    ap reports (append_assoc (outcome_word outcome) (10 ∷ []) rest) ∙ reports-line (outcome_word outcome) rest o.told kept o.line
    ∙ ap (λ b. b || reports rest) (sym (one_told (outcome_word outcome) (outcome_text outcome) o.told kept o.line refl))

pub steps_after : (size : DeviceSize) (strips : List PlacedStrip) (names : List (List ℕ)) (tried : Tried) (shown : Shown) (seen : Seen) (number : ℕ) → Shows size strips names shown seen →
    After size strips names (now_shown (reports (tried_text tried)) shown) seen number (tried_text tried)
steps_after size strips names [] shown seen number shows = search (reads-none, reports-none, arith)
steps_after size strips names (t ∷ ts) shown seen number shows =
    let first = outcome_after size strips names shown seen number shows t.1 in
    let rest = steps_after size strips names ts (now_shown (reports (outcome_text t.1)) shown) first.new first.reads.next first.shows in
    let P : Shown → Type 0 = λ s. Shows size strips names s rest.new in
    record {
      new = rest.new;
      reads = reads-append seen number (outcome_text t.1) (tried_text ts) first.new rest.new first.reads rest.reads;
      shows = subst P (twice (reports (outcome_text t.1)) (reports (tried_text ts)) shown ∙ ap (λ b. now_shown b shown) (sym (more_told t.1 (tried_text ts)))) rest.shows;
    }
