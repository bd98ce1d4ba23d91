-- Journals of which a transcript says that they are full.
use Rattle.settling.proofs.Prelude.{◌≡◌, ℕ, zero, suc, ◌<◌, ◌≤◌, List, [], ◌∷◌, length, get_or, Bool, Bor, true, false, Option, Some, None, refl, sym, subst, arith, All, MatchBool, is_some, option_copied, slice_get, slice_get_within, get_or_from_slice_get, Entry, History, AreAlone, IsAloneOn, ServiceState, entries_in, history_of, journal_of, All-history_of, Item, TranscriptState, IsFullIfTold, TellsFull}

-- a journal has 65,536 entries at most
most : (service : ServiceState) (id : ℕ) → AreAlone service → length (journal_of service id) ≤ 65536
most service id alone = at_option (history_of service.histories id) refl
  where
    at_option : (o : Option History) → history_of service.histories id ≡ o → length (entries_in o) ≤ 65536
    at_option None e = omega arith
    at_option (Some h) e = (All-history_of (IsAloneOn service.device) service.histories id h e alone).replayed.few

some_at : (xs : List Entry) (n : ℕ) → is_some (slice_get xs n) ≡ true → n < length xs
some_at xs n some = grind (arith, slice_get_within)

none_at : (xs : List Entry) (n : ℕ) → is_some (slice_get xs n) ≡ false → length xs ≤ n
none_at [] n none = omega arith
none_at (x ∷ xs) zero none = cc
none_at (x ∷ xs) (suc n) none = let less = none_at xs n none in omega arith

pub is_full : (service : ServiceState) (id : ℕ) → AreAlone service → is_some (slice_get (journal_of service id) 65535) ≡ true → length (journal_of service id) ≡ 65536
is_full service id alone some = omega (arith, most service id alone, some_at (journal_of service id) 65535 some)

pub not_full : (service : ServiceState) (id : ℕ) → is_some (slice_get (journal_of service id) 65535) ≡ false → length (journal_of service id) ≡ 65536 → ⊥
not_full service id none full = absurd (omega (arith, none_at (journal_of service id) 65535 none, full))

-- if no answer says so
pub none_told : (service : ServiceState) (t : TranscriptState) → All (λ item. TellsFull item → ⊥) t.items → IsFullIfTold service t
none_told service t none = λ k d within tells. absurd (none k d within tells)

pub all_full : (service : ServiceState) (t : TranscriptState) → length (journal_of service t.id) ≡ 65536 → IsFullIfTold service t
all_full service t full = λ k d within tells. full

pub in_vain : (service : ServiceState) (t : TranscriptState) (i : ℕ) (item : Item) → slice_get t.items i ≡ Some item → TellsFull item → (length (journal_of service t.id) ≡ 65536 → ⊥) → IsFullIfTold service t → ⊥
in_vain service t i item at tells not full =
    let there : get_or t.items i item ≡ item = get_or_from_slice_get t.items i item item at in
    not (full i item (slice_get_within t.items i item at) (subst TellsFull (sym there) tells))

-- by the entry at the last place that a journal has
pub decides : (service : ServiceState) (t : TranscriptState) (some : Bool) (i : ℕ) (item : Item) → slice_get t.items i ≡ Some item → TellsFull item → AreAlone service → some ≡ is_some (slice_get (journal_of service t.id) 65535) → MatchBool some (IsFullIfTold service t) (IsFullIfTold service t → ⊥)
decides service t some i item at tells alone same = grind (arith, is_full, in_vain, not_full)

pub copied : {A : Type 0} (o : Option (Bor A)) → is_some o ≡ is_some (option_copied o)
copied o = grind arith
