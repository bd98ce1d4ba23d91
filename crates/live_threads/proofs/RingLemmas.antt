-- The end of a ring into which texts are put.
use Rattle.live_threads.proofs.Prelude.{◌≡◌, ◌⊎◌, ℕ, List, [], ◌∷◌, ◌++◌, refl, sym, ◌∙◌, append-nil, append_assoc, arith, flat_map-append, Vec, SameRing, SameProducer, sent, End, Producer, cut_lines, lines_of, PutsLines}

same_ring : {T A M : Type 0} (a b c : End T A M) → SameRing a b → SameRing b c → SameRing a c
same_ring a b c (w, s, n, h) (x, t, m, i) = (x ∙ w, t ∙ s, m ∙ n, i ∙ h)

pub same_self : {T A M : Type 0} (a : Producer T A M) → SameProducer a a
same_self a = ((refl, refl, refl, refl), refl)

-- nothing was put
pub puts_none : {A G M : Type 0} (a b : Producer (Vec ℕ A) G M) (holds : List (List ℕ) → Type 0) → SameProducer a b → sent b ≡ sent a → holds [] → PutsLines a b holds
puts_none a b holds ring same is = record { ring = ring; batches = []; put = same ∙ sym (append-nil (sent a)); held = is }

-- one more text
pub puts_one : {A G M : Type 0} (a b c : Producer (Vec ℕ A) G M) (batch : Vec ℕ A) (P Q : List (List ℕ) → Type 0) → PutsLines a b P → SameProducer b c → sent c ≡ sent b ++ batch ∷ [] → ((lines : List (List ℕ)) → P lines → Q (lines ++ cut_lines batch.items)) → PutsLines a c Q
puts_one a b c batch P Q t ring put holds = grind (arith, append_assoc, flat_map-append, append-nil)

-- one more text, or none
pub puts_maybe : {A G M : Type 0} (a b c : Producer (Vec ℕ A) G M) (batch : Vec ℕ A) (P Q : List (List ℕ) → Type 0) → PutsLines a b P → SameProducer b c → (sent c ≡ sent b ++ batch ∷ []) ⊎ (sent c ≡ sent b) → ((lines : List (List ℕ)) → P lines → Q (lines ++ cut_lines batch.items)) → ((lines : List (List ℕ)) → P lines → Q lines) → PutsLines a c Q
puts_maybe a b c batch P Q t ring h3 with_it without_it = grind (arith, puts_one)

-- the same of what was put
pub puts_so : {A G M : Type 0} (a b : Producer (Vec ℕ A) G M) (P Q : List (List ℕ) → Type 0) → PutsLines a b P → ((lines : List (List ℕ)) → P lines → Q lines) → PutsLines a b Q
puts_so a b P Q t holds = record { ring = t.ring; batches = t.batches; put = t.put; held = holds (lines_of t.batches) t.held }
