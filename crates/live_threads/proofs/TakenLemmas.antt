-- Texts of lines, taken one after another.
use Rattle.live_threads.proofs.Prelude.{◌≡◌, ℕ, List, [], ◌∷◌, ◌++◌, refl, sym, ◌∙◌, append-nil, append_assoc, arith, flat_map-append, Vec, SameRing, SameConsumer, received, End, Consumer, TakesLines, cut_lines, lines_of}

same_ring : {T A P : Type 0} (a b c : End T A P) → SameRing a b → SameRing b c → SameRing a c
same_ring a b c (w, s, n, h) (x, t, m, i) = (x ∙ w, t ∙ s, m ∙ n, i ∙ h)

-- nothing was taken
pub takes_none : {A G M : Type 0} (lines : Consumer (Vec ℕ A) G M) (holds : List (List ℕ) → Type 0) → holds [] → TakesLines lines lines holds
takes_none lines holds is = record { ring = ((refl, refl, refl, refl), refl); batches = []; taken = sym (append-nil (received lines)); held = is }

-- one more text
pub takes_one : {A G M : Type 0} (a b c : Consumer (Vec ℕ A) G M) (batch : Vec ℕ A) (P Q : List (List ℕ) → Type 0) → TakesLines a b P → SameConsumer b c → received c ≡ received b ++ batch ∷ [] → ((lines : List (List ℕ)) → P lines → Q (lines ++ cut_lines batch.items)) → TakesLines a c Q
takes_one a b c batch P Q t ring taken holds = grind (arith, append_assoc, flat_map-append, append-nil)

-- texts after texts
pub takes_then : {A G M : Type 0} (a b c : Consumer (Vec ℕ A) G M) (P Q R : List (List ℕ) → Type 0) → TakesLines a b P → TakesLines b c Q → ((lines more : List (List ℕ)) → P lines → Q more → R (lines ++ more)) → TakesLines a c R
takes_then a b c P Q R t u holds = grind (arith, append_assoc, flat_map-append)

-- the same of what was taken
pub takes_so : {A G M : Type 0} (a b : Consumer (Vec ℕ A) G M) (P Q : List (List ℕ) → Type 0) → TakesLines a b P → ((lines : List (List ℕ)) → P lines → Q lines) → TakesLines a b Q
takes_so a b P Q t holds = record { ring = t.ring; batches = t.batches; taken = t.taken; held = holds (lines_of t.batches) t.held }
