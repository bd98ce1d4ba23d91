-- Receipts after a note.
use Rattle.script_threads.proofs.Prelude.{◌≡◌, ◌<◌, ◌+◌, ℕ, zero, suc, List, [], ◌∷◌, ◌++◌, length, get_or, Bool, true, false, refl, sym, ap, ◌∙◌, drop, arith, ◌&&◌, ◌||◌, Item, is_note, is_receipt, places_in, served_late}

-- the items from a place on
from_here : (items : List Item) (i : ℕ) (item : Item) → i < length items → item ≡ get_or items i item → drop i items ≡ item ∷ drop (i + 1) items
from_here [] i item within is = absurd (omega arith)
from_here (x ∷ items) zero item within is = ap (λ y. y ∷ items) (sym is)
from_here (x ∷ items) (suc i) item within is = grind (arith, from_here items i item (omega arith) is)

pub at_next : (items : List Item) (i : ℕ) (item : Item) (refused : Bool) → i < length items → item ≡ get_or items i item → (is_receipt item.place && refused) ≡ false →
    served_late refused (places_in (drop i items)) ≡ served_late (is_note item.place || refused) (places_in (drop (i + 1) items))
at_next items i item refused within is fine = grind (arith, from_here)

pub at_late : (items : List Item) (i : ℕ) (item : Item) (refused : Bool) → i < length items → item ≡ get_or items i item → (is_receipt item.place && refused) ≡ true → served_late refused (places_in (drop i items)) ≡ true
at_late items i item refused within is late = grind (arith, from_here)

drop-all : (items : List Item) → drop (length items) items ≡ []
drop-all [] = refl
drop-all (x ∷ items) = drop-all items

pub at_end : (items : List Item) (i : ℕ) (refused : Bool) → i ≡ length items → served_late refused (places_in (drop i items)) ≡ false
at_end items i refused ends = ap (λ n. served_late refused (places_in (drop n items))) ends ∙ ap (λ xs. served_late refused (places_in xs)) (drop-all items)
