-- Walks from one start after another, and what they find.
use Rattle.plane_search.proofs.Prelude.{◌≡◌, ◌≢◌, ℕ, ◌+◌, ◌<◌, ◌≤◌, List, [], ◌∷◌, length, map, get_or, arith, ◌∙◌, inl, inr, sym, subst, sum_by, Contains, IsNonDecreasing, nat_cmp, slice_cmp, Less, cases_lt, get_or-map, length-map, All-contains, Contains-get_or, Graph, Leads, IsPath, cost_of, path_cmp, IsLeastPath, Start, places_of, AreOrderedStarts, CostsMore, AreNoCheaper, IsLeastFrom}
use Rattle.plane_search.proofs.Members.{Contains-first, only_contained, at_index, listed_end, below_next}
use Rattle.plane_search.proofs.Order.{not_less_then, cmp_equal}

-- Lesser ends are ends of earlier edges.
pub rising_ends : (xs list : List ℕ) (base e : ℕ) → map (λ end. end + base) list ≡ xs → IsNonDecreasing list → length xs ≤ length list → e < length list → (k : ℕ) → k < length xs → get_or xs k 0 < get_or xs e 0 → k < e
rising_ends xs list base e is rises len l k b less = grind (arith, listed_end xs list base e is l, listed_end xs list base k is (omega (arith, b, len)))

-- Over the first starts the goal is dearer than the best.
abbrev pub AreDearStarts : Graph → ℕ → ℕ → List ℕ → ℕ → Type 0
AreDearStarts g goal best starts count = (k : ℕ) → k < count → CostsMore g goal best (get_or starts k 0) 0

pub one_dearer : (g : Graph) (goal best : ℕ) (starts : List ℕ) (count : ℕ) → AreDearStarts g goal best starts count → CostsMore g goal best (get_or starts count 0) 0 → AreDearStarts g goal best starts (count + 1)
one_dearer g goal best starts count before here = below_next (λ (k : ℕ). CostsMore g goal best (get_or starts k 0) 0) count before here

pub all_dear : (g : Graph) (goal best : ℕ) (starts : List ℕ) (count : ℕ) → length starts ≤ count → AreDearStarts g goal best starts count → (start : ℕ) → Contains starts start → CostsMore g goal best start 0
all_dear g goal best starts count all before start c = grind (arith, at_index starts start c)

-- The first path that is complete is the least of all.
pub least_of_starts : (g : Graph) (goal best : ℕ) (starts : List ℕ) (count : ℕ) (path : List ℕ) → count < length starts → IsNonDecreasing starts → AreNoCheaper g goal best starts → AreDearStarts g goal best starts count
    → IsLeastFrom g goal best (get_or starts count 0) path → IsLeastPath g starts goal path
least_of_starts g goal best starts count path l rises cheap before from = record { found = found path from.is_path; least = least path from }
  where
    start : ℕ
    start = get_or starts count 0

    found : (p : List ℕ) → IsPath g (start ∷ []) goal p → IsPath g starts goal p
    found [] p = absurd p
    found (x ∷ xs) p = (subst (λ (v : ℕ). Contains starts v) (sym (only_contained start x p.0)) (Contains-get_or starts count 0 l), p.1)

    -- a path from another start that costs the same
    after : (y : ℕ) (q : List ℕ) (p : List ℕ) → IsLeastFrom g goal best start p → Contains starts y → Leads g goal y q → sum_by g.cost q ≡ best → slice_cmp nat_cmp (y ∷ q) p ≢ Less
    after y q [] i c leads sum = absurd i.is_path
    after y q (x ∷ xs) i c leads sum =
        let first : x ≡ start = only_contained start x i.is_path.0 in
        let at = at_index starts y c in
        elim (cases_lt at.0 count) [
          | inl low ↦ absurd (omega (arith, sum, subst (λ (v : ℕ). CostsMore g goal best v 0) at.2 (before at.0 low) q leads))
          | inr high ↦
              (let le : start ≤ y = omega (arith, rises count at.0 0 high at.1, at.2) in
              not_less_then y x (slice_cmp nat_cmp q xs) (omega (arith, le, first))
              (λ e.
              let own : IsPath g (start ∷ []) goal (y ∷ q) = (subst (λ (v : ℕ). Contains (start ∷ []) v) (sym (e ∙ first)) (Contains-first start []), leads) in
              not_after y x q xs e (i.least (y ∷ q) own sum)))
        ]
      where
        not_after : (y x : ℕ) (q xs : List ℕ) → y ≡ x → slice_cmp nat_cmp (y ∷ q) (x ∷ xs) ≢ Less → slice_cmp nat_cmp q xs ≢ Less
        not_after y x q xs e h less = h (rw (cmp_equal y x e) less)

    least : (p : List ℕ) → IsLeastFrom g goal best start p → (other : List ℕ) → IsPath g starts goal other → path_cmp g other p ≢ Less
    least p i [] o = absurd o
    least p i (y ∷ q) o =
        not_less_then (sum_by g.cost q) (cost_of g p) (slice_cmp nat_cmp (y ∷ q) p) (omega (arith, i.cost, cheap y o.0 q o.1))
        (λ same. after y q p i o.0 o.1 (same ∙ i.cost))

-- ---- starts with their bounds

pub place_within : {g : Graph} {goal : ℕ} {starts : List Start} → AreOrderedStarts g goal starts → (place : ℕ) → Contains (places_of starts) place → place < g.count
place_within {g} {goal} {starts} ordered place c = All-contains (λ (x : ℕ). x < g.count) (places_of starts) place ordered.within c

abbrev pub no_start : Start
no_start = record { place = 0; ahead = 0 }

-- the place of start number `index`
pub place_at : (starts : List Start) (index : ℕ) (d : Start) → index < length starts → get_or (places_of starts) index 0 ≡ (get_or starts index d).place
place_at starts index d l = get_or-map (λ (start : Start). start.place) starts index d 0 l

pub as_many : (starts : List Start) → length (places_of starts) ≡ length starts
as_many starts = length-map starts (λ (start : Start). start.place)

-- the place of a start among all places
pub place_among : (starts : List Start) (index : ℕ) (d : Start) → index < length starts → Contains (places_of starts) (get_or starts index d).place
place_among starts index d l = grind (arith, place_at, Contains-get_or (places_of starts) index 0 (omega (arith, l, as_many starts)))
