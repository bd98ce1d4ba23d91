-- The bounds of the wires at the sides of a sink's block or pad, as they are listed.
use Rattle.fabric_planes.proofs.Prelude.{◌≡◌, ℕ, ◌+◌, ◌*◌, ◌<◌, ◌≤◌, true, List, [], length, ap, sym, subst, ◌∙◌, inl, inr, arith, slice_index, cases_lt, cases_eq, get_or_past, mul-le, All-from_get_or, Sides, Node, Basis, IsBasis, AreSides, HaveBounds, AreByPlace, AreFew, AreLow, ArePinBounds, AreSidesBounded, IsSideBounded, by_side, is_on_side, PinBounds}
use Rattle.std.proofs.Common.{All}
use Rattle.fabric_planes.proofs.Priced.{by_place_low}
use Rattle.fabric_planes.proofs.Strips.{track_low}

-- the prices of a place are in the table
pub row_fits : (place places tracks : ℕ) → place * tracks < places * tracks → place * tracks + tracks ≤ places * tracks
row_fits place places tracks less = elim (cases_lt place places) [
  | inl low ↦
      (let m : (place + 1) * tracks ≤ places * tracks = mul-le (place + 1) tracks places tracks (omega (arith, low)) (omega arith) in
      let e : (place + 1) * tracks ≡ place * tracks + tracks = grind arith in
      omega (arith, m, e))
  | inr high ↦
      (let m : places * tracks ≤ place * tracks = mul-le places tracks place tracks (omega (arith, high)) (omega arith) in
      absurd (omega (arith, m, less)))
]

-- the entries of a side come after those of the sides before
before_side : (tracks side other n : ℕ) → other < side → n < tracks → other * tracks + n < side * tracks
before_side tracks side other n less few = grind arith

-- no side yet
pub no_side : (tracks : ℕ) (sides by_place pins lasts : List ℕ) → length lasts ≡ 4 * tracks → All (λ bound. bound ≤ 20000) lasts → AreSidesBounded tracks sides by_place pins 0 lasts
no_side tracks sides by_place pins lasts long few = grind (arith, get_or_past)

-- one more side
pub one_side_more : (tracks side : ℕ) (sides by_place pins old new : List ℕ) → AreSidesBounded tracks sides by_place pins side old → IsSideBounded tracks side (slice_index sides side) by_place (slice_index pins side) old new
    → AreSidesBounded tracks sides by_place pins (side + 1) new
one_side_more tracks side sides by_place pins old new known next = record {
  long = next.long ∙ known.long;
  here = λ other n less few within. elim (cases_eq other side) [
    | inl same ↦
        ap (λ (s : ℕ). slice_index new (s * tracks + n)) same
        ∙ (next.here n few (subst (λ (s : ℕ). slice_index sides s * tracks + n < length by_place) same within)
        ∙ ap (λ (s : ℕ). slice_index by_place (slice_index sides s * tracks + n) + slice_index pins s) (sym same))
    | inr apart ↦ (let low : other < side = omega (arith, less, apart) in next.before (other * tracks + n) (before_side tracks side other n low few) ∙ known.here other n low few within)
  ];
  few = next.few known.few;
}

-- ---- the bounds of a sink

pub few_by_side : (pins : PinBounds) (list : List ℕ) → list ≡ by_side pins → AreFew pins → All (λ bound. bound ≤ 19000) list
few_by_side pins list same few = grind arith

few_lasts : (lasts : List ℕ) → ((k : ℕ) → slice_index lasts k ≤ 20000) → All (λ bound. bound ≤ 20000) lasts
few_lasts lasts few = All-from_get_or (λ bound. bound ≤ 20000) lasts 0 (λ k within. few k)

pin_low : (pins : PinBounds) (sides : Sides) (cost side : ℕ) → AreLow sides pins cost → is_on_side sides side ≡ true → slice_index (by_side pins) side ≤ cost
pin_low pins sides cost side low on = grind arith

have_bounds : (basis : Basis) → IsBasis basis → (cost : ℕ → ℕ) (sink : Node) (pins : PinBounds) (sides by_place list lasts : List ℕ) → list ≡ by_side pins → ArePinBounds basis cost sink pins → AreSides basis sink sides → AreByPlace basis cost by_place
    → AreSidesBounded basis.arch.tracks sides by_place list 4 lasts → HaveBounds basis cost sink list lasts
have_bounds basis is cost sink pins sides by_place list lasts same low are prices bounded = search (by_place_low, track_low, arith)

pub record AreFromSides (basis : Basis) (cost : ℕ → ℕ) (sink : Node) (list lasts : List ℕ) : Type 0 where
  pub few : All (λ bound. bound ≤ 20000) lasts
  pub long : length lasts ≡ 4 * basis.arch.tracks
  pub bounded : HaveBounds basis cost sink list lasts

pub bounds_from : (basis : Basis) → IsBasis basis → (cost : ℕ → ℕ) (sink : Node) (pins : PinBounds) (sides by_place list lasts same_lasts : List ℕ) → list ≡ by_side pins → lasts ≡ same_lasts → ArePinBounds basis cost sink pins → AreSides basis sink sides
    → AreByPlace basis cost by_place → AreSidesBounded basis.arch.tracks sides by_place list 4 lasts → AreFromSides basis cost sink list same_lasts
bounds_from basis is cost sink pins sides by_place list lasts same_lasts same e low are prices bounded = grind (arith, few_lasts lasts bounded.few, have_bounds basis is cost sink pins sides by_place list lasts same low are prices bounded)
