-- Blocks on two places that exchange them.
use Rattle.pinned_places.proofs.Prelude.{ℕ, ◌≡◌, ◌≢◌, ◌<◌, Bool, true, false, cond, List, length, map, refl, sym, ap, subst, ◌∙◌, arith, Contains, nat_tests, get_or-map, length-map, PackedCircuit, blocks_of, Strip, Kind, Logic, Pad, Place, place_at, places_of, kind_of, ArePlaced, block_at, is_same_place, place_of, place_after, is_itself, same_parts, told_apart}

-- places that are told to be the same are equal
pub same_told : (a b : Place) → is_same_place a b ≡ true → a ≡ b
same_told a b same = same_parts a b (grind (arith, nat_tests, same)) (grind (arith, nat_tests, same)) (grind (arith, nat_tests, same))

pub from_home : (home target : Place) → place_after home target home ≡ target
from_home home target = ap (λ (b : Bool). cond b target (cond (is_same_place home target) home home)) (is_itself home)

from_target : (home target : Place) → target ≢ home → place_after home target target ≡ home
from_target home target differs = grind (arith, is_itself)

pub from_else : (home target place : Place) → place ≢ home → place ≢ target → place_after home target place ≡ place
from_else home target place one other = grind (arith, told_apart)

-- the ways of a place
data Way (home target place : Place) : Type 0 where
  goes : place ≡ home → Way home target place
  comes : place ≢ home → place ≡ target → Way home target place
  stays : place ≢ home → place ≢ target → Way home target place

apart_told : (a b : Place) → is_same_place a b ≡ false → a ≢ b
apart_told a b differs e = let t : true ≡ false = sym (is_itself b) ∙ (ap (λ (p : Place). is_same_place p b) (sym e) ∙ differs) in cc

way_of : (home target place : Place) → Way home target place
way_of home target place = grind arith

-- two places that become equal were equal
pub one_to_one : (home target place other : Place) → place_after home target place ≡ place_after home target other → place ≡ other
one_to_one home target place other same = by (way_of home target place) (way_of home target other)
  where
    after_goes : (p : Place) → p ≡ home → place_after home target p ≡ target
    after_goes p e = ap (place_after home target) e ∙ from_home home target

    after_comes : (p : Place) → p ≢ home → p ≡ target → place_after home target p ≡ home
    after_comes p ne e = ap (place_after home target) e ∙ from_target home target (λ t. ne (e ∙ t))

    by : Way home target place → Way home target other → place ≡ other
    by (goes p) (goes q) = p ∙ sym q
    by (goes p) (comes ne q) = absurd (ne (q ∙ (sym (after_goes place p) ∙ (same ∙ after_comes other ne q))))
    by (goes p) (stays ne no_target) = absurd (no_target (sym (from_else home target other ne no_target) ∙ (sym same ∙ after_goes place p)))
    by (comes ne p) (goes q) = absurd (ne (p ∙ (sym (after_goes other q) ∙ (sym same ∙ after_comes place ne p))))
    by (comes ne p) (comes also q) = p ∙ sym q
    by (comes ne p) (stays also no_target) = absurd (also (sym (from_else home target other also no_target) ∙ (sym same ∙ after_comes place ne p)))
    by (stays ne no_target) (goes q) = absurd (no_target (sym (from_else home target place ne no_target) ∙ (same ∙ after_goes other q)))
    by (stays ne no_target) (comes also q) = absurd (ne (sym (from_else home target place ne no_target) ∙ (same ∙ after_comes other also q)))
    by (stays ne no_target) (stays also none) = sym (from_else home target place ne no_target) ∙ (same ∙ from_else home target other also none)

module _ (strip : Strip) (kinds_apart : (place : Place) → Contains (places_of strip Logic) place → Contains (places_of strip Pad) place → ⊥) where
  -- a place is of one kind
  one_kind : (kind other : Kind) (place : Place) → Contains (places_of strip kind) place → Contains (places_of strip other) place → kind ≡ other
  one_kind Logic Logic place is also = refl
  one_kind Pad Pad place is also = refl
  one_kind Logic Pad place is also = absurd (kinds_apart place is also)
  one_kind Pad Logic place is also = absurd (kinds_apart place also is)

  module _ (packed : PackedCircuit) (places : List Place) (placed : ArePlaced strip packed places) (block : ℕ) (target : Place) (within : block < length (blocks_of packed)) (there : Contains (places_of strip (kind_of (block_at packed block))) target) where
    abbrev after : List Place
    after = map (place_after (place_of places block) target) places

    pub after_at : (other : ℕ) → other < length (blocks_of packed) → place_of after other ≡ place_after (place_of places block) target (place_of places other)
    after_at other lt = get_or-map (place_after (place_of places block) target) places other (place_at 0 0 0) (place_at 0 0 0) (omega (arith, lt, placed.long))

    kind_after : (other : ℕ) → other < length (blocks_of packed) → Way (place_of places block) target (place_of places other) → Contains (places_of strip (kind_of (block_at packed other))) (place_after (place_of places block) target (place_of places other))
    kind_after other lt (goes e) =
        let same : other ≡ block = placed.one_to_one other block lt within e in
        let is : place_after (place_of places block) target (place_of places other) ≡ target = ap (place_after (place_of places block) target) e ∙ from_home (place_of places block) target in
        subst (λ n. Contains (places_of strip (kind_of (block_at packed n))) (place_after (place_of places block) target (place_of places other))) (sym same)
        (subst (Contains (places_of strip (kind_of (block_at packed block)))) (sym is) there)
    kind_after other lt (comes ne e) =
        let is : place_after (place_of places block) target (place_of places other) ≡ place_of places block = ap (place_after (place_of places block) target) e ∙ from_target (place_of places block) target (λ t. ne (e ∙ t)) in
        let kind = one_kind (kind_of (block_at packed block)) (kind_of (block_at packed other)) target there (subst (Contains (places_of strip (kind_of (block_at packed other)))) e (placed.by_kind other lt)) in
        subst (Contains (places_of strip (kind_of (block_at packed other)))) (sym is) (subst (λ (k : Kind). Contains (places_of strip k) (place_of places block)) kind (placed.by_kind block within))
    kind_after other lt (stays ne no_target) = subst (Contains (places_of strip (kind_of (block_at packed other)))) (sym (from_else (place_of places block) target (place_of places other) ne no_target)) (placed.by_kind other lt)

    -- blocks that exchange their places are still placed
    pub still_placed : ArePlaced strip packed after
    still_placed = record {
      long = length-map places (place_after (place_of places block) target) ∙ placed.long;
      by_kind = λ other lt. subst (Contains (places_of strip (kind_of (block_at packed other)))) (sym (after_at other lt)) (kind_after other lt (way_of (place_of places block) target (place_of places other)));
      one_to_one = λ one other lt also same. placed.one_to_one one other lt also (one_to_one (place_of places block) target (place_of places one) (place_of places other) (sym (after_at one lt) ∙ (same ∙ after_at other also)));
    }
