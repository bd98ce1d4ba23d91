-- Heads and items that are read line by line.
use Rattle.strip_files.proofs.Prelude.{ℕ, ◌≡◌, Bool, true, false, List, [], ◌∷◌, ◌++◌, ◌+◌, ◌<◌, length, map, take, get_or, ap, sym, refl, append_assoc, arith, ◌∙◌, length_push, map_push, AreFirst, listed_of, listed_names, named_blocks, BlockKind, ListedBlock, PlacedBlock, AddsTo, first_elements, listed_elements, starts_as, starts_of, take_more}

module _ (is_item is_head : List ℕ → Bool) (lines : List (List ℕ)) (old new : ℕ) (starts starts' : List ℕ) where
  step_as : (item head : Bool) → AddsTo item head old new starts starts'
      → starts' ++ starts_of is_item is_head new lines ≡ starts ++ starts_as item head old (λ more. starts_of is_item is_head more lines)
  step_as true head (raised, same) = rw (raised, same) refl
  step_as false true (same, noted) = rw (same, noted) (append_assoc starts (old ∷ []) (starts_of is_item is_head old lines))
  step_as false false (same, all) = rw (same, all) refl

  -- a line, and the heads of the lines after it
  pub begun_step : (line : List ℕ) → AddsTo (is_item line) (is_head line) old new starts starts'
      → starts' ++ starts_of is_item is_head new lines ≡ starts ++ starts_of is_item is_head old (line ∷ lines)
  unfolding starts_of
  begun_step line adds = step_as (is_item line) (is_head line) adds

-- one more of the listed blocks is placed
pub first_push : (listed : List ListedBlock) (old new : List PlacedBlock) (n : ℕ) (block : ListedBlock) (placed : PlacedBlock) → AreFirst listed old → n ≡ length old → n < length listed
    → block ≡ get_or listed n block → listed_of placed ≡ block → new ≡ old ++ placed ∷ [] → AreFirst listed new
first_push listed old new n block placed before n_is within is same added =
    let count : n + 1 ≡ length new = omega (arith, n_is, ap length added, length_push old placed) in
    ap (map listed_of) added ∙ map_push listed_of old placed ∙ ap (λ (firsts : List ListedBlock). firsts ++ listed_of placed ∷ []) (before ∙ ap (λ (k : ℕ). take k listed) (sym n_is))
    ∙ ap (λ (b : ListedBlock). take n listed ++ b ∷ []) (same ∙ is) ∙ sym (take_more listed n block within) ∙ ap (λ (k : ℕ). take k listed) count

-- the first BLEs, the kinds and the names of placed blocks
pub elements_listed : (blocks : List PlacedBlock) → listed_elements (map listed_of blocks) ≡ first_elements blocks
elements_listed [] = refl
elements_listed (block ∷ blocks) = ap (λ (rest : List ℕ). block.first_element ∷ rest) (elements_listed blocks)

pub names_listed : (blocks : List PlacedBlock) → listed_names (map listed_of blocks) ≡ named_blocks blocks
names_listed [] = refl
names_listed (block ∷ blocks) = ap (λ (rest : List (BlockKind × List ℕ)). (block.kind, block.name.now) ∷ rest) (names_listed blocks)
