-- Private: where a text is the print of a part of a layout, this part is read.
use Rattle.std.specs.Prelude.{ℕ, ◌≡◌, ◌≢◌, AllPairs, ◌<◌, List, [], ◌∷◌, ◌++◌, All, Option, Some, map, length, codes, decimal}
use Rattle.std.specs.List.{enumerate_from}
use Rattle.layout_files.specs.Prelude.{Circuit, net_name, Strip, Place, LaidBlock, place_line, line_of, text_of}
use Rattle.layout_files.specs.Fitting.{HasFileNames, IsSmallPlace}

-- ---- names

-- the name of a net is found
abbrev pub IsNetRead : List (List ℕ) → List ℕ → Option (List ℕ) → ℕ → Option (List ℕ) → Type 0
IsNetRead names name old found new = (circuit : Circuit) (net : ℕ) → names ≡ circuit.nets → HasFileNames circuit → net < length circuit.nets → name ≡ net_name circuit net → (found ≡ net) × (new ≡ old)

-- names that differ are all added
abbrev pub AreAdded : List (List ℕ) → List (List ℕ) → Type 0
AreAdded nets names = AllPairs (λ name other. name ≢ other) nets → names ≡ nets

-- ---- the `.place` file

abbrev pub size_text : Strip → List ℕ
size_text strip = codes "Array size: " ++ (decimal strip.width ++ (codes " x " ++ decimal strip.rows))

-- where the strip's size is, followed by a space
abbrev pub IsSizeRead : Strip → Option (List ℕ) → Option (List ℕ) → Type 0
IsSizeRead strip old new = (after : List ℕ) → old ≡ Some (size_text strip ++ (32 ∷ after)) → new ≡ Some (32 ∷ after)

abbrev pub IsPlaceRead : ℕ → Option (List ℕ) → Place → Option (List ℕ) → Type 0
IsPlaceRead number old place new = (circuit : Circuit) (laid : LaidBlock) (after : List ℕ) → HasFileNames circuit → IsSmallPlace laid.place
    → old ≡ Some (line_of (place_line circuit number laid) ++ after) → (place ≡ laid.place) × (new ≡ Some after)

abbrev pub place_lines : Circuit → List LaidBlock → List ℕ
place_lines circuit blocks = text_of (map (λ block. place_line circuit block.0 block.1) (enumerate_from 0 blocks))

abbrev pub AreBlocksRead : Option (List ℕ) → List Place → Option (List ℕ) → Type 0
AreBlocksRead old places new = (circuit : Circuit) (blocks : List LaidBlock) → HasFileNames circuit → All (λ laid. IsSmallPlace laid.place) blocks
    → old ≡ Some (place_lines circuit blocks) → (places ≡ map (λ laid. laid.place) blocks) × (new ≡ Some [])
