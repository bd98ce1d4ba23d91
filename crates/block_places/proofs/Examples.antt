-- Circuits that fit small strips, and circuits that don't.
use Rattle.std.proofs.Common.{◌≡◌, ℕ, List, [], ◌∷◌, refl}
use Rattle.arch_file.specs.declared.arch.Arch.{Arch}
use Rattle.cluster.specs.Clusters.{PackedCircuit}
use Rattle.grid.specs.declared.Strip.{Strip}
use Rattle.grid.specs.Places.{places_of}
use Rattle.block_places.specs.declared.fit.Fit.TheVariants.{Fits, TooManyBlocks, TooManyPads}
use Rattle.block_places.specs.Fits.{fit_of}

abbrev strip : ℕ → ℕ → ℕ → Strip
strip width rows io_rat = record { width = width; rows = rows; io_rat = io_rat }

abbrev arch : Arch
arch = record { io_rat = 2; pins = []; cluster_size = 1; lut_size = 2; tracks = 2; fc_output = 2; fc_input = 2; fc_pad = 2 }

abbrev packed : List ℕ → List ℕ → List (List ℕ) → PackedCircuit
packed inputs outputs clusters = record {
  circuit = record { model = []; nets = []; inputs = inputs; outputs = outputs; tables = []; latches = [] };
  arch = arch;
  clusters = clusters;
}

empty_fits : fit_of (strip 1 1 2) (packed [] [] []) ≡ Fits
unfolding fit_of places_of
empty_fits = refl

blocks_at_the_boundary : fit_of (strip 2 1 2) (packed [] [] ((0 ∷ []) ∷ (1 ∷ []) ∷ [])) ≡ Fits
unfolding fit_of places_of
blocks_at_the_boundary = refl

one_block_more : fit_of (strip 2 1 2) (packed [] [] ((0 ∷ []) ∷ (1 ∷ []) ∷ (2 ∷ []) ∷ [])) ≡ TooManyBlocks 2 3
unfolding fit_of places_of
one_block_more = refl

pads_at_the_boundary : fit_of (strip 1 1 2) (packed (0 ∷ 1 ∷ 2 ∷ 3 ∷ []) [] []) ≡ Fits
unfolding fit_of places_of
pads_at_the_boundary = refl

one_pad_more : fit_of (strip 1 1 2) (packed (0 ∷ 1 ∷ 2 ∷ []) (3 ∷ 4 ∷ []) []) ≡ TooManyPads 4 5
unfolding fit_of places_of
one_pad_more = refl

blocks_are_told_first : fit_of (strip 1 1 2) (packed (0 ∷ 1 ∷ 2 ∷ 3 ∷ 4 ∷ []) [] ((0 ∷ []) ∷ (1 ∷ []) ∷ [])) ≡ TooManyBlocks 1 2
unfolding fit_of places_of
blocks_are_told_first = refl
