-- The places of small strips.
use Rattle.grid.proofs.Prelude.{◌≡◌, ℕ, [], ◌∷◌, refl, Strip, Logic, Pad, place_at, places_of}

abbrev strip : ℕ → ℕ → ℕ → Strip
strip width rows io_rat = record { width = width; rows = rows; io_rat = io_rat }

least_logic : places_of (strip 1 1 2) Logic ≡ place_at 1 1 0 ∷ []
unfolding places_of
least_logic = refl

least_pads : places_of (strip 1 1 2) Pad ≡ place_at 1 0 0 ∷ place_at 1 0 1 ∷ place_at 1 2 0 ∷ place_at 1 2 1 ∷ []
unfolding places_of
least_pads = refl

-- by column, then row
logic_by_column : places_of (strip 2 3 1) Logic ≡ place_at 1 1 0 ∷ place_at 1 2 0 ∷ place_at 1 3 0 ∷ place_at 2 1 0 ∷ place_at 2 2 0 ∷ place_at 2 3 0 ∷ []
unfolding places_of
logic_by_column = refl

-- by column, then row, then number
pads_by_column : places_of (strip 2 3 2) Pad
    ≡ place_at 1 0 0 ∷ place_at 1 0 1 ∷ place_at 1 4 0 ∷ place_at 1 4 1 ∷ place_at 2 0 0 ∷ place_at 2 0 1 ∷ place_at 2 4 0 ∷ place_at 2 4 1 ∷ []
unfolding places_of
pads_by_column = refl
