-- Prices of which none is told.
use Rattle.fabric_planes.proofs.Prelude.{◌≡◌, ℕ, ◌+◌, ◌*◌, ◌<◌, List, length, ap, ◌∙◌, arith, slice_index, replicate, length-replicate, get_or-replicate, Basis, IsBasis, graph_of, place_count, ArePrices}
use Rattle.fabric_planes.proofs.Found.{place_low}
use Rattle.fabric_planes.proofs.Strips.{track_low}

pub within : (tracks places track place : ℕ) → track < tracks → place < places → track * places + place < tracks * places
within tracks places track place t p = grind arith

pub untold : (basis : Basis) → IsBasis basis → (cost : ℕ → ℕ) (count : ℕ) (prices : List ℕ) → count ≡ basis.arch.tracks * place_count basis → prices ≡ replicate {A = ℕ} count 255 → ArePrices basis cost prices
untold basis is cost count prices long same =
    let at : (track place : ℕ) → track < basis.arch.tracks → place < place_count basis → slice_index prices (track * place_count basis + place) ≡ 255 =
    λ track place t p. ap (λ (xs : List ℕ). slice_index xs (track * place_count basis + place)) same ∙ get_or-replicate {A = ℕ} count (track * place_count basis + place) 255 0 (omega (arith, within basis.arch.tracks (place_count basis) track place t p, long)) in
    record {
      long = ap (λ (xs : List ℕ). length xs) same ∙ length-replicate {A = ℕ} count 255 ∙ long;
      told = λ place number w none. absurd (none (at ((graph_of basis).node number).n place
          (track_low is number w.wire) (place_low is place number w)));
      others = λ track place t p none. at track place t p;
    }
