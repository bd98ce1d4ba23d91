-- A net's planes by the trait's names.
use Rattle.fabric_planes.proofs.Prelude.{◌≡◌, ℕ, ◌<◌, List, ap, sym, subst, refl, ◌∙◌, Basis, family_of, Terminals, place_of, place_count, labels_of, planes_of, IsNetSearch, Node}

module _ (basis : Basis) (cost : ℕ → ℕ) (starts : List ℕ) (goal : ℕ) (t : Terminals) where
  pub places_are : (planes_of basis cost starts goal t).places ≡ place_count basis
  unfolding family_of labels_of
  places_are = refl

  pub tracks_of : (planes_of basis cost starts goal t).tracks ≡ basis.arch.tracks
  unfolding family_of labels_of
  tracks_of = refl

  pub is_track : (track : ℕ) → track < (planes_of basis cost starts goal t).tracks → track < basis.arch.tracks
  is_track track few = subst (λ (n : ℕ). track < n) tracks_of few

  pub is_place : (place : ℕ) → place < (planes_of basis cost starts goal t).places → place < place_count basis
  is_place place b = subst (λ (n : ℕ). place < n) places_are b

  pub exit_of : IsNetSearch basis cost starts goal t → (exit : ℕ) → exit ≡ place_of basis t.sink → exit ≡ (planes_of basis cost starts goal t).exit
  unfolding family_of labels_of
  exit_of search exit exit_is = exit_is ∙ ap (λ (v : Node). place_of basis v) (sym search.terminals.goal_is)
