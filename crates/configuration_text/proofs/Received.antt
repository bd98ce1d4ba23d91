-- One net is received, and no other one.
use Rattle.configuration_text.proofs.Prelude.{ℕ, ◌==◌, Bool, ◌&&◌, List, [], ◌∷◌, length, list_all, distinct_nets, has}

abbrev got : List ℕ → ℕ → Bool
got inputs net = (length inputs == length (distinct_nets (net ∷ []))) && (list_all (has (net ∷ [])) inputs && list_all (has inputs) (net ∷ []))
