-- Nets by number, each once.
use Rattle.std.specs.Prelude.{ℕ, ◌≡◌, Bool, false, ⊤, List, [], ◌∷◌, ◌++◌, ◌==◌, if◌then◌else◌}
use Rattle.std.specs.List.{list_any}

-- whether the net is among the nets
abbrev pub has : List ℕ → ℕ → Bool
has nets net = list_any (λ other. other == net) nets

-- the nets, with each new net of the others appended in order
abbrev pub with_nets : List ℕ → List ℕ → List ℕ
with_nets nets [] = nets
with_nets nets (net ∷ others) = with_nets (if has nets net then nets else nets ++ net ∷ []) others

-- each of the nets once, in the order in which they first appear
abbrev pub distinct_nets : List ℕ → List ℕ
distinct_nets nets = with_nets [] nets

-- no net occurs in the list twice
abbrev pub IsOnce : List ℕ → Type 0
IsOnce [] = ⊤
IsOnce (net ∷ nets) = (has nets net ≡ false) × IsOnce nets
