-- Examples that are computed.
use Rattle.desk_replies.proofs.Prelude.{◌≡◌, ℕ, List, [], ◌∷◌, codes, refl, Admit, Evict, StateAfter, operator_states, session_states}
use Rattle.script_text.specs.declared.operator_line.OperatorLine.TheVariants.{List as ListAll}

abbrev state : List ℕ → List ℕ → StateAfter
state name word = record { name = name; state = word; act = 4 }

-- `op list` has the state of each name
both_listed : operator_states 4 ListAll (codes "1 A 0 3 Routed\n2 B 4 2 Unrouted\n") ≡ state (codes "A") (codes "Routed") ∷ state (codes "B") (codes "Unrouted") ∷ []
both_listed = refl

-- an admission and an eviction, if they are not refused
admitted : operator_states 4 (Admit (codes "A") 3) (codes "ok 1 0\n") ≡ state (codes "A") (codes "Empty") ∷ []
admitted = refl

refused : operator_states 4 (Admit (codes "A") 3) (codes "refused 2 NoRoom\n") ≡ []
refused = refl

evicted : operator_states 4 (Evict (codes "A")) (codes "ok\n") ≡ state (codes "A") (codes "Evicted") ∷ []
evicted = refl

-- a command that is taken, a status, and a file
taken : session_states 4 (codes "A") (codes "ok Routing\n") ≡ state (codes "A") (codes "Routing") ∷ []
taken = refl

asked : session_states 4 (codes "A") (codes "status Unrouted 0 gaveup\n") ≡ state (codes "A") (codes "Unrouted") ∷ []
asked = refl

printed : session_states 4 (codes "A") (codes "text net 3\nok \n") ≡ []
printed = refl
