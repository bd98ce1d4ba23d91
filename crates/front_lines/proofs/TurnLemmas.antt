-- One line of a client.
use Rattle.front_lines.proofs.Prelude.{◌≡◌, ℕ, List, [], Option, refl, arith, Appends-nil, Consumes-nil, IsKept, Refusal, Speaker, ClientState, item_of, Nothing, Refuse, refusal_text, Answers, HasSeen}

nothing_seen : (replies : Option (List ℕ)) (kept : List ℕ) → IsKept kept [] → HasSeen replies replies kept []
nothing_seen replies kept begins = record { are_lines = refl; consumes = Consumes-nil replies; begins = begins }

pub answers_nothing : (who : Speaker) (state : ClientState) (line : List ℕ) (requests replies : Option (List ℕ)) (kept told : List ℕ) → IsKept kept [] → Nothing ≡ item_of state line → told ≡ [] → Answers who state line requests requests replies replies kept told
answers_nothing who state line requests replies kept told begins is silent = grind (arith, Appends-nil)

pub answers_refusal : (who : Speaker) (state : ClientState) (line : List ℕ) (requests replies : Option (List ℕ)) (kept told : List ℕ) (refusal : Refusal) → IsKept kept [] → Refuse refusal ≡ item_of state line → told ≡ refusal_text refusal → Answers who state line requests requests replies replies kept told
answers_refusal who state line requests replies kept told refusal begins is tells = grind (arith, Appends-nil)
