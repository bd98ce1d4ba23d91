-- What a server of lines does.
use Rattle.live_machine.proofs.Prelude.{◌≡◌, ℕ, ◌+◌, List, ◌++◌, ap, ◌∙◌, arith, with_feed, LiveState, with_service, AnswersLine, state_in, all_here, without_workers, IsLine, Serves, Works, Held, state_with, LineServer}

-- a line was answered, kept, and its reply is told
pub serves_by : (old new : LineServer) (line reply : List ℕ) → IsLine line → AnswersLine (without_workers (state_in old.lines)) old.next line reply (without_workers (state_in new.lines)) →
    new.next ≡ old.next + 1 → new.log.items ≡ old.log.items ++ with_feed line → new.told.items ≡ old.told.items ++ reply → (held : List Held) → Serves (state_with old held) line (state_with new held)
serves_by old new line reply is_line answers next log told held = grind arith

-- a line was answered and kept, and nobody is told
pub works_by : (old new : LineServer) (line reply : List ℕ) → IsLine line → AnswersLine (without_workers (state_in old.lines)) old.next line reply (without_workers (state_in new.lines)) →
    new.next ≡ old.next + 1 → new.log.items ≡ old.log.items ++ with_feed line → new.told.items ≡ old.told.items → (held : List Held) → Works (state_with old held) line (state_with new held)
works_by old new line reply is_line answers next log told held = grind arith

-- only what is behind the service without workers changed
pub same_by : (old new : LineServer) → without_workers (state_in new.lines) ≡ without_workers (state_in old.lines) →
    new.next ≡ old.next → new.log.items ≡ old.log.items → new.told.items ≡ old.told.items → (held : List Held) → state_with new held ≡ state_with old held
same_by old new same next log told held = grind arith

-- what workers have changes nothing for others
pub lent_same : (old new : LiveState) → new ≡ with_service old new.stage.service → all_here new.stage.service ≡ all_here old.stage.service → without_workers new ≡ without_workers old
lent_same old new rest same = ap without_workers rest ∙ ap (with_service old) same
