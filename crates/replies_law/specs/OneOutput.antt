-- The contract of a run determines every byte of the output.
use Rattle.std.specs.Prelude.{ℕ, ◌≡◌, List}
use Rattle.replies_law.specs.Prelude.{Act, Options, IsReplies, Start}
use Rattle.replies_law.specs.Memory.{HaveMemory}

-- two outputs that the contract allows for one script and one command line are equal, if neither
-- says that memory ran out
abbrev pub HasOneOutput : Type 0
HasOneOutput = (options : Options) (start : Start (List (Act (List ℕ)))) (output other : List ℕ) → (r : IsReplies options start output) (s : IsReplies options start other) →
    HaveMemory r.tellings → HaveMemory s.tellings → output ≡ other
