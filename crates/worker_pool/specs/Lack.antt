-- Private: how a worker goes on if memory runs out.
use Rattle.std.specs.Prelude.{ℕ, ◌+◌, ◌^◌, Bool, min, nat_lt}

-- the count after one more step that ran out of memory, up to 16
abbrev pub one_more : ℕ → ℕ
one_more lacks = min (lacks + 1) 16

-- the pause after a step that ran out of memory, after this number of such steps before it, in
-- milliseconds
abbrev pub pause_of : ℕ → ℕ
pause_of lacks = 2 ^ min lacks 6

-- after this number of steps that ran out of memory, the number of one more is given up
abbrev pub is_last_try : ℕ → Bool
is_last_try lacks = nat_lt 14 lacks
