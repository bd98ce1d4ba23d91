-- Private: which number a worker serves next.
use Rattle.std.specs.Prelude.{ℕ, ◌≡◌, Option, Some, None, Ok}
use Rattle.job_queue.specs.Seats.{IsPushedOwn, SeatHeld}
use Rattle.worker_pool.specs.declared.lack.Kept.{Kept}
use Rattle.worker_pool.specs.declared.lack.Served.{Served}
use Rattle.worker_pool.specs.declared.lack.Served.TheVariants.{Nothing, Made, NoMemory}
use Rattle.worker_pool.specs.Lack.{one_more}

-- the number that was kept, or one whose step was not tried before
abbrev pub IsNext : Option Kept → Kept → Type 0
IsNext None next = next.lacks ≡ 0
IsNext (Some kept) next = next ≡ kept

-- a number that the worker has is pushed to its own deque, or kept
abbrev pub PushesOrKeeps : SeatHeld → Option ℕ → Option ℕ → SeatHeld → Type 0
PushesOrKeeps old None kept new = (kept ≡ None) × (new ≡ old)
PushesOrKeeps old (Some number) None new = IsPushedOwn old number (Ok tt) new
PushesOrKeeps old (Some number) (Some kept) new = (kept ≡ number) × (new ≡ old)

-- a number with its count, if there is a number
abbrev pub kept_with : ℕ → Option ℕ → Option Kept
kept_with lacks None = None
kept_with lacks (Some number) = Some (record { slot = number; lacks = lacks })

-- no number that the worker has is forgotten: after a step that was put it is pushed, or kept with
-- the count 0; after a step that ran out of memory it is kept, with one more. The number of a job
-- that was given up is not kept
abbrev pub Keeps : SeatHeld → ℕ → Served → Option Kept → SeatHeld → Type 0
Keeps old lacks Nothing kept new = (kept ≡ None) × (new ≡ old)
Keeps old lacks (Made next) kept new = (number : Option ℕ) × PushesOrKeeps old next number new × (kept ≡ kept_with 0 number)
Keeps old lacks (NoMemory again) kept new = (kept ≡ kept_with (one_more lacks) again) × (new ≡ old)
