-- Small placings, computed from the definitions.
use Rattle.strip_place.proofs.Prelude.{◌≡◌, ℕ, zero, suc, true, false, List, [], ◌∷◌, Some, None, refl, Strip, Logic, Pad, Place, place_at, places_of, Task, Draw, after_draw, cost_of, drawn_place, is_kept, pass_of, spread, is_past_last, temperature_at, placed_first}

abbrev strip : Strip
strip = record { width = 3; rows = 1; io_rat = 1 }

-- two logic blocks, and a pad that has a net with each of them
abbrev task : Task
task = record { kinds = Logic ∷ Logic ∷ Pad ∷ []; nets = (0 ∷ 2 ∷ []) ∷ (1 ∷ 2 ∷ []) ∷ [] }

abbrev placed : Place → Place → Place → List Place
placed first second pad = first ∷ second ∷ pad ∷ []

abbrev words : ℕ → ℕ → ℕ → Draw
words u v a = record { u = u; v = v; a = a }

-- the spread of numbers
apart : spread (3 ∷ 7 ∷ 5 ∷ []) ≡ 4
apart = refl

-- the sum of each net's own box: 0 + 1 and 1 + 1
cost : cost_of task.nets (placed (place_at 1 1 0) (place_at 2 1 0) (place_at 1 0 0)) ≡ 3
unfolding cost_of
cost = refl

-- word 8 draws, of six places for pads, the third
drawn_pad : drawn_place strip Pad 8 ≡ place_at 2 0 0
unfolding places_of
drawn_pad = refl

-- the start: each block takes the first free place of its kind, and none takes a place that another
-- keeps
start : placed_first strip (Logic ∷ Logic ∷ Pad ∷ Pad ∷ []) (None ∷ None ∷ None ∷ None ∷ []) ≡ place_at 1 1 0 ∷ place_at 2 1 0 ∷ place_at 1 0 0 ∷ place_at 1 2 0 ∷ []
unfolding placed_first places_of
start = refl

start_kept : placed_first strip (Logic ∷ Logic ∷ Pad ∷ Pad ∷ []) (None ∷ Some (place_at 1 1 0) ∷ None ∷ Some (place_at 3 2 0) ∷ []) ≡ place_at 2 1 0 ∷ place_at 1 1 0 ∷ place_at 1 0 0 ∷ place_at 3 2 0 ∷ []
unfolding placed_first places_of
start_kept = refl

-- the first block moves to the third place, which is free: the cost grows from 3 to 5, so at
-- temperature 1 the move is kept for words below 2^30
draw_kept : after_draw strip task 1 (words 0 2 1073741823) (placed (place_at 1 1 0) (place_at 2 1 0) (place_at 1 0 0)) ≡ placed (place_at 3 1 0) (place_at 2 1 0) (place_at 1 0 0)
unfolding after_draw cost_of places_of
draw_kept = refl

draw_undone : after_draw strip task 1 (words 0 2 1073741824) (placed (place_at 1 1 0) (place_at 2 1 0) (place_at 1 0 0)) ≡ placed (place_at 1 1 0) (place_at 2 1 0) (place_at 1 0 0)
unfolding after_draw cost_of places_of
draw_undone = refl

-- it moves to the second place, and the second block, which was there, moves back: the cost is
-- still 3, so the move is kept for any word, also at temperature 0
draw_exchanged : after_draw strip task 0 (words 3 4 4294967295) (placed (place_at 1 1 0) (place_at 2 1 0) (place_at 1 0 0)) ≡ placed (place_at 2 1 0) (place_at 1 1 0) (place_at 1 0 0)
unfolding after_draw cost_of places_of
draw_exchanged = refl

-- it moves to its own place
draw_own : after_draw strip task 0 (words 3 3 0) (placed (place_at 1 1 0) (place_at 2 1 0) (place_at 1 0 0)) ≡ placed (place_at 1 1 0) (place_at 2 1 0) (place_at 1 0 0)
unfolding after_draw cost_of places_of
draw_own = refl

-- a pass of two draws
abbrev draws : ℕ → Draw
draws zero = words 0 2 0
draws (suc number) = words 1 0 0

two_draws : pass_of strip task 5 draws 2 (placed (place_at 1 1 0) (place_at 2 1 0) (place_at 1 0 0)) ≡ placed (place_at 3 1 0) (place_at 1 1 0) (place_at 1 0 0)
unfolding pass_of after_draw cost_of places_of
two_draws = refl

-- whether a loss of 31 temperatures is kept, by the word
thirty_one : is_kept 1 0 31 1 ≡ true
thirty_one = refl

thirty_one_by_two : is_kept 1 0 31 2 ≡ false
thirty_one_by_two = refl

-- a loss of 32 temperatures is never kept
thirty_two : is_kept 1 0 32 0 ≡ false
thirty_two = refl

-- the loss in temperatures is rounded up: 3 at temperature 2 counts as 2
rounded_up : is_kept 2 10 13 1073741823 ≡ true
rounded_up = refl

not_down : is_kept 2 10 13 1073741824 ≡ false
not_down = refl

-- at temperature 0 no loss is kept, and every other change is
cold_loss : is_kept 0 10 11 0 ≡ false
cold_loss = refl

cold_same : is_kept 0 10 10 4294967295 ≡ true
cold_same = refl

cold_gain : is_kept 0 10 9 4294967295 ≡ true
cold_gain = refl

-- temperatures on a strip of three columns and two rows, whose sixth pass is the last
abbrev cooling : Strip
cooling = record { width = 3; rows = 2; io_rat = 1 }

temperatures : temperature_at cooling 0 ∷ temperature_at cooling 1 ∷ temperature_at cooling 2 ∷ temperature_at cooling 3 ∷ temperature_at cooling 4 ∷ temperature_at cooling 5 ∷ [] ≡ 5 ∷ 4 ∷ 3 ∷ 2 ∷ 1 ∷ 0 ∷ []
unfolding temperature_at
temperatures = refl

not_last : is_past_last cooling 5 ≡ false
unfolding temperature_at
not_last = refl

last : is_past_last cooling 6 ≡ true
unfolding temperature_at
last = refl
