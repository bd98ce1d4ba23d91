use Rattle.strip_picture.proofs.Prelude.{◌≡◌, ◌+◌, ◌/◌, ◌%◌, List, map, range_with_len, Up, RouteNode, HasTracks, use_of}
use Rattle.strip_picture.proofs.channels.up_channels.Given as goal

-- the channels before this one are in the list
abbrev pub invariant-loop-number : goal.invariant-loop-number
invariant-loop-number l =
    (nodes : List RouteNode) → HasTracks nodes l.used → l.channels.items ≡ map (λ number. use_of nodes Up (number / l.fn.size.rows) (number % l.fn.size.rows + 1)) (range_with_len 0 l.number)
