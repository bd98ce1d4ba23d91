use Rattle.one_user.proofs.Prelude.{◌≡◌, [], slice_index_or, range_with_len, has_node}
use Rattle.std.specs.List.{filter}
use Rattle.one_user.proofs.crowding.nets_on.Given as goal

abbrev pub invariant-loop-net : goal.invariant-loop-net
invariant-loop-net l = l.nets.items ≡ filter (λ net. has_node (slice_index_or l.routing.trees net []) l.node) (range_with_len 0 l.net)
