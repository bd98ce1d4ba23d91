use Rattle.layout_check.proofs.Prelude.{◌≡◌, take, flat_map, option_to_list, input_net}
use Rattle.layout_check.proofs.elements.trace.Given as goal

abbrev pub invariant-loop-feed : goal.invariant-loop-feed
invariant-loop-feed l = l.inputs.items ≡ flat_map (λ feed. option_to_list (input_net l.arch l.block feed)) (take l.feed-index l.feeds)
