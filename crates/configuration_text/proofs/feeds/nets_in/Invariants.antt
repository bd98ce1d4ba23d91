use Rattle.configuration_text.proofs.Prelude.{◌≡◌, flat_map, option_to_list, input_net, take}
use Rattle.configuration_text.proofs.feeds.nets_in.Given as goal

abbrev pub invariant-loop-feed : goal.invariant-loop-feed
invariant-loop-feed l = l.nets.items ≡ flat_map (λ feed. option_to_list (input_net l.arch l.laid feed)) (take l.feed-index l.feeds)
