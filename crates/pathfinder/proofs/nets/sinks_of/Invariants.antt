use Rattle.pathfinder.proofs.Prelude.{◌≡◌, map, take, graph_of, block_at, place_of, number_of, sink_at}
use Rattle.pathfinder.proofs.nets.sinks_of.Given as goal

abbrev pub invariant-loop-reader : goal.invariant-loop-reader
invariant-loop-reader g l = l.sinks.items ≡ map (λ reader. number_of (graph_of (g.G.StripGraph.basis l.graph)) (sink_at (block_at l.packed reader) (place_of l.places reader))) (take l.reader-index l.readers)
