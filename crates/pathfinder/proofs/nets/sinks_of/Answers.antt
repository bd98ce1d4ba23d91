use Rattle.pathfinder.proofs.Prelude.{◌∙◌, ◌++◌, ◌∷◌, [], ap, graph_of, block_at, place_of, number_of, sink_at}
use Rattle.pathfinder.proofs.Lists.{map_more}
use Rattle.pathfinder.proofs.nets.sinks_of.Goals as goal

pub loop-reader-preserved : goal.loop-reader-preserved
loop-reader-preserved g c =
    c.in_ok-push.ensures.items ∙ ap (λ sink. c.loop-reader.sinks.items ++ sink ∷ []) c.sink_of.ensures
    ∙ map_more (λ reader. number_of (graph_of (g.G.StripGraph.basis c.args.graph.now)) (sink_at (block_at c.args.packed.now reader) (place_of c.args.places.now reader))) c.args.readers.now c.loop-reader.reader-index 0 c.loop-reader.sinks.items c.loop-reader.invariant c.loop-reader-test.true
