-- The lines that a run writes.
use Rattle.std.specs.Prelude.{ℕ, ◌+◌, ◌-◌, ◌^◌, min, List, [], ◌∷◌, ◌++◌, codes, decimal, Option, Some, None}
use Rattle.std.specs.List.{concat}
use Rattle.one_user.specs.Prelude.{ChannelUse, channel_line, Strip, pass_count, Progress, Packing, Packed, Placing, Routing, Routed, GaveUp, NoPath, Node, NodeKind, Source, Sink, Opin, Ipin, ChanX, ChanY, temperature_at}
use Rattle.one_user.specs.declared.figures.Figures.{Figures}

-- the word of the route file for a kind of node
abbrev pub kind_word : NodeKind → List ℕ
kind_word Source = codes "SOURCE"
kind_word Sink = codes "SINK"
kind_word Opin = codes "OPIN"
kind_word Ipin = codes "IPIN"
kind_word ChanX = codes "CHANX"
kind_word ChanY = codes "CHANY"

-- the line of a cluster, of a packing with at most that number of clusters
abbrev pub cluster_line : ℕ → ℕ → List ℕ
cluster_line number most = concat (codes "cluster " ∷ decimal number ∷ codes " of at most " ∷ decimal most ∷ codes "\n" ∷ [])

-- the line of a packing that is whole
abbrev pub packed_line : ℕ → ℕ → ℕ → List ℕ
packed_line clusters pads nets =
    concat (codes "packed: " ∷ decimal clusters ∷ codes " clusters, " ∷ decimal pads ∷ codes " pads, " ∷ decimal nets ∷ codes " nets\n" ∷ [])

-- the line of a pass, with the number of passes and its temperature
abbrev pub pass_line : ℕ → ℕ → ℕ → ℕ → List ℕ
pass_line number count temperature cost = concat (
    codes "pass " ∷ decimal number ∷ codes " of " ∷ decimal count ∷ codes ": temperature " ∷ decimal temperature
    ∷ codes ", cost " ∷ decimal cost ∷ codes "\n" ∷ [])

-- the line of an iteration with that end
abbrev pub iteration_line : ℕ → List ℕ → List ℕ
iteration_line number end = concat (codes "iteration " ∷ decimal number ∷ codes " of 30: " ∷ end ∷ codes "\n" ∷ [])

-- the line of an iteration after which that number of nodes are overused, with the most overused
-- one
abbrev pub most_line : ℕ → ℕ → Node → List ℕ
most_line number nodes most = concat (
    codes "iteration " ∷ decimal number ∷ codes " of 30: " ∷ decimal nodes ∷ codes " nodes overused, most at " ∷ kind_word most.kind
    ∷ codes " (" ∷ decimal most.x ∷ codes "," ∷ decimal most.y ∷ codes ")\n" ∷ [])

abbrev pub overuse_line : ℕ → ℕ → Option Node → List ℕ
overuse_line number nodes None = iteration_line number (codes "no node overused")
overuse_line number nodes (Some most) = most_line number nodes most

-- the line of the step of that number, on a strip; the number of a circuit's tables and latches
-- fits in 32 bits
abbrev pub step_line : Strip → ℕ → Progress → List ℕ
step_line strip number (Packing tables latches) = cluster_line number (min (tables + latches) (2 ^ 64 - 1))
step_line strip number (Packed clusters pads nets) = packed_line clusters pads nets
step_line strip number (Placing cost) = pass_line number (pass_count strip) (temperature_at strip (number - 1)) cost
step_line strip number (Routing overuse) = overuse_line number overuse.nodes overuse.most
step_line strip number Routed = iteration_line number (codes "no node overused")
step_line strip number GaveUp = iteration_line number (codes "given up")
step_line strip number NoPath = iteration_line number (codes "a net has no path")

-- the line of the fullest channel, which has `tracks` tracks
abbrev pub named_line : ℕ → ChannelUse → List ℕ
named_line tracks channel = concat (codes "fullest channel " ∷ []) ++ channel_line tracks channel

abbrev pub none_line : List ℕ
none_line = concat (codes "fullest channel none\n" ∷ [])

abbrev pub fullest_line : ℕ → Option ChannelUse → List ℕ
fullest_line tracks (Some channel) = named_line tracks channel
fullest_line tracks None = none_line

-- the lines of all other figures
abbrev pub counts_text : Figures → List ℕ
counts_text figures = concat (
    codes "logic blocks " ∷ decimal figures.blocks.used ∷ codes "/" ∷ decimal figures.blocks.there
    ∷ codes "\npads " ∷ decimal figures.pads.used ∷ codes "/" ∷ decimal figures.pads.there
    ∷ codes "\nnets " ∷ decimal figures.nets ∷ codes "\nwire length " ∷ decimal figures.wires.used ∷ codes "/" ∷ decimal figures.wires.there
    ∷ codes "\niterations " ∷ decimal figures.iterations ∷ codes "\n" ∷ [])

-- the lines of the figures
abbrev pub figures_text : Figures → List ℕ
figures_text figures = counts_text figures ++ fullest_line figures.tracks figures.fullest
