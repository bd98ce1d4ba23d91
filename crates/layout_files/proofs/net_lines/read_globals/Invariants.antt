use Rattle.layout_files.proofs.Prelude.{◌≡◌, ◌<◌, List, ℕ, All, [], ◌∷◌, ◌++◌, Some, None, length, codes, Circuit, net_name, line_of, text_of, left_after, size, HasFileNames, global_lines}
use Rattle.layout_files.proofs.Halfway.{Halfway}
use Rattle.layout_files.proofs.ReadingNets.{globals_end}
use Rattle.layout_files.proofs.net_lines.read_globals.Given as goal

-- some global nets are read, and the lines of the others are left
abbrev pub invariant-loop-cursor : goal.invariant-loop-cursor
invariant-loop-cursor l = (circuit : Circuit) (globals after : List ℕ) → l.context.names.now ≡ circuit.nets → HasFileNames circuit → All (λ net. net < length circuit.nets) globals → left_after (Some after) (codes ".global ") ≡ None
    → l.initial.cursor ≡ Some (text_of (global_lines circuit globals) ++ after)
    → Halfway (λ k net. line_of (codes ".global" ∷ net_name circuit net ∷ [])) (λ net. net) globals (globals_end globals after) l.globals.items l.cursor

abbrev pub decreases-loop-cursor : goal.decreases-loop-cursor
decreases-loop-cursor l = size l.cursor
