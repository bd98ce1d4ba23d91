use Rattle.strips.proofs.Prelude.{refl, arith, moved_back, strip_of_width}
use Rattle.strips.proofs.Windows.{node_there, pair_within, pair_leaves, beside_outside, windows_apart}
use Rattle.strips.proofs.shifting.laws_of_windows.Goals as goal

pub returns-clause-there : goal.returns-clause-there
returns-clause-there c = node_there

pub returns-clause-pairs : goal.returns-clause-pairs
returns-clause-pairs c = λ arch device strip a b few in_a in_b. pair_within arch device strip a b in_a in_b
    (c.laws_of_geometry.ensures.moved_pair arch (strip_of_width device strip.width) device strip.offset (moved_back strip.offset a) (moved_back strip.offset b) refl refl (omega (arith, few)))

pub returns-clause-leaving : goal.returns-clause-leaving
returns-clause-leaving c = pair_leaves

pub returns-clause-beside : goal.returns-clause-beside
returns-clause-beside c = beside_outside

pub returns-clause-apart : goal.returns-clause-apart
returns-clause-apart c = windows_apart
