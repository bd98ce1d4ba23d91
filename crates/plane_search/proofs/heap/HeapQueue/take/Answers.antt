use Rattle.plane_search.proofs.Prelude.{◌∷◌, heap_items, ◌∙◌, sym, nil_from_length, IsPermutation-map, open_of}
use Rattle.plane_search.proofs.Nearest.{all_above, none_above}
use Rattle.plane_search.proofs.heap.HeapQueue.take.Goals as goal

pub returns-in_default-clause-none : goal.returns-in_default-clause-none
returns-in_default-clause-none c =
    let old = heap_items c.self.inside.waiting in
    rw (← c.self.view_is) (none_above c.args.limit old (nil_from_length old (sym c.self.inside.waiting.data.ok.0 ∙ c.in_default.ensures.none)))

pub returns-then-limit-first-clause-none : goal.returns-then-limit-first-clause-none
returns-then-limit-first-clause-none c =
    rw (← c.self.view_is) (all_above c.args.limit c.in-Some.first (heap_items c.self.inside.waiting) (heap_items c.pop.new.self) c.in-Some.ensures.permutation (c.in-Some.ensures.below_top c.self.invariant) c.if-limit-first.true)

pub returns-clause-some : goal.returns-clause-some
returns-clause-some c =
    rw (← c.self.view_is) (IsPermutation-map open_of (heap_items c.self.inside.waiting) (c.in-Some.first ∷ heap_items c.pop.new.self) c.in-Some.ensures.permutation)
