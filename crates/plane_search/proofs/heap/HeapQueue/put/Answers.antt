use Rattle.plane_search.proofs.Prelude.{◌∷◌, heap_items, IsPermutation-map, open_of}
use Rattle.plane_search.proofs.heap.HeapQueue.put.Goals as goal

pub returns : goal.returns
returns c = rw (← c.self.view_is) (IsPermutation-map open_of (_ ∷ heap_items c.self.inside.waiting) (heap_items c.push.new.self) c.in_ok-push.ensures.permutation)
