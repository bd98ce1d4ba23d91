use Rattle.kept_places.proofs.Prelude.{◌≡◌, ◌+◌, ◌<◌, ◌++◌, ◌∷◌, [], ◌∙◌, List, Some, length, take, get_or, slice_get, arith, ap, sym, rules, take_more, get_or_from_slice_get, slice_get_within, BlockKey, Place, KeptPlaces, entry_of}
use Rattle.kept_places.proofs.table.Table.same.Goals as goal

-- one more entry is equal
same_more : (es fs : KeptPlaces) (n : _) (e f : BlockKey × Place) → take n es ≡ take n fs → slice_get es n ≡ Some e → slice_get fs n ≡ Some f → e ≡ f → take (n + 1) es ≡ take (n + 1) fs
same_more es fs n e f so_far one other is =
    take_more es n e (slice_get_within es n e one) ∙ (ap (λ (front : KeptPlaces). front ++ get_or es n e ∷ []) so_far
    ∙ (ap (λ (last : BlockKey × Place). take n fs ++ last ∷ []) (get_or_from_slice_get es n e e one ∙ (is ∙ sym (get_or_from_slice_get fs n f e other)))
    ∙ sym (take_more fs n e (slice_get_within fs n f other))))

pub loop-number-preserved : goal.loop-number-preserved
loop-number-preserved c =
    same_more c.args.self.now c.args.other.now c.loop-number.number (entry_of c.entry.result) (entry_of c.entry-in-loop-number.result) c.loop-number.invariant c.entry.ensures c.entry-in-loop-number.ensures (c.same_entry.ensures.0 (search rules))
