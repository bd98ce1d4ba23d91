-- The answers to the sessions of names that aren't live.
use Rattle.script_threads.proofs.Prelude.{◌≡◌, List, [], ◌∷◌, ◌++◌, ap, ◌∙◌, append-nil, flat_map, flat_map-append, SessionLine, evicted_line}

pub told_push : (items : List SessionLine) (item : SessionLine) → flat_map evicted_line (items ++ item ∷ []) ≡ flat_map evicted_line items ++ evicted_line item
told_push items item = flat_map-append evicted_line items (item ∷ []) ∙ ap (λ t. flat_map evicted_line items ++ t) (append-nil (evicted_line item))
