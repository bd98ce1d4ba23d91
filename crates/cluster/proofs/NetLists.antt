-- Nets, each once.
use Rattle.cluster.proofs.Prelude.{◌≡◌, refl, sym, ap, ◌∙◌, ℕ, ◌+◌, ◌<◌, Bool, true, not, ◌||◌, cond, eqb, List, [], ◌∷◌, ◌++◌, length, take, get_or, Some, arith, flat_map, option_to_list, append-nil, map_more, flat_map-append, filter-append, get_or_from_slice_get, has, with_nets, NetsAmong, with_net, LogicElement, element_at, elements_at, outputs_of, outside_inputs, inputs_of, all_clocks_of, has-with_net, has-with_nets, with_nets-append}
use Rattle.std.specs.Prelude.{slice_get}
use Rattle.std.specs.List.{filter}

-- the nets of one more BLE
gathered_more : (f : LogicElement → List ℕ) (elements : List LogicElement) (members : List ℕ) (i : ℕ) (start : List ℕ) (element : LogicElement) → i < length members → slice_get elements (get_or members i 0) ≡ Some element → with_nets (with_nets start (flat_map f (elements_at elements (take i members)))) (f element) ≡ with_nets start (flat_map f (elements_at elements (take (i + 1) members)))
gathered_more f elements members i start element h read = grind (arith, get_or_from_slice_get, with_nets-append, append-nil, flat_map-append, map_more (element_at elements) members i 0 h, with_nets-append start (flat_map f (elements_at elements (take i members))) (f element), append-nil (f element), flat_map-append f (elements_at elements (take i members)) (element ∷ []))

-- a `flat_map` with one net for each BLE
outputs_flat : (elements : List LogicElement) → flat_map (λ (element : LogicElement). element.output ∷ []) elements ≡ outputs_of elements
outputs_flat [] = refl
outputs_flat (element ∷ elements) = ap (λ (nets : List ℕ). element.output ∷ nets) (outputs_flat elements)

-- a filter moves into a `flat_map`
inputs_flat : (p : ℕ → Bool) (elements : List LogicElement) → flat_map (λ (element : LogicElement). filter p element.inputs) elements ≡ filter p (inputs_of elements)
inputs_flat p [] = refl
inputs_flat p (element ∷ elements) = ap (λ (nets : List ℕ). filter p element.inputs ++ nets) (inputs_flat p elements) ∙ sym (filter-append p element.inputs (inputs_of elements))

-- the net that one more member drives
pub outputs_more : (elements : List LogicElement) (members : List ℕ) (i count : ℕ) (start : List ℕ) (old new : NetsAmong) (element : LogicElement) → i < length members → slice_get elements (get_or members i 0) ≡ Some element → old ≡ record { count = count; nets = with_nets start (outputs_of (elements_at elements (take i members))) } → new ≡ record { count = old.count; nets = with_net old.nets element.output } → new ≡ record { count = count; nets = with_nets start (outputs_of (elements_at elements (take (i + 1) members))) }
outputs_more elements members i count start old new element h read before after =
    let f : LogicElement → List ℕ = λ element. element.output ∷ [] in
    let count_is : old.count ≡ count = ap (λ (set : NetsAmong). set.count) before in
    let nets_are : old.nets ≡ with_nets start (flat_map f (elements_at elements (take i members))) = ap (λ (set : NetsAmong). set.nets) before ∙ ap (with_nets start) (sym (outputs_flat (elements_at elements (take i members)))) in
    let more = gathered_more f elements members i start element h read ∙ ap (with_nets start) (outputs_flat (elements_at elements (take (i + 1) members))) in
    grind arith

-- the nets that one more member reads, without known nets
pub inputs_more : (elements : List LogicElement) (known members : List ℕ) (i count : ℕ) (start : List ℕ) (old new : NetsAmong) (element : LogicElement) → i < length members → slice_get elements (get_or members i 0) ≡ Some element → old ≡ record { count = count; nets = with_nets start (filter (λ net. not (has known net)) (inputs_of (elements_at elements (take i members)))) } → new ≡ record { count = old.count; nets = with_nets old.nets (filter (λ net. not (has known net)) element.inputs) } → new ≡ record { count = count; nets = with_nets start (filter (λ net. not (has known net)) (inputs_of (elements_at elements (take (i + 1) members)))) }
inputs_more elements known members i count start old new element h read before after =
    let p : ℕ → Bool = λ net. not (has known net) in
    let f : LogicElement → List ℕ = λ element. filter p element.inputs in
    let count_is : old.count ≡ count = ap (λ (set : NetsAmong). set.count) before in
    let nets_are : old.nets ≡ with_nets start (flat_map f (elements_at elements (take i members))) = ap (λ (set : NetsAmong). set.nets) before ∙ ap (with_nets start) (sym (inputs_flat p (elements_at elements (take i members)))) in
    let more = gathered_more f elements members i start element h read ∙ ap (with_nets start) (inputs_flat p (elements_at elements (take (i + 1) members))) in
    grind arith

-- the clock of one more member
pub clocks_more : (elements : List LogicElement) (members : List ℕ) (i count : ℕ) (start : List ℕ) (old new : NetsAmong) (element : LogicElement) → i < length members → slice_get elements (get_or members i 0) ≡ Some element → old ≡ record { count = count; nets = with_nets start (all_clocks_of (elements_at elements (take i members))) } → new ≡ record { count = old.count; nets = with_nets old.nets (option_to_list element.clock) } → new ≡ record { count = count; nets = with_nets start (all_clocks_of (elements_at elements (take (i + 1) members))) }
clocks_more elements members i count start old new element h read before after =
    let f : LogicElement → List ℕ = λ element. option_to_list element.clock in
    let count_is : old.count ≡ count = ap (λ (set : NetsAmong). set.count) before in
    let nets_are : old.nets ≡ with_nets start (flat_map f (elements_at elements (take i members))) = ap (λ (set : NetsAmong). set.nets) before in
    let more = gathered_more f elements members i start element h read in
    grind arith

-- a filter doesn't change whether a net that passes is in the list
has-filter : (p : ℕ → Bool) (nets : List ℕ) (net : ℕ) → p net ≡ true → has (filter p nets) net ≡ has nets net
has-filter p [] net pass = refl
has-filter p (other ∷ nets) net pass = grind (arith, has-filter p nets net pass)

filter-with_net : (p : ℕ → Bool) (nets : List ℕ) (net : ℕ) → filter p (with_net nets net) ≡ cond (p net) (with_net (filter p nets) net) (filter p nets)
filter-with_net p nets net = grind (arith, has-filter, filter-append, append-nil)

-- filtering a set of nets is building it from the filtered nets
pub filter-with_nets : (p : ℕ → Bool) (nets others : List ℕ) → filter p (with_nets nets others) ≡ with_nets (filter p nets) (filter p others)
filter-with_nets p nets [] = refl
filter-with_nets p nets (other ∷ others) = grind (arith, filter-with_net, filter-with_nets p (with_net nets other) others)

-- the outside inputs as a set
pub inputs_gathered : (elements : List LogicElement) (count : ℕ) (no_outputs outputs no_inputs inputs : NetsAmong) → no_outputs.nets ≡ [] → outputs ≡ record { count = no_outputs.count; nets = with_nets no_outputs.nets (outputs_of elements) } → no_inputs ≡ record { count = count; nets = [] } → inputs ≡ record { count = no_inputs.count; nets = with_nets no_inputs.nets (filter (λ net. not (has outputs.nets net)) (inputs_of elements)) } → inputs ≡ record { count = count; nets = outside_inputs elements }
inputs_gathered elements count no_outputs outputs no_inputs inputs none driven cleared read = grind (arith, filter-with_nets, has-with_nets)

-- the net occurs in the list at most once
abbrev pub StandsOnce : List ℕ → ℕ → Type 0
StandsOnce nets net = filter (λ other. eqb other net) nets ≡ cond (has nets net) (net ∷ []) []

once_by : (b there : Bool) (net other : ℕ) → eqb other net ≡ b → cond b (with_net (cond there (net ∷ []) []) other) (cond there (net ∷ []) []) ≡ cond (there || b) (net ∷ []) []
once_by b there net other is = grind arith

once_with_net : (nets : List ℕ) (net other : ℕ) → StandsOnce nets net → StandsOnce (with_net nets other) net
once_with_net nets net other once = grind (arith, filter-with_net, has-with_net)

-- a net still occurs at most once after others are added
pub once_with_nets : (nets others : List ℕ) (net : ℕ) → StandsOnce nets net → StandsOnce (with_nets nets others) net
once_with_nets nets [] net once = once
once_with_nets nets (other ∷ others) net once = grind (arith, once_with_nets (with_net nets other) others net (once_with_net nets net other once))
