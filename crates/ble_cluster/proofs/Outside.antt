-- The outside inputs of a cluster with one more BLE, and the nets that it shares.
use Rattle.ble_cluster.proofs.Prelude.{◌≡◌, ℕ, ◌+◌, Bool, true, false, not, ◌||◌, ◌&&◌, ◌==◌, List, [], ◌∷◌, ◌++◌, filter, length, if◌then◌else◌, sym, refl, ◌∙◌, arith, length-append, ap, append-nil, flat_map, map-append, flat_map-append, filter-append, list_any-append, IsOnce, distinct_nets, has, with_nets, with_net, LogicElement, gained_inputs, loses, inputs_of, nets_of, outputs_of, outside_inputs}
use Rattle.std.proofs.lemmas.List.{append_assoc}

pub has-append : (xs ys : List ℕ) (net : ℕ) → has (xs ++ ys) net ≡ (has xs net || has ys net)
has-append xs ys net = list_any-append (λ other. other == net) xs ys

pub has-with_net : (nets : List ℕ) (net other : ℕ) → has (with_net nets net) other ≡ (has nets other || (net == other))
has-with_net nets net other = grind (arith, has-append)

pub has-with_nets : (nets others : List ℕ) (net : ℕ) → has (with_nets nets others) net ≡ (has nets net || has others net)
has-with_nets nets [] net = grind arith
has-with_nets nets (other ∷ others) net = let h = has-with_nets (with_net nets other) others net in let k = has-with_net nets other net in grind (arith, h, k)

pub has-distinct : (nets : List ℕ) (net : ℕ) → has (distinct_nets nets) net ≡ has nets net
has-distinct nets net = has-with_nets [] nets net

pub with_nets-append : (nets xs ys : List ℕ) → with_nets nets (xs ++ ys) ≡ with_nets (with_nets nets xs) ys
with_nets-append nets [] ys = refl
with_nets-append nets (x ∷ xs) ys = with_nets-append (with_net nets x) xs ys

abbrev pub new_nets : List ℕ → List ℕ → List ℕ
new_nets nets others = filter (λ other. not (has nets other)) others

-- one more net, which differs from the others
new_unseen : (seen : List ℕ) (net : ℕ) (others : List ℕ) → has others net ≡ false → new_nets (seen ++ net ∷ []) others ≡ new_nets seen others
new_unseen seen net [] h = refl
new_unseen seen net (other ∷ others) h = grind (arith, has-append, new_unseen seen net others)

-- nets that occur once are appended to those before, without those that already occur there
pub with_nets-new : (seen nets : List ℕ) → IsOnce nets → with_nets seen nets ≡ seen ++ new_nets seen nets
with_nets-new seen [] once = sym (append-nil seen)
with_nets-new seen (net ∷ nets) once = grind (arith, append_assoc, new_unseen, with_nets-new seen nets once.1, with_nets-new (seen ++ net ∷ []) nets once.1)

pub once-push : (nets : List ℕ) (net : ℕ) → IsOnce nets → has nets net ≡ false → IsOnce (nets ++ net ∷ [])
once-push [] net once h = (refl, tt)
once-push (other ∷ nets) net once h = grind (arith, has-append, once-push nets net once.1 (grind (arith, h)))

once-with_nets : (nets others : List ℕ) → IsOnce nets → IsOnce (with_nets nets others)
once-with_nets nets [] once = once
once-with_nets nets (net ∷ others) once = once-with_nets (with_net nets net) others (by (has nets net) refl)
  where
    by : (a : Bool) → has nets net ≡ a → IsOnce (if a then nets else nets ++ net ∷ [])
    by true e = once
    by false e = once-push nets net once e

-- distinct nets occur once
pub once-distinct : (nets : List ℕ) → IsOnce (distinct_nets nets)
once-distinct nets = once-with_nets [] nets tt

-- the nets that are not in the list and differ from this net
abbrev pub beyond : List ℕ → List ℕ → List ℕ
beyond nets others = filter (λ other. not (has nets other)) others

-- excluding one more net removes one more input, if it is an input
left_out : (driven : List ℕ) (net : ℕ) (inputs : List ℕ) → IsOnce inputs
    → length (beyond (driven ++ net ∷ []) inputs) + (if has inputs net && not (has driven net) then 1 else 0) ≡ length (beyond driven inputs)
left_out driven net [] once = refl
left_out driven net (input ∷ inputs) once = grind (arith, has-append, left_out driven net inputs once.1)

gained-is : (inputs driven : List ℕ) (output : ℕ) (nets : List ℕ) → beyond (driven ++ output ∷ []) (new_nets (distinct_nets inputs) nets) ≡ filter (λ net. not (has inputs net) && (not (has driven net) && not (net == output))) nets
gained-is inputs driven output [] = refl
gained-is inputs driven output (net ∷ nets) = grind (arith, has-distinct, has-append, gained-is inputs driven output nets)

-- the number of outside inputs with one more BLE
pub outside_more : (members : List LogicElement) (element : LogicElement) → IsOnce element.inputs
    → length (outside_inputs (members ++ element ∷ [])) + (if loses members element then 1 else 0) ≡ length (outside_inputs members) + length (gained_inputs members element)
outside_more members element once =
    let inputs = inputs_of members in
    let driven = outputs_of members in
    let read : inputs_of (members ++ element ∷ []) ≡ inputs ++ element.inputs = flat_map-append (λ e. e.inputs) members (element ∷ []) ∙ ap (λ last. inputs ++ last) (append-nil element.inputs) in
    let drives : outputs_of (members ++ element ∷ []) ≡ driven ++ element.output ∷ [] = map-append (λ e. e.output) members (element ∷ []) in
    let each : distinct_nets (inputs ++ element.inputs) ≡ distinct_nets inputs ++ new_nets (distinct_nets inputs) element.inputs = with_nets-append [] inputs element.inputs ∙ with_nets-new (distinct_nets inputs) element.inputs once in
    let parts : outside_inputs (members ++ element ∷ []) ≡ beyond (driven ++ element.output ∷ []) (distinct_nets inputs) ++ gained_inputs members element =
    rw (read, drives, each) (filter-append (λ net. not (has (driven ++ element.output ∷ []) net)) (distinct_nets inputs) (new_nets (distinct_nets inputs) element.inputs) ∙ ap (λ last. beyond (driven ++ element.output ∷ []) (distinct_nets inputs) ++ last) (gained-is inputs driven element.output element.inputs)) in
    let sums : length (outside_inputs (members ++ element ∷ [])) ≡ length (beyond (driven ++ element.output ∷ []) (distinct_nets inputs)) + length (gained_inputs members element) = ap length parts ∙ length-append (beyond (driven ++ element.output ∷ []) (distinct_nets inputs)) (gained_inputs members element) in
    let left = left_out driven element.output (distinct_nets inputs) (once-distinct inputs) in
    let same = has-distinct inputs element.output in
    grind (arith, sums, left, same)

-- the number of nets that a BLE shares with the members and one more
pub shared_more : (nets added others : List ℕ) → length (filter (has (nets ++ added)) others) ≡ length (filter (has nets) others) + length (filter (λ net. has added net && not (has nets net)) others)
shared_more nets added [] = refl
shared_more nets added (net ∷ others) = grind (arith, has-append, shared_more nets added others)

-- the members have the nets that they read or drive
pub has-member_nets : (members : List LogicElement) (net : ℕ) → has (flat_map nets_of members) net ≡ (has (inputs_of members) net || has (outputs_of members) net)
has-member_nets [] net = refl
has-member_nets (element ∷ members) net = grind (arith, has-distinct, has-append, has-member_nets members net)

-- a list shares the same number of nets with lists that have the same nets
pub shared_same : (nets others : List ℕ) → ((net : ℕ) → has nets net ≡ has others net) → (list : List ℕ) → length (filter (has nets) list) ≡ length (filter (has others) list)
shared_same nets others same [] = refl
shared_same nets others same (net ∷ list) = let here = same net in let ih = shared_same nets others same list in grind (arith, here, ih)

all_new : (nets : List ℕ) → new_nets [] nets ≡ nets
all_new [] = refl
all_new (net ∷ nets) = ap (λ rest. net ∷ rest) (all_new nets)

-- nets that occur once are unchanged by distinct
pub distinct-once : (nets : List ℕ) → IsOnce nets → distinct_nets nets ≡ nets
distinct-once nets once = with_nets-new [] nets once ∙ all_new nets

-- nets that occur once, with one more net
pub distinct-more : (nets : List ℕ) (net : ℕ) → IsOnce nets → distinct_nets (nets ++ net ∷ []) ≡ with_net nets net
distinct-more nets net once = with_nets-append [] nets (net ∷ []) ∙ ap (λ front. with_net front net) (distinct-once nets once)
