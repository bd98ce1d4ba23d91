-- BLEs with their nets.
use Rattle.ble_cluster.proofs.Prelude.{◌≡◌, ℕ, suc, zero, ◌+◌, ◌<◌, ◌≤◌, Bool, true, false, List, [], ◌∷◌, ◌++◌, All, length, if◌then◌else◌, refl, arith, append-nil, length-map, map-append, All-nil, All-cons, All-tail, All-append, All-map, filter-append, get_or-map-range_with_len, length-range_with_len, Keyed, items_by_key, items_with, IsOnce, distinct_nets, has, with_nets, with_net, LogicElement, element_at, nets_of, AreElements, AreHaving, AreLawful, pairs_from, pairs_with, IsElement}
use Rattle.std.proofs.lemmas.List.{append_assoc}
use Rattle.ble_cluster.proofs.Outside.{distinct-more, once-distinct}

-- the pairs of a BLE, after those of its inputs were added
pub all_pushed : (old now : List Keyed) (number output : ℕ) (inputs : List ℕ) (reads_own : Bool) → IsOnce inputs → now ≡ old ++ pairs_with number inputs → reads_own ≡ has inputs output → reads_own ≡ true
    → now ≡ old ++ pairs_with number (distinct_nets (inputs ++ output ∷ []))
all_pushed old now number output inputs reads_own once e own is = grind (arith, distinct-more)

pub last_pushed : (old now : List Keyed) (number output : ℕ) (inputs : List ℕ) (reads_own : Bool) → IsOnce inputs → now ≡ old ++ pairs_with number inputs → reads_own ≡ has inputs output → reads_own ≡ false
    → now ++ record { key = output; item = number } ∷ [] ≡ old ++ pairs_with number (distinct_nets (inputs ++ output ∷ []))
last_pushed old now number output inputs reads_own once e own is = grind (arith, distinct-more, append_assoc, map-append)

-- one more BLE
pub pairs_more : (number : ℕ) (elements : List LogicElement) (element : LogicElement) → pairs_from number (elements ++ element ∷ []) ≡ pairs_from number elements ++ pairs_with (number + length elements) (nets_of element)
pairs_more number [] element = let at : number + 0 ≡ number = omega arith in rw at (append-nil (pairs_with number (nets_of element)))
pairs_more number (first ∷ elements) element = grind (arith, append_assoc, pairs_more (number + 1) elements element)

-- of one BLE's pairs, the items with a net: the BLE, if it has the net
own_items : (number net : ℕ) (nets : List ℕ) → IsOnce nets → items_with (pairs_with number nets) net ≡ (if has nets net then number ∷ [] else [])
own_items number net [] once = refl
own_items number net (other ∷ nets) once = grind (arith, own_items number net nets once.1)

items-append : (pairs others : List Keyed) (net : ℕ) → items_with (pairs ++ others) net ≡ items_with pairs net ++ items_with others net
items-append pairs others net = grind (arith, filter-append, map-append)

-- the items with a net, BLE by BLE
abbrev numbers_from : ℕ → ℕ → List LogicElement → List ℕ
numbers_from net number [] = []
numbers_from net number (element ∷ elements) = (if has (nets_of element) net then number ∷ [] else []) ++ numbers_from net (number + 1) elements

items_are : (net number : ℕ) (elements : List LogicElement) → items_with (pairs_from number elements) net ≡ numbers_from net number elements
items_are net number [] = refl
items_are net number (element ∷ elements) = grind (arith, items-append, own_items, once-distinct, items_are net (number + 1) elements)

-- lesser numbers don't occur
no_lesser : (net number : ℕ) (elements : List LogicElement) (lesser : ℕ) → lesser < number → has (numbers_from net number elements) lesser ≡ false
no_lesser net number [] lesser less = refl
no_lesser net number (element ∷ elements) lesser less = grind (arith, no_lesser net (number + 1) elements lesser (omega (arith, less)))

numbers_once : (net number : ℕ) (elements : List LogicElement) → IsOnce (numbers_from net number elements)
numbers_once net number [] = tt
numbers_once net number (element ∷ elements) = grind (arith, no_lesser, numbers_once net (number + 1) elements)

numbers_below : (net number bound : ℕ) (elements : List LogicElement) → number + length elements ≤ bound → All (λ n. n < bound) (numbers_from net number elements)
numbers_below net number bound [] h = All-nil _
numbers_below net number bound (element ∷ elements) h = grind (arith, numbers_below net (number + 1) bound elements (omega (arith, h)))

numbers_listed : (net number : ℕ) (elements : List LogicElement) (place : ℕ) → place < length elements → has (numbers_from net number elements) (number + place) ≡ has (nets_of (element_at elements place)) net
numbers_listed net number [] place small = absurd (omega (arith, small))
numbers_listed net number (element ∷ elements) zero small = grind (arith, no_lesser)
numbers_listed net number (element ∷ elements) (suc place) small = grind (arith, numbers_listed net (number + 1) elements place (omega (arith, small)))

-- the items with a net are the BLEs that have it
pub having_are : (elements : List LogicElement) (net : ℕ) → AreHaving elements net (items_with (pairs_from 0 elements) net)
having_are elements net = grind (arith, items_are, numbers_once, numbers_below, numbers_listed)

-- the rows made of all pairs hold the BLEs of each net
pub elements_are : (elements : List LogicElement) (nets : ℕ) → AreLawful (record { elements = elements; nets = nets }) → AreElements elements (items_by_key (pairs_from 0 elements) nets)
elements_are elements nets lawful = grind (arith, having_are, length-map, length-range_with_len, get_or-map-range_with_len)

own_within : (number nets : ℕ) (list : List ℕ) → All (λ net. net < nets) list → All (λ (pair : Keyed). pair.key < nets) (pairs_with number list)
own_within number nets list h = All-map (λ (pair : Keyed). pair.key < nets) (λ net. record { key = net; item = number }) list h

with_within : (nets : ℕ) (seen list : List ℕ) → All (λ net. net < nets) seen → All (λ net. net < nets) list → All (λ net. net < nets) (with_nets seen list)
with_within nets seen [] s h = s
with_within nets seen (net ∷ list) s h = with_within nets (with_net seen net) list (by (has seen net)) (All-tail (λ n. n < nets) net list h)
  where
    by : (test : Bool) → All (λ n. n < nets) (if test then seen else seen ++ net ∷ [])
    by true = s
    by false = All-append (λ n. n < nets) seen (net ∷ []) s (All-cons (λ n. n < nets) net [] (h 0 net (omega arith)) (All-nil _))

-- a BLE's nets are lawful
pub nets_within : (nets : ℕ) (element : LogicElement) → IsElement nets element → All (λ net. net < nets) (nets_of element)
nets_within nets element e = search (with_within, All-nil, All-append, All-cons, arith)

-- each pair has a lawful net
pub pairs_within : (number nets : ℕ) (elements : List LogicElement) → All (IsElement nets) elements → All (λ (pair : Keyed). pair.key < nets) (pairs_from number elements)
pairs_within number nets [] lawful = All-nil _
pairs_within number nets (element ∷ elements) lawful =
    All-append (λ (pair : Keyed). pair.key < nets) (pairs_with number (nets_of element)) (pairs_from (number + 1) elements)
    (own_within number nets (nets_of element) (nets_within nets element (lawful 0 element (omega arith))))
    (pairs_within (number + 1) nets elements (All-tail (IsElement nets) element elements lawful))

-- each of a BLE's inputs occurs once
pub inputs_once : {count : ℕ} (element : LogicElement) → IsElement count element → IsOnce element.inputs
inputs_once element e = rw e.once at (once-distinct element.inputs)
