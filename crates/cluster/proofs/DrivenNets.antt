-- The nets that blocks drive, one after another.
use Rattle.cluster.proofs.Prelude.{◌≡◌, ap, ◌∙◌, ℕ, ◌+◌, ◌<◌, Bool, true, false, cond, List, [], ◌∷◌, ◌++◌, Some, None, length, take, get_or, map, slice_get, slice_index, arith, append_assoc, append-nil, map_more, map-append, filter-append, get_or_from_slice_get, Circuit, NetUses, has, LogicElement, element_at, elements_at, BlockNet, other_readers, leaves_by, net_by, input_nets, driven_nets, cluster_nets}
use Rattle.cluster.proofs.ReaderLists.{flat_map-range_more}

-- the net that is built from its uses
pub net_made : (uses : NetUses) (driver net : ℕ) (readers : List ℕ) (global : Bool) (old new : List BlockNet) → readers ≡ get_or uses.readers net [] → global ≡ has uses.globals.nets net → new ≡ old ++ record { net = net; driver = driver; readers = other_readers driver readers; global = global } ∷ [] → new ≡ old ++ net_by uses driver net ∷ []
net_made uses driver net readers global old new reads is more = grind arith

-- one more input pad
pub inputs_more : (circuit : Circuit) (uses : NetUses) (pad net : ℕ) (start old new : List BlockNet) → net ≡ slice_index circuit.inputs pad → old ≡ start ++ input_nets circuit uses pad → new ≡ old ++ net_by uses pad net ∷ [] → new ≡ start ++ input_nets circuit uses (pad + 1)
inputs_more circuit uses pad net start old new is before more = grind (arith, append_assoc, flat_map-range_more)

-- one more cluster
pub clusters_more : (circuit : Circuit) (uses : NetUses) (elements : List LogicElement) (clusters : List (List ℕ)) (cluster driver : ℕ) (members : List ℕ) (start old new : List BlockNet) → slice_get clusters cluster ≡ Some members → driver ≡ length circuit.inputs + length circuit.outputs + cluster → old ≡ start ++ cluster_nets circuit uses elements clusters cluster → new ≡ old ++ driven_nets uses driver (elements_at elements members) → new ≡ start ++ cluster_nets circuit uses elements clusters (cluster + 1)
clusters_more circuit uses elements clusters cluster driver members start old new found is before more = grind (arith, get_or_from_slice_get, append_assoc, flat_map-range_more)

-- the net that one more member drives
driven_more : (uses : NetUses) (driver : ℕ) (elements : List LogicElement) (members : List ℕ) (i : ℕ) (element : LogicElement) (b : Bool) → i < length members → slice_get elements (get_or members i 0) ≡ Some element → leaves_by uses driver element.output ≡ b → driven_nets uses driver (elements_at elements (take (i + 1) members)) ≡ driven_nets uses driver (elements_at elements (take i members)) ++ map (net_by uses driver) (cond b (element.output ∷ []) [])
driven_more uses driver elements members i element b h read is =
    let none : LogicElement = record { inputs = []; output = 0; clock = None } in
    let at : element_at elements (get_or members i 0) ≡ element = get_or_from_slice_get elements (get_or members i 0) element none read in
    let front = elements_at elements (take i members) in
    let more : elements_at elements (take (i + 1) members) ≡ front ++ element ∷ [] = map_more (element_at elements) members i 0 h ∙ ap (λ (last : LogicElement). front ++ last ∷ []) at in
    grind (arith, map-append, filter-append)

-- a net that leaves the block
pub driven_leaves : (uses : NetUses) (driver : ℕ) (elements : List LogicElement) (members : List ℕ) (i : ℕ) (element : LogicElement) (start old new : List BlockNet) → i < length members → slice_get elements (get_or members i 0) ≡ Some element → leaves_by uses driver element.output ≡ true → old ≡ start ++ driven_nets uses driver (elements_at elements (take i members)) → new ≡ old ++ net_by uses driver element.output ∷ [] → new ≡ start ++ driven_nets uses driver (elements_at elements (take (i + 1) members))
driven_leaves uses driver elements members i element start old new h read is before more = grind (arith, append_assoc start (driven_nets uses driver (elements_at elements (take i members))) (net_by uses driver element.output ∷ []), driven_more uses driver elements members i element true h read is)

-- a net that stays in the block
pub driven_stays : (uses : NetUses) (driver : ℕ) (elements : List LogicElement) (members : List ℕ) (i : ℕ) (element : LogicElement) (start old new : List BlockNet) → i < length members → slice_get elements (get_or members i 0) ≡ Some element → leaves_by uses driver element.output ≡ false → old ≡ start ++ driven_nets uses driver (elements_at elements (take i members)) → new ≡ old → new ≡ start ++ driven_nets uses driver (elements_at elements (take (i + 1) members))
driven_stays uses driver elements members i element start old new h read is before same = grind (arith, append-nil (driven_nets uses driver (elements_at elements (take i members))), driven_more uses driver elements members i element false h read is)
