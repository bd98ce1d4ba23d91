-- The lines of global nets, net by net.
use Rattle.vpr_files.proofs.Prelude.{◌≡◌, ℕ, ◌+◌, Bool, true, false, ◌||◌, List, [], ◌∷◌, ◌++◌, map, filter, cond, refl, sym, ap, ◌∙◌, codes, slice_get, Some, take, append-nil, arith, slice_get_within, get_or_from_slice_get, flat_map, list_any, flat_map-append, flat_map-map, list_any_more, Circuit, PackedCircuit, BlockNet, block_nets, net_name, line_of, text_of, global_lines}

-- the text, or nothing
abbrev pub told : Bool → List ℕ → List ℕ
told true text = text
told false text = []

-- the line of a global net
abbrev pub global_line : Circuit → BlockNet → List (List ℕ)
global_line circuit net = codes ".global" ∷ net_name circuit net.net ∷ []

-- the line of a net, if it is global
abbrev pub global_text : Circuit → BlockNet → List ℕ
global_text circuit net = told net.global (line_of (global_line circuit net))

flat_filter : {X : Type 0} (p : X → Bool) (f : X → List ℕ) (xs : List X) → flat_map (λ x. told (p x) (f x)) xs ≡ flat_map f (filter p xs)
flat_filter p f [] = refl
flat_filter p f (x ∷ xs) = grind (arith, flat_filter p f xs)

-- an empty line, or nothing
gap_text : (b : Bool) → told b (10 ∷ []) ≡ text_of (cond b ([] ∷ []) [])
gap_text b = grind arith

-- the lines net by net, followed by an empty one if there was a global net
pub globals_text : (packed : PackedCircuit) → flat_map (global_text packed.circuit) (block_nets packed) ++ told (list_any (λ net. net.global) (block_nets packed)) (10 ∷ []) ≡ text_of (global_lines packed)
globals_text packed =
    let is_global : BlockNet → Bool = λ net. net.global in
    let line : BlockNet → List (List ℕ) = global_line packed.circuit in
    let nets = block_nets packed in
    ap (λ text. text ++ told (list_any is_global nets) (10 ∷ [])) (flat_filter is_global (λ net. line_of (line net)) nets ∙ sym (flat_map-map line_of line (filter is_global nets)))
    ∙ ap (λ gap. text_of (map line (filter is_global nets)) ++ gap) (gap_text (list_any is_global nets))
    ∙ sym (flat_map-append line_of (map line (filter is_global nets)) (cond (list_any is_global nets) ([] ∷ []) []))

-- the line of one net, from the name that was looked up
pub global_line_text : (circuit : Circuit) (name : List ℕ) (net : BlockNet) → name ≡ net_name circuit net.net → codes ".global " ++ (name ++ 10 ∷ []) ≡ line_of (global_line circuit net)
global_line_text circuit name net named = grind (arith, append-nil)

-- whether there is a global net, after one more net
pub some_more : (nets : List BlockNet) (number : ℕ) (net : BlockNet) → slice_get nets number ≡ Some net
    → (list_any (λ one. one.global) (take number nets) || net.global) ≡ list_any (λ one. one.global) (take (number + 1) nets)
some_more nets number net e =
    ap (λ (one : BlockNet). list_any (λ (o : BlockNet). o.global) (take number nets) || one.global) (sym (get_or_from_slice_get nets number net net e))
    ∙ sym (list_any_more (λ one. one.global) nets number net (slice_get_within nets number net e))

pub some_true : (b global : Bool) → global ≡ true → true ≡ (b || global)
some_true b global e = grind arith

pub some_false : (b global : Bool) → global ≡ false → b ≡ (b || global)
some_false b global e = grind arith
