-- Lines and blocks, as they are written part by part.
use Rattle.vpr_files.proofs.Prelude.{◌≡◌, ℕ, List, [], ◌∷◌, ◌++◌, map, Option, refl, ap, ◌∙◌, codes, decimal, slice_get, option_and_then, append_assoc, append-nil, arith, flat_map, range_with_len, flat_map-append, flat_map-map, Output, Clock, InputPad, OutputPad, Cluster, LogicElement, PackedCircuit, block_name, elements_in, net_name, pins_of, line_of, word_after_space, text_of, block_lines, element_line, input_word, or_open, pin_with}

-- the words of the inputs of a BLE, each with a space before it
abbrev pub inputs_text : PackedCircuit → ℕ → List ℕ → List ℕ
inputs_text packed cluster inputs = flat_map (λ place. word_after_space (or_open (input_word packed cluster) (slice_get inputs place))) (range_with_len 0 packed.arch.lut_size)

-- the beginning of a BLE's line
abbrev pub element_head : List ℕ → List ℕ
element_head name = codes "subblock: " ++ (name ++ [])

two_words : (output clock : List ℕ) → (word_after_space output ++ (word_after_space clock ++ [])) ++ 10 ∷ [] ≡ word_after_space output ++ (word_after_space clock ++ 10 ∷ [])
two_words output clock = ap (λ t. 32 ∷ t) (append_assoc output (32 ∷ (clock ++ [])) (10 ∷ []) ∙ ap (λ t. output ++ 32 ∷ t) (append_assoc clock [] (10 ∷ [])))

-- the end of a line with words and two more
words_tail : (name : List ℕ) (words : List (List ℕ)) (output clock : List ℕ)
    → (name ++ []) ++ (flat_map word_after_space words ++ (word_after_space output ++ (word_after_space clock ++ 10 ∷ []))) ≡ (name ++ flat_map word_after_space (words ++ output ∷ clock ∷ [])) ++ 10 ∷ []
words_tail name words output clock = grind (arith, append_assoc, flat_map-append)

-- the line of a BLE
element_parts : (packed : PackedCircuit) (cluster : ℕ) (element : LogicElement)
    → element_head (net_name packed.circuit element.output)
    ++ (inputs_text packed cluster element.inputs
    ++ (word_after_space (or_open decimal (pin_with packed cluster Output element.output))
    ++ (word_after_space (or_open decimal (option_and_then (pin_with packed cluster Clock) element.clock)) ++ 10 ∷ [])))
    ≡ line_of (element_line packed cluster element)
element_parts packed cluster element = grind (arith, flat_map-map, words_tail)

-- the line of a BLE, from the parts that are written
pub element_text : (packed : PackedCircuit) (cluster : ℕ) (element : LogicElement) (name : List ℕ) (output clock : Option ℕ)
    → name ≡ net_name packed.circuit element.output
    → output ≡ pin_with packed cluster Output element.output
    → clock ≡ option_and_then (pin_with packed cluster Clock) element.clock
    → element_head name ++ (inputs_text packed cluster element.inputs ++ (word_after_space (or_open decimal output) ++ (word_after_space (or_open decimal clock) ++ 10 ∷ [])))
    ≡ line_of (element_line packed cluster element)
element_text packed cluster element name output clock named at clocked = grind (arith, element_parts)

-- the words of the pins of a cluster, each with a space before it
abbrev pub pins_text : PackedCircuit → ℕ → List ℕ
pins_text packed cluster = flat_map word_after_space (map (or_open (net_name packed.circuit)) (pins_of packed cluster))

-- the lines of a cluster's BLEs
abbrev pub elements_text : PackedCircuit → ℕ → List ℕ
elements_text packed cluster = text_of (map (element_line packed cluster) (elements_in packed cluster))

-- the beginning of a cluster
abbrev pub cluster_head : List ℕ → List ℕ
cluster_head name = codes ".clb " ++ (name ++ (codes "\npinlist:" ++ []))

-- a first line, a line of pins, the other lines and an empty line
cluster_tail : (name word pins : List ℕ) (lines : List (List (List ℕ)))
    → (name ++ (10 ∷ (word ++ []))) ++ (pins ++ (10 ∷ (text_of lines ++ 10 ∷ [])))
    ≡ ((name ++ []) ++ 10 ∷ []) ++ ((word ++ (pins ++ 10 ∷ [])) ++ text_of (lines ++ [] ∷ []))
cluster_tail name word pins lines = rw (flat_map-append line_of lines ([] ∷ [])) (simp (append_assoc, append-nil))

cluster_parts : (packed : PackedCircuit) (cluster : ℕ)
    → cluster_head (block_name packed (Cluster cluster)) ++ (pins_text packed cluster ++ (10 ∷ [] ++ (elements_text packed cluster ++ 10 ∷ [])))
    ≡ text_of (block_lines packed (Cluster cluster))
cluster_parts packed cluster = grind (arith, cluster_tail (block_name packed (Cluster cluster)) (codes "pinlist:") (pins_text packed cluster) (map (element_line packed cluster) (elements_in packed cluster)))

-- a cluster, from the name that was looked up
pub cluster_text : (packed : PackedCircuit) (cluster : ℕ) (name : List ℕ) → name ≡ block_name packed (Cluster cluster)
    → cluster_head name ++ (pins_text packed cluster ++ (10 ∷ [] ++ (elements_text packed cluster ++ 10 ∷ [])))
    ≡ text_of (block_lines packed (Cluster cluster))
cluster_text packed cluster name named = grind (arith, cluster_parts)

-- joined lists of lists, each turned into a text
pub flat_map-flat_map : {X Y Z : Type 0} (h : Y → List Z) (g : X → List Y) (xs : List X) → flat_map h (flat_map g xs) ≡ flat_map (λ x. flat_map h (g x)) xs
flat_map-flat_map h g [] = refl
flat_map-flat_map h g (x ∷ xs) = flat_map-append h (g x) (flat_map g xs) ∙ ap (λ rest. flat_map h (g x) ++ rest) (flat_map-flat_map h g xs)

pad_tail : (name word : List ℕ) → name ++ (10 ∷ (word ++ (name ++ 10 ∷ 10 ∷ []))) ≡ ((name ++ []) ++ 10 ∷ []) ++ ((word ++ ((name ++ []) ++ 10 ∷ [])) ++ 10 ∷ [])
pad_tail name word = simp (append_assoc, append-nil)

-- a pad of an input, from the name that was looked up
pub input_text : (packed : PackedCircuit) (net : ℕ) (name : List ℕ) → name ≡ net_name packed.circuit net
    → codes ".input " ++ (name ++ (codes "\npinlist: " ++ (name ++ (10 ∷ 10 ∷ [])))) ≡ text_of (block_lines packed (InputPad net))
input_text packed net name named = grind (arith, pad_tail (net_name packed.circuit net) (codes "pinlist: "))

-- a pad of an output
pub output_text : (packed : PackedCircuit) (net : ℕ) (name : List ℕ) → name ≡ net_name packed.circuit net
    → codes ".output out:" ++ (name ++ (codes "\npinlist: " ++ (name ++ (10 ∷ 10 ∷ [])))) ≡ text_of (block_lines packed (OutputPad net))
output_text packed net name named = grind (arith, pad_tail (net_name packed.circuit net) (codes "pinlist: "))
