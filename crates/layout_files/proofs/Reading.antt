-- Printed lines as they are read, part by part.
use Rattle.layout_files.proofs.Prelude.{◌≡◌, ◌≢◌, ℕ, ◌+◌, ◌<◌, Bool, true, false, not, List, [], ◌∷◌, ◌++◌, length, take, get_or, Some, All, AllPairs, codes, slice_get, refl, sym, ap, ◌∙◌, arith, append_assoc, append-nil, length-take, length-append, bytes_eq, and_from, get_or-take, get_or_default, get_or_past, take_more, flat_map-map, list_all-append, list_any_none, position_or_len_is, get_or_from_slice_get, slice_get_within, bytes_eq-Decides, Circuit, net_name, Place, LaidBlock, laid_name, place_line, number_of, with_name, line_of, IsPlain, is_word_end, HasFileNames, place_lines}
use Rattle.std.proofs.Common.{if◌then◌else◌}
use Rattle.layout_files.proofs.Halfway.{texts_from, texts_numbered}

-- ---- names

pub plain_append : (xs ys : List ℕ) → IsPlain xs → IsPlain ys → IsPlain (xs ++ ys)
plain_append xs ys p q = list_all-append (λ byte. not (is_word_end byte)) xs ys ∙ and_from _ _ p q

pub model_plain : (circuit : Circuit) → HasFileNames circuit → IsPlain (circuit.model ++ codes ".net")
model_plain circuit names = plain_append circuit.model (codes ".net") names.model refl

name_at : (names : List (List ℕ)) (net : ℕ) → All IsPlain names → IsPlain (get_or names net [])
name_at names net all = grind (arith, get_or_past)

pub net_plain : (circuit : Circuit) (net : ℕ) → HasFileNames circuit → IsPlain (net_name circuit net)
net_plain circuit net names = name_at circuit.nets net names.plain

pub laid_plain : (circuit : Circuit) (laid : LaidBlock) → HasFileNames circuit → IsPlain (laid_name circuit laid)
laid_plain circuit laid names = grind (arith, net_plain)

-- the number of a name
pub number_is : (names : List (List ℕ)) (net : ℕ) → AllPairs (λ name other. name ≢ other) names → net < length names → number_of names (get_or names net []) ≡ net
number_is names net once within = grind (arith, position_or_len_is, bytes_eq-Decides, bytes_eq-Decides (get_or names net []) (get_or names net []))

-- one more name is added
pub name_added : (nets : List (List ℕ)) (i : ℕ) (name : List ℕ) → AllPairs (λ name other. name ≢ other) nets → slice_get nets i ≡ Some name → with_name (take i nets) name ≡ take (i + 1) nets
name_added nets i name once at =
    let within = slice_get_within nets i name at in
    let same : get_or nets i name ≡ name = get_or_from_slice_get nets i name name at in
    ap (λ (b : Bool). if b then take i nets else take i nets ++ name ∷ []) (list_any_none (bytes_eq name) (take i nets) (λ k d less. other k d (omega (arith, less, length-take i nets)) (omega (arith, less, length-take i nets))))
    ∙ ap (λ (n : List ℕ). take i nets ++ n ∷ []) (sym same)
    ∙ sym (take_more nets i name within)
  where
    other : (k : ℕ) (d : List ℕ) → k < i → k < length nets → bytes_eq name (get_or (take i nets) k d) ≡ false
    other k d less inside = elim (bytes_eq name (get_or (take i nets) k d)) as (λ b. bytes_eq name (get_or (take i nets) k d) ≡ b → b ≡ false) [
      | true ↦ λ e. absurd (once k i name less (slice_get_within nets i name at) (sym (get_or_default nets k d name inside) ∙ sym (get_or-take i nets k d less) ∙ sym ((bytes_eq-Decides name (get_or (take i nets) k d)).0 e) ∙ sym (get_or_from_slice_get nets i name name at)))
      | false ↦ λ e. refl
    ] refl

-- ---- the `.place` file

pub place_parts : (name space x y s mark n end after : List ℕ)
    → (name ++ (((space ++ x) ++ ((space ++ y) ++ ((space ++ s) ++ ((mark ++ n) ++ [])))) ++ end)) ++ after
    ≡ name ++ (space ++ (x ++ (space ++ (y ++ (space ++ (s ++ (mark ++ (n ++ (end ++ after)))))))))
place_parts name space x y s mark n end after = simp (append_assoc, append-nil)

pub same_place : (place : Place) (x y s : ℕ) → x ≡ place.x → y ≡ place.y → s ≡ place.subblock → record { x = x; y = y; subblock = s } ≡ place
same_place place x y s e f g = rw (e, f, g) refl

pub heading_parts : (a m b w x r d after : List ℕ) → (a ++ (m ++ (b ++ (w ++ (x ++ (r ++ d)))))) ++ after ≡ a ++ (m ++ (b ++ (w ++ (x ++ (r ++ (d ++ after))))))
heading_parts a m b w x r d after = simp append_assoc

pub size_parts : (a w x r rest : List ℕ) → (a ++ (w ++ (x ++ r))) ++ rest ≡ a ++ (w ++ (x ++ (r ++ rest)))
size_parts a w x r rest = simp append_assoc

pub line_some : (words : List (List ℕ)) → 0 < length (line_of words)
line_some words = grind (arith, length-append)

pub place_texts : (circuit : Circuit) (blocks : List LaidBlock) → place_lines circuit blocks ≡ texts_from (λ k laid. line_of (place_line circuit k laid)) 0 blocks ++ []
place_texts circuit blocks = grind (arith, flat_map-map, texts_numbered, append-nil)
