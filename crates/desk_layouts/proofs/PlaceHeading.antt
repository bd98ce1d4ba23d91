-- The second line of a `.place` file.
use Rattle.desk_layouts.proofs.Prelude.{◌≡◌, ◌∙◌, ℕ, suc, ◌+◌, ◌^◌, ◌<◌, ◌==◌, true, not, List, [], ◌∷◌, ◌++◌, length, map, drop, refl, ap, sym, codes, decimal, append_assoc, arith, enumerate_from, list_all, position_or_len, and_from, and_parts, nat_tests, list_all-append, Circuit, Strip, Layout, place_heading, place_parts, IsPlain, is_word_end, place_line, place_text, is_digit, first_line, later_lines, before, digits_told, end_at, size_line, text_of}

-- no byte ends a line
abbrev IsOneLine : List ℕ → Type 0
IsOneLine line = list_all (λ byte. not (byte == 10)) line ≡ true

drop_past : (line rest : List ℕ) → drop (suc (length line)) (line ++ 10 ∷ rest) ≡ rest
drop_past [] rest = refl
drop_past (byte ∷ line) rest = drop_past line rest

-- a line is split off
line_split : (line rest : List ℕ) → IsOneLine line → (first_line (line ++ 10 ∷ rest) ≡ line) × (later_lines (line ++ 10 ∷ rest) ≡ rest)
line_split line rest one =
    let at : position_or_len (λ byte. byte == 10) (line ++ 10 ∷ rest) + 1 ≡ suc (length line) = omega (arith, end_at (λ byte. byte == 10) line (10 ∷ rest) one refl) in (
      before (λ byte. byte == 10) line (10 ∷ rest) one refl,
      ap (λ k. drop k (line ++ 10 ∷ rest)) at ∙ drop_past line rest,
    )

plain_byte : (byte : ℕ) → not (is_word_end byte) ≡ true → not (byte == 10) ≡ true
plain_byte byte h = grind (arith, nat_tests, h)

plain_line : (word : List ℕ) → IsPlain word → IsOneLine word
plain_line [] plain = refl
plain_line (byte ∷ word) plain =
    let parts = and_parts (not (is_word_end byte)) (list_all (λ byte. not (is_word_end byte)) word) plain in
    and_from _ _ (plain_byte byte parts.0) (plain_line word parts.1)

digit_byte : (byte : ℕ) → is_digit byte ≡ true → not (byte == 10) ≡ true
digit_byte byte h = grind (arith, nat_tests, h)

digits_line : (digits : List ℕ) → list_all is_digit digits ≡ true → IsOneLine digits
digits_line [] all = refl
digits_line (byte ∷ digits) all =
    let parts = and_parts (is_digit byte) (list_all is_digit digits) all in
    and_from _ _ (digit_byte byte parts.0) (digits_line digits parts.1)

joined_line : (one other : List ℕ) → IsOneLine one → IsOneLine other → IsOneLine (one ++ other)
joined_line one other e f = list_all-append (λ byte. not (byte == 10)) one other ∙ and_from _ _ e f

regroup : (a m b c w d r e f rest : List ℕ) → (a ++ (m ++ (b ++ (10 ∷ (c ++ (w ++ (d ++ (r ++ (e ++ (10 ∷ f)))))))))) ++ rest ≡ (a ++ (m ++ b)) ++ (10 ∷ ((c ++ (w ++ (d ++ (r ++ e)))) ++ (10 ∷ (f ++ rest))))
regroup a m b c w d r e f rest = simp append_assoc

module _ (circuit : Circuit) (strip : Strip) (layout : Layout) where
  abbrev heading : List ℕ
  heading = codes "Netlist file: " ++ (circuit.model ++ codes ".net Architecture file: device.arch")

  abbrev size : List ℕ
  size = size_line strip.width strip.rows (codes " logic blocks")

  abbrev after : List ℕ
  after = codes "\n#block name x y subblk block number\n#---------- - - ------ ------------\n" ++ text_of (map (λ block. place_line circuit block.0 block.1) (enumerate_from 0 layout.blocks))

  -- its first two lines
  places_are : place_text circuit strip layout ≡ heading ++ (10 ∷ (size ++ (10 ∷ after)))
  places_are =
      sym (place_parts circuit strip layout layout.blocks refl)
      ∙ ap (λ t. t ++ text_of (map (λ block. place_line circuit block.0 block.1) (enumerate_from 0 layout.blocks))) (sym (place_heading circuit strip circuit.model refl))
      ∙ regroup (codes "Netlist file: ") circuit.model (codes ".net Architecture file: device.arch") (codes "Array size: ") (decimal strip.width) (codes " x ") (decimal strip.rows) (codes " logic blocks") (codes "\n#block name x y subblk block number\n#---------- - - ------ ------------\n") (text_of (map (λ block. place_line circuit block.0 block.1) (enumerate_from 0 layout.blocks)))

  heading_line : IsPlain circuit.model → IsOneLine heading
  heading_line plain = joined_line (codes "Netlist file: ") (circuit.model ++ codes ".net Architecture file: device.arch") refl (joined_line circuit.model (codes ".net Architecture file: device.arch") (plain_line circuit.model plain) refl)

  number_line : (n : ℕ) → n < 2 ^ 64 → IsOneLine (decimal n)
  number_line n small = digits_line (decimal n) (digits_told n small).0

  size_is_line : strip.width < 2 ^ 64 → strip.rows < 2 ^ 64 → IsOneLine size
  size_is_line width rows = joined_line (codes "Array size: ") (decimal strip.width ++ (codes " x " ++ (decimal strip.rows ++ codes " logic blocks"))) refl (joined_line (decimal strip.width) (codes " x " ++ (decimal strip.rows ++ codes " logic blocks")) (number_line strip.width width) (joined_line (codes " x ") (decimal strip.rows ++ codes " logic blocks") refl (joined_line (decimal strip.rows) (codes " logic blocks") (number_line strip.rows rows) refl)))

  -- the second one has the size
  pub second_line : IsPlain circuit.model → strip.width < 2 ^ 64 → strip.rows < 2 ^ 64 → (place : List ℕ) → place ≡ place_text circuit strip layout → first_line (later_lines place) ≡ size
  second_line plain width rows place same =
      ap (λ (t : List ℕ). first_line (later_lines t)) (same ∙ places_are)
      ∙ ap first_line (line_split heading (size ++ (10 ∷ after)) (heading_line plain)).1
      ∙ (line_split size after (size_is_line width rows)).0
