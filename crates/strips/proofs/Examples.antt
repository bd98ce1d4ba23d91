-- The definitions at small values.
use Rattle.strips.proofs.Prelude.{◌≡◌, [], ◌∷◌, Some, None, true, false, refl, arith, inl, PlacedStrip, Plan, AreApart, is_bad_width, offset_of, with_strip, strips_without}

-- columns 0 to 3
abbrev left : PlacedStrip
left = record { id = 1; offset = 0; width = 4 }

-- columns 5 to 8
abbrev right : PlacedStrip
right = record { id = 2; offset = 5; width = 4 }

-- both on nine columns
abbrev both : Plan
both = record { columns = 9; strips = left ∷ right ∷ [] }

left_and_right : AreApart left right
left_and_right = inl (omega arith)

where_right_stands : offset_of both.strips 2 ≡ Some 5
where_right_stands = refl

no_third : offset_of both.strips 3 ≡ None
no_third = refl

left_alone : strips_without both.strips 2 ≡ left ∷ []
left_alone = refl

right_again : with_strip (record { columns = 9; strips = left ∷ [] }) right ≡ both
right_again = refl

nine_columns : is_bad_width both 9 ≡ false
nine_columns = refl

ten_columns : is_bad_width both 10 ≡ true
ten_columns = refl

no_column : is_bad_width both 0 ≡ true
no_column = refl
