-- Examples of pin files.
use Rattle.pin_file.proofs.Prelude.{◌≡◌, [], ◌∷◌, codes, Ok, Err, refl, place_at, lines_of, NotAscii, pins_after, pins_in, Text, NotAPin}

-- two pins, a comment and an empty line
two : pins_in (codes "op[0] 3 0 1 # left\n\ncarry 4 07 0\n") ≡ Ok (record { line = 1; name = codes "op[0]"; place = place_at 3 0 1 } ∷ record { line = 3; name = codes "carry"; place = place_at 4 7 0 } ∷ [])
unfolding lines_of pins_after
two = refl

-- no pins
none : pins_in (codes "# none\n") ≡ Ok []
unfolding lines_of pins_after
none = refl

-- a number is missing, is not a number, or follows in excess
short : pins_in (codes "a 1 0 0\nb 1 0\n") ≡ Err (NotAPin 2)
unfolding lines_of pins_after
short = refl

sign : pins_in (codes "a 1 -1 0") ≡ Err (NotAPin 1)
unfolding lines_of pins_after
sign = refl

long : pins_in (codes "a 1 0 0 0\nb") ≡ Err (NotAPin 1)
unfolding lines_of pins_after
long = refl

-- a text that can't be split into lines
bytes : pins_in (codes "a\n\nb \u{1}") ≡ Err (Text (NotAscii 3))
unfolding lines_of pins_after
bytes = refl
