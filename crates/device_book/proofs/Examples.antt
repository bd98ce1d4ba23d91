-- The definitions at small values.
use Rattle.device_book.proofs.Prelude.{◌≡◌, [], ◌∷◌, None, refl, false, true, Opin, Pad, Resource, Extent, has, column_size, in_book, no_owners, number_of, owner_of, size_of}

-- one column, one row, numbers 0 to 3
abbrev small : Extent
small = record { columns = 1; rows = 1; numbers = 4 }

-- the output pin of number 2 of its block, and the first pad above it
abbrev pin : Resource
pin = record { x = 1; kind = Opin; y = 1; n = 2 }

abbrev pad : Resource
pad = record { x = 1; kind = Pad; y = 2; n = 0 }

places : size_of small ≡ 120
places = refl

places_of_a_column : column_size small ≡ 60
places_of_a_column = refl

where_the_pin_stands : number_of small pin ≡ 66
where_the_pin_stands = refl

where_the_pad_stands : number_of small pad ≡ 116
where_the_pad_stands = refl

not_there : in_book small (record pin { x = 2 }) ≡ false
not_there = refl

nobodys : owner_of (no_owners small) pin ≡ None
nobodys = refl

among_both : has (pin ∷ pad ∷ []) pad ≡ true
among_both = refl
