-- Pieces of lines, computed by the checker.
use Rattle.std.proofs.Common.{◌≡◌, true, false, [], ◌∷◌, refl, codes}
use Rattle.line_feed.specs.Pieces.{is_one_line, kept_of}

-- CR, NUL and bytes that are not ASCII do not end a line
any_byte : is_one_line (0 ∷ 13 ∷ 200 ∷ 255 ∷ []) ≡ true
any_byte = refl

lf_ends : is_one_line (codes "a\nb") ≡ false
lf_ends = refl

-- a short line is kept whole
short : kept_of (codes "op list") ≡ codes "op list"
unfolding kept_of
short = refl
