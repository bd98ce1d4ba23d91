-- Private: the layout that is kept for later graphs.
use Rattle.std.specs.Prelude.{◌≡◌, Option, Some, None}
use Rattle.fabric_planes.specs.Prelude.{Basis}
use Rattle.fabric_planes.specs.declared.made_layout.MadeLayout.{MadeLayout}

-- a layout is kept, and it was made for this architecture and strip
abbrev pub IsKeptFor : Basis → Option MadeLayout → Type 0
IsKeptFor basis None = ⊥
IsKeptFor basis (Some made) = basis ≡ record { arch = made.arch; strip = made.strip }
