-- What is found of a layout.
use Rattle.layout_files.proofs.Prelude.{◌≡◌, ℕ, List, Result, Ok, refl, subst, sym, LaidBlock, LaidNet, Layout, TextError, Given}

pub given : {T F : Type 0} (result : Result T (TextError F)) (found : T) (holds : T → Type 0) → result ≡ Ok found → holds found → Given result holds
given {T} {F} result found holds e h = subst (λ (r : Result T (TextError F)). Given r holds) (sym e) h

pub same_layout : (layout : Layout) (globals : List ℕ) (blocks : List LaidBlock) (nets : List LaidNet) → globals ≡ layout.globals → blocks ≡ layout.blocks → nets ≡ layout.nets → record { globals = globals; blocks = blocks; nets = nets } ≡ layout
same_layout layout globals blocks nets e f g = rw (e, f, g) refl
