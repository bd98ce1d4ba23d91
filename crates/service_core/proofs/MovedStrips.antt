-- A strip that moves keeps its id and its width, and no tenancy changes.
use Rattle.service_core.proofs.Prelude.{◌≡◌, ℕ, List, [], ◌∷◌, map, true, false, eqb, Result, refl, ◌∙◌, arith, option_map, if◌then◌else◌, PlacedStrip, moved_strip, strip_of, Device, OpRefusal, IsMoved, History, IsService, ServiceState, placed_width}

same_id : (id offset : ℕ) (s : PlacedStrip) → (moved_strip id offset s).id ≡ s.id
same_id id offset s = elim (eqb s.id id) as (λ b. (if b then record s { offset = offset } else s).id ≡ s.id) [ true ↦ refl | false ↦ refl ]

pub same_width : (id offset : ℕ) (s : PlacedStrip) → (moved_strip id offset s).width ≡ s.width
same_width id offset s = elim (eqb s.id id) as (λ b. (if b then record s { offset = offset } else s).width ≡ s.width) [ true ↦ refl | false ↦ refl ]

-- the strip with an id after a move is the one before, moved
pub strip_of-moved : (id offset : ℕ) (strips : List PlacedStrip) (k : ℕ) → strip_of (map (moved_strip id offset) strips) k ≡ option_map (moved_strip id offset) (strip_of strips k)
strip_of-moved id offset [] k = refl
strip_of-moved id offset (s ∷ strips) k = grind (arith, strip_of-moved id offset strips k)

pub placed_width-moved : (id offset : ℕ) (strips : List PlacedStrip) (k : ℕ) → placed_width (map (moved_strip id offset) strips) k ≡ placed_width strips k
placed_width-moved id offset strips k = grind (arith, strip_of-moved)

pub IsService-moved : (device : Device) (strips : List PlacedStrip) (hs : List History) (id offset : ℕ) → IsService device strips hs → IsService device (map (moved_strip id offset) strips) hs
IsService-moved device strips hs id offset was = record { linked = λ k. placed_width-moved id offset strips k ∙ was.linked k; few = was.few; ids = was.ids; alone = was.alone }

-- no tenancy changes
pub same_histories : (old : ServiceState) (id offset : ℕ) (answer : Result (Unit {0}) OpRefusal) (new : ServiceState) → IsMoved old id offset answer new → new.histories ≡ old.histories
same_histories old id offset answer new moved = grind arith
