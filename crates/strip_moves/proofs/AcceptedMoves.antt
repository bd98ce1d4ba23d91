-- Moves that are accepted one after another.
use Rattle.strip_moves.proofs.Prelude.{◌≡◌, ◌∙◌, List, [], ◌∷◌, ◌++◌, sym, ap, subst, IsParted, Plan, with_moved, StripMove, AreAccepted, IsMoved}

-- one more move
pub accepted_push : (old plan new : Plan) (moves : List StripMove) (move : StripMove) → AreAccepted old moves plan → IsMoved plan new move → AreAccepted old (moves ++ move ∷ []) new
accepted_push old plan new [] move same moved = (subst (λ (p : Plan). IsParted (with_moved p move.id move.offset)) (sym same) moved.0, ap (λ (p : Plan). with_moved p move.id move.offset) same ∙ sym moved.1)
accepted_push old plan new (first ∷ moves) move accepted moved = (accepted.0, accepted_push (with_moved old first.id first.offset) plan new moves move accepted.1 moved)

-- the device keeps its columns
pub same_columns : (old new : Plan) (moves : List StripMove) → AreAccepted old moves new → new.columns ≡ old.columns
same_columns old new [] same = ap (λ (p : Plan). p.columns) (sym same)
same_columns old new (first ∷ moves) accepted = same_columns (with_moved old first.id first.offset) new moves accepted.1
