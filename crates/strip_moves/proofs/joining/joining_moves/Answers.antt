use Rattle.strip_moves.proofs.Prelude.{◌≡◌, ap, arith, Plan}
use Rattle.strip_moves.proofs.AcceptedMoves.{same_columns}
use Rattle.strip_moves.proofs.joining.joining_moves.Goals as goal

pub widest_on-widest-requires : goal.widest_on-widest-requires
widest_on-widest-requires c =
    let same : c.moves_on.new.plan.columns ≡ c.in-Some.plan.columns = same_columns _ _ c.in_ok-moves.moves.items c.in_ok-moves.ensures.accepted in
    let columns : c.in-Some.plan.columns ≡ c.args.columns = ap (λ (p : Plan). p.columns) c.in-Some.ensures.strips in
    omega arith
