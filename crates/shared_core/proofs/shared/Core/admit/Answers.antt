use Rattle.shared_core.proofs.Prelude.{rules, refl, ◌≡◌, ◌++◌, ◌∷◌, [], no_marks}
use Rattle.shared_core.proofs.Kept.{IsAccount-admitted}
use Rattle.shared_core.proofs.shared.Core.admit.Goals as goal

pub returns-in-Err-clause-admitted : goal.returns-in-Err-clause-admitted
returns-in-Err-clause-admitted g c = rw (← c.self.view_is) (c.in-Err.ensures.admits, refl)

pub returns-then-is_err-clause-admitted : goal.returns-then-is_err-clause-admitted
returns-then-is_err-clause-admitted g c = rw (← c.self.view_is) ((c.in_default.ensures.admits.0, (c.in_default.field-0, c.in_default.ensures.admits.1)), refl)

pub invariant_of-self-2 : goal.invariant_of-self-2
invariant_of-self-2 g c =
    let items : c.push.new.self.items ≡ c.self.inside.marks.items ++ no_marks ∷ [] = search rules in
    rw (c.hand.ensures, items) (IsAccount-admitted _ _ _ _ c.args.width (c.in_ok-id.id, c.in_ok-id.offset) _ _ _ _ _ c.requires c.in_ok-id.ensures c.room_for.ensures.parted c.self.invariant)

pub returns-clause-admitted : goal.returns-clause-admitted
returns-clause-admitted g c = rw (← c.self.view_is) c.in_ok-id.ensures
