use Rattle.strip_moves.proofs.Prelude.{◌∙◌, get_or, refl, sym, subst, true≢false, IsLaidOut-with, HasRoomFor, IsLaidOut, Plan, PlacedStrip}
use Rattle.strip_moves.proofs.Rooms.{has_room_at, plan_more}
use Rattle.strip_moves.proofs.joining.plan_of.Goals as goal

pub loop-place-preserved : goal.loop-place-preserved
loop-place-preserved c =
    let room = c.if-not-has_room.ensures.0 refl in (
      plan_more c.args.columns c.loop-place.place c.args.strips.now c.loop-place.plan c.place.new.self _ c.loop-place-test.true c.loop-place.invariant.0 c.place.ensures,
      subst IsLaidOut (sym c.place.ensures) (IsLaidOut-with c.loop-place.plan _ c.loop-place.invariant.1 room.few room.fits room.new),
    )

pub returns-then-not-has_room-clause-laid_out : goal.returns-then-not-has_room-clause-laid_out
returns-then-not-has_room-clause-laid_out c laid =
    let strip : PlacedStrip = get_or c.args.strips.now c.loop-place.place (record { id = 0; offset = 0; width = 0 }) in
    let room : HasRoomFor _ strip = has_room_at c.args.columns c.loop-place.place c.args.strips.now (record { id = 0; offset = 0; width = 0 }) c.loop-place-test.true laid in
    true≢false (sym (c.has_room.ensures.1 (subst (λ (p : Plan). HasRoomFor p strip) (sym c.loop-place.invariant.0) room)) ∙ c.if-not-has_room.true)
