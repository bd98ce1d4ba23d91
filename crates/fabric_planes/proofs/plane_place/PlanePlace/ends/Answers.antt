use Rattle.fabric_planes.proofs.plane_place.PlanePlace.ends.Goals as goal

pub returns-then-far-ne0-clause-value : goal.returns-then-far-ne0-clause-value
returns-then-far-ne0-clause-value g c = c.far_ends.ensures.value

pub returns-then-far-ne0-clause-rising : goal.returns-then-far-ne0-clause-rising
returns-then-far-ne0-clause-rising g c = c.far_ends.ensures.rising

pub returns-clause-value : goal.returns-clause-value
returns-clause-value g c = c.near_ends.ensures.value

pub returns-clause-rising : goal.returns-clause-rising
returns-clause-rising g c = c.near_ends.ensures.rising

pub far_ends-requires : goal.far_ends-requires
far_ends-requires g c = record { far = c.if-far-ne0.true }
