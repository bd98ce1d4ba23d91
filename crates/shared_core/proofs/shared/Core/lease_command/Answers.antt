use Rattle.shared_core.proofs.Prelude.{rules, arith, ◌≡◌, ◌-◌, true, false, get_or, set, refl, AreAlone, live_of, Marked, has_room_in, with_changed_marks, with_place}
use Rattle.shared_core.proofs.Kept.{IsAccount-marked, Unserved, core_is, live_within, room_live, unserved}
use Rattle.shared_core.proofs.Marks.{set-remarked}
use Rattle.shared_core.proofs.shared.Core.lease_command.Goals as goal

pub invariant_of-self : goal.invariant_of-self
invariant_of-self g c =
    let no : has_room_in (live_of c.self.inside.service.histories c.lease.inside.id) ≡ false = search rules in
    let alone : AreAlone c.self.inside.service = search rules in
    let un : Unserved c.self.inside.service c.tenant.new.self c.tenant.result = unserved _ _ c.lease.inside.id c.args.command c.tenant.result alone no c.tenant.ensures in
    rw un.same c.self.invariant

pub returns-then-not-has_room-clause-rest : goal.returns-then-not-has_room-clause-rest
returns-then-not-has_room-clause-rest g c =
    let no : has_room_in (live_of c.self.inside.service.histories c.lease.inside.id) ≡ false = search rules in
    let alone : AreAlone c.self.inside.service = search rules in
    let un : Unserved c.self.inside.service c.tenant.new.self c.tenant.result = unserved _ _ c.lease.inside.id c.args.command c.tenant.result alone no c.tenant.ensures in
    rw (un.is, ← c.self.view_is) (core_is _ _ _ _ _ _ _ un.same refl)

pub returns-then-not-has_room-clause-counted : goal.returns-then-not-has_room-clause-counted
returns-then-not-has_room-clause-counted g c =
    let no : has_room_in (live_of c.self.inside.service.histories c.lease.inside.id) ≡ false = search rules in
    let alone : AreAlone c.self.inside.service = search rules in
    let un : Unserved c.self.inside.service c.tenant.new.self c.tenant.result = unserved _ _ c.lease.inside.id c.args.command c.tenant.result alone no c.tenant.ensures in
    rw un.is refl

pub overflow_sub-id : goal.overflow_sub-id
overflow_sub-id g c =
    let room : has_room_in (live_of c.self.inside.service.histories c.lease.inside.id) ≡ true = search rules in
    (live_within c.self.inside.service.histories c.lease.inside.id (room_live c.self.inside.service.histories c.lease.inside.id room)).0

pub index_mut-requires : goal.index_mut-requires
index_mut-requires g c =
    let room : has_room_in (live_of c.self.inside.service.histories c.lease.inside.id) ≡ true = search rules in
    let there = live_within c.self.inside.service.histories c.lease.inside.id (room_live c.self.inside.service.histories c.lease.inside.id room) in
    let count = c.self.invariant.placed.count in
    omega (arith, there.0, there.1)

pub invariant_of-self-2 : goal.invariant_of-self-2
invariant_of-self-2 g c =
    let room : has_room_in (live_of c.self.inside.service.histories c.lease.inside.id) ≡ true = search rules in
    let live = room_live c.self.inside.service.histories c.lease.inside.id room in
    let there = live_within c.self.inside.service.histories c.lease.inside.id live in
    let count = c.self.invariant.placed.count in
    let old : Marked = c.index_mut.result.now in
    let is : old ≡ get_or c.self.inside.marks.items (c.lease.inside.id - 1) old = search rules in
    rw (c.in_ok-receipt.ensures.marked, set-remarked c.self.inside.marks.items c.lease.inside.id old (with_place c.in_ok-receipt.receipt.place) there.0 (omega arith) is) (IsAccount-marked _ _ _ _ c.lease.inside.id c.args.command c.in_ok-receipt.receipt _ _ _ _ _ _ c.in_ok-receipt.ensures.served live c.add.ensures.total c.self.invariant)

pub returns-clause-rest : goal.returns-clause-rest
returns-clause-rest g c =
    let room : has_room_in (live_of c.self.inside.service.histories c.lease.inside.id) ≡ true = search rules in
    let there = live_within c.self.inside.service.histories c.lease.inside.id (room_live c.self.inside.service.histories c.lease.inside.id room) in
    let count = c.self.invariant.placed.count in
    let old : Marked = c.index_mut.result.now in
    let is : old ≡ get_or c.self.inside.marks.items (c.lease.inside.id - 1) old = search rules in
    let items : set c.self.inside.marks.items (c.lease.inside.id - 1) c.serve.new.self ≡ with_changed_marks c.self.inside.marks.items c.lease.inside.id (with_place c.in_ok-receipt.receipt.place) = rw c.in_ok-receipt.ensures.marked (set-remarked c.self.inside.marks.items c.lease.inside.id old (with_place c.in_ok-receipt.receipt.place) there.0 (omega arith) is) in
    rw (← c.self.view_is, ← c.lease.view_is) (core_is _ _ _ _ _ _ _ refl items)
