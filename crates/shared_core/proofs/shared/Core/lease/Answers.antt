use Rattle.shared_core.proofs.Prelude.{rules, arith, ◌≡◌, ◌-◌, true, false, get_or, set, refl, Marked, can_lease, with_lease, is_leased, is_live, with_changed_marks}
use Rattle.shared_core.proofs.Kept.{IsAccount-leased, leasable, lease_is, live_within, core_is, part_left}
use Rattle.shared_core.proofs.Marks.{set-remarked}
use Rattle.shared_core.proofs.shared.Core.lease.Goals as goal

pub overflow_sub-id : goal.overflow_sub-id
overflow_sub-id g c =
    let can : can_lease c.args.self.now c.args.id ≡ true = search rules in
    (live_within c.args.self.now.service.histories c.args.id (leasable c.args.self.now c.args.id can).0).0

pub index_mut-requires : goal.index_mut-requires
index_mut-requires g c =
    let can : can_lease c.args.self.now c.args.id ≡ true = search rules in
    let live : is_live c.self.inside.service.histories c.args.id ≡ true = rw (← c.self.view_is) at (leasable c.args.self.now c.args.id can).0 in
    let there = live_within c.self.inside.service.histories c.args.id live in
    let count = c.self.invariant.placed.count in
    omega (arith, there.0, there.1)

pub split_off-part-requires-clause-has_parts : goal.split_off-part-requires-clause-has_parts
split_off-part-requires-clause-has_parts g c = part_left _ _ _ _ _ _ _ _ c.self.invariant

pub invariant_of-self : goal.invariant_of-self
invariant_of-self g c =
    let can : can_lease c.args.self.now c.args.id ≡ true = search rules in
    let both : (is_live c.self.inside.service.histories c.args.id ≡ true) × (is_leased c.self.inside.marks.items c.args.id ≡ false) = rw (← c.self.view_is) at (leasable c.args.self.now c.args.id can) in
    let there = live_within c.self.inside.service.histories c.args.id both.0 in
    let count = c.self.invariant.placed.count in
    let old : Marked = c.index_mut.result.now in
    let is : old ≡ get_or c.self.inside.marks.items (c.args.id - 1) old = search rules in
    rw (c.give.ensures, set-remarked c.self.inside.marks.items c.args.id old with_lease there.0 (omega arith) is) (IsAccount-leased _ _ _ _ _ _ _ _ _ _ _ c.args.id _ _ both.0 both.1 c.split_off-part.ensures.parts_left c.split_off-part.ensures.amount_left c.self.invariant)

pub returns : goal.returns
returns g c =
    let can : can_lease c.args.self.now c.args.id ≡ true = search rules in
    let both : (is_live c.self.inside.service.histories c.args.id ≡ true) × (is_leased c.self.inside.marks.items c.args.id ≡ false) = rw (← c.self.view_is) at (leasable c.args.self.now c.args.id can) in
    let there = live_within c.self.inside.service.histories c.args.id both.0 in
    let count = c.self.invariant.placed.count in
    let old : Marked = c.index_mut.result.now in
    let is : old ≡ get_or c.self.inside.marks.items (c.args.id - 1) old = search rules in
    let items : set c.self.inside.marks.items (c.args.id - 1) c.give.new.self ≡ with_changed_marks c.self.inside.marks.items c.args.id with_lease = rw c.give.ensures (set-remarked c.self.inside.marks.items c.args.id old with_lease there.0 (omega arith) is) in
    (can, lease_is c.args.id _ _ c.split_off-part.ensures.amount, rw (← c.self.view_is) (core_is _ _ _ _ _ _ _ refl items))
