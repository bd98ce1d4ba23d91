use Rattle.ble_cluster.proofs.Prelude.{length, subst, arith, AreAbove}
use Rattle.ble_cluster.proofs.Untouched.{passed_over}
use Rattle.ble_cluster.proofs.candidates.Candidates.first_fitting.Goals as goal

pub fitting_from-requires : goal.fitting_from-requires
fitting_from-requires c =
    let first = c.in-Some.ensures.first in
    record {
      end = c.len-count.ensures.count;
      before = passed_over c.args.self.now.arch.now c.args.self.now.elements.now c.args.self.now.growth.now c.args.self.now.is_taken.now c.args.by_outside.now.keys.items c.args.self.now.pins c.in-Some.start c.args.self.now.all_pins c.args.self.now.under_way c.len-count.ensures.all c.requires.by_outside.counts c.requires.alone
          (subst (λ bound. AreAbove c.args.self.now.is_taken.now c.args.by_outside.now.keys.items bound c.in-Some.start) c.saturating_sub-room.ensures first.least)
          (omega (arith, first.small, c.requires.by_outside.counts.count));
    }

pub returns-in-None-clause-first : goal.returns-in-None-clause-first
returns-in-None-clause-first c = λ other small.
    passed_over c.args.self.now.arch.now c.args.self.now.elements.now c.args.self.now.growth.now c.args.self.now.is_taken.now c.args.by_outside.now.keys.items c.args.self.now.pins (length c.args.by_outside.now.keys.items) c.args.self.now.all_pins c.args.self.now.under_way c.len-count.ensures.all c.requires.by_outside.counts c.requires.alone
    (subst (λ bound. AreAbove c.args.self.now.is_taken.now c.args.by_outside.now.keys.items bound (length c.args.by_outside.now.keys.items)) c.saturating_sub-room.ensures c.in-None.ensures.first)
    (omega (arith, c.requires.by_outside.counts.count)) other (omega (arith, small, c.requires.by_outside.counts.count))
