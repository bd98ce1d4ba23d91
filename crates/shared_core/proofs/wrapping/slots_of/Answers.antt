use Rattle.shared_core.proofs.Prelude.{arith, ◌≡◌, ◌+◌, ℕ, List, length, false, sym, ap, ◌∙◌, refl, replicate, is_some, History, state_of, live_of, AreSlotted, is_live}
use Rattle.shared_core.proofs.Holders.{AreSlotted-none, AreSlotted-same}
use Rattle.shared_core.proofs.Kept.{has_strip, is_some-map, nobody}
use Rattle.shared_core.proofs.Wrapped.{live_upto, slotted_dead, slotted_live, upto_all, upto_none}
use Rattle.shared_core.proofs.wrapping.slots_of.Goals as goal
use Rattle.shared_core.proofs.wrapping.slots_of.Goals.{then-is_some, else-is_some}

pub loop-index-init : goal.loop-index-init
loop-index-init c =
    let hs : List History = c.args.service.now.histories in
    rw c.new-slots.ensures (AreSlotted-same (λ id. false) (live_upto hs 0) (replicate {A = ℕ} 64 0) (λ id. upto_none hs id (nobody hs)) AreSlotted-none, refl)

pub loop-index-preserved : goal.loop-index-preserved
loop-index-preserved c =
    let hs : List History = c.args.service.now.histories in
    let i : ℕ = c.loop-index.index in
    let told : is_live hs (i + 1) ≡ c.is_some.result = sym (is_some-map (λ h. (state_of h).name) (live_of hs (i + 1))) ∙ (ap is_some (sym c.state.ensures.value) ∙ sym c.is_some.ensures) in
    elim c.if-is_some.branch [
      | then-is_some w ↦ rw (w.slots-is, w.hand.ensures) (slotted_live hs c.loop-index.slots.holders c.args.service.now.plan.strips i (λ id live. has_strip c.args.service.now id (c.requires.parted.of_live id) live) c.requires.few (nobody hs) (told ∙ w.if-is_some.true) c.loop-index.invariant.0, c.loop-index.invariant.1)
      | else-is_some w ↦ rw w.slots-is (slotted_dead hs c.loop-index.slots.holders i (told ∙ w.if-is_some.false) c.loop-index.invariant.0, c.loop-index.invariant.1)
    ]

pub returns-clause-slotted : goal.returns-clause-slotted
returns-clause-slotted c =
    let hs : List History = c.args.service.now.histories in
    let ends : c.loop-index.index ≡ length hs = omega (arith, c.loop-index.auto.index-end, c.loop-index-test.false, c.admissions-index-end.ensures.value) in
    let whole : AreSlotted (live_upto hs (length hs)) c.loop-index.slots.holders = rw ends at c.loop-index.invariant.0 in
    AreSlotted-same (live_upto hs (length hs)) (is_live hs) c.loop-index.slots.holders (λ id. upto_all hs id) whole
