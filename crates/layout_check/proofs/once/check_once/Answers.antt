use Rattle.layout_check.proofs.Prelude.{◌∙◌, arith, sym}
use Rattle.layout_check.proofs.HeldOnce.{once_told, places_all, places_more, places_same, twice_found}
use Rattle.layout_check.proofs.once.check_once.Goals as goal
use Rattle.layout_check.proofs.once.check_once.Goals.{in-Some+in_default-index, in_default}

pub returns-in-Some-index : goal.returns-in-Some-index
returns-in-Some-index c =
    let within = c.requires c.loop-place.place _ (omega arith) c.in-Some.number c.in-Some.is in
    let long = c.loop-place.invariant.long in
    twice_found c.args.numbers.now c.args.count c.loop-place.place c.loop-place.places.items c.in-Some.number c.in-Some-index.earlier _ _ c.loop-place.invariant (omega arith) c.in-Some.is (omega (arith, within, long))
    (sym c.index.ensures ∙ c.in-Some-index.is)

pub loop-place-preserved : goal.loop-place-preserved
loop-place-preserved c =
    let n = c.loop-place.place in
    let long = c.loop-place.invariant.long in
    elim c.match-numbers-place.branch [
      | in-Some+in_default-index w ↦
          (let within = c.requires n _ (omega arith) w.in-Some.number w.in-Some.is in
          rw w.places-is (places_more c.args.numbers.now c.args.count n c.loop-place.places.items w.in-Some.number _ _ (omega arith) w.in-Some.is (omega (arith, within, long)) (sym w.index.ensures ∙ w.in_default-index.is) c.loop-place.invariant))
      | in_default w ↦ rw w.places-is (places_same c.args.numbers.now c.args.count n c.loop-place.places.items _ (omega arith) w.in_default.is c.loop-place.invariant)
    ]

pub returns : goal.returns
returns c =
    once_told c.args.numbers.now c.loop-place.places.items c.as_slice.result.now c.args.count c.as_slice.ensures.value c.loop-place.invariant.long
    (places_all c.args.numbers.now c.args.count c.loop-place.place c.loop-place.places.items (omega arith) c.loop-place.invariant) c.in-None.ensures
