use Rattle.blif.proofs.Prelude.{◌<◌, ◌≤◌, [], length, take, sym, refl, ap, ◌∙◌, arith, take_all, drop_all, JoinedLine, flat_map, numbers_of, first_fault, names_of, sights_of, line_faults}
use Rattle.blif.proofs.Sightings.{sights_at, numbers_so_far, fault_at, no_fault_at}
use Rattle.blif.proofs.reader.check_each.Goals as goal

pub returns-in-Some : goal.returns-in-Some
returns-in-Some c =
    let line : JoinedLine = c.line-line.result in
    rw (c.fault_at.ensures, c.number.ensures)
    (fault_at c.args.lut_size c.args.checker.now.declared c.args.lines.now c.loop-place.place line c.loop-place.checker (omega arith) c.line-line.ensures c.loop-place.invariant.sights c.in-Some.kind (sym c.in-Some.is ∙ c.in_ok-kind.ensures.least) c.loop-place.invariant.faults_left)

pub loop-place-preserved : goal.loop-place-preserved
loop-place-preserved c =
    let line : JoinedLine = c.line-line.result in
    let within : c.loop-place.place < length c.args.lines.now = omega arith in
    record {
      sights = sights_at c.args.lut_size c.args.checker.now.declared c.args.lines.now c.loop-place.place line c.loop-place.checker within c.line-line.ensures c.loop-place.invariant.sights c.check.new.self (rw c.in_default.is at c.in_ok-kind.ensures.sights);
      numbers = numbers_so_far c.args.lut_size c.args.checker.now.declared c.args.lines.now c.loop-place.place line c.loop-place.checker within c.line-line.ensures c.loop-place.invariant.sights c.loop-place.numbers c.check.new.numbers c.loop-place.invariant.numbers (rw c.in_default.is at c.in_ok-kind.ensures.numbers);
      few = rw c.in_default.is at c.in_ok-kind.ensures.few;
      faults_left = no_fault_at c.args.lut_size c.args.checker.now.declared c.args.lines.now c.loop-place.place line c.loop-place.checker within c.line-line.ensures c.loop-place.invariant.sights (sym c.in_default.is ∙ c.in_ok-kind.ensures.least) c.loop-place.invariant.faults_left;
    }

pub loop-place-init : goal.loop-place-init
unfolding sights_of
loop-place-init c = record {
  sights = c.requires.begun;
  few = rw c.requires.begun (omega arith);
  numbers = c.requires.numbers;
  faults_left = refl;
}

pub returns : goal.returns
unfolding line_faults
returns c =
    let past : length c.args.lines.now ≤ c.loop-place.place = omega arith in (
      sym c.loop-place.invariant.faults_left
          ∙ ap (λ rest. first_fault (line_faults c.args.lut_size c.args.checker.now.declared (take c.loop-place.place c.args.lines.now) rest)) (drop_all c.loop-place.place c.args.lines.now past),
      c.loop-place.invariant.sights ∙ ap (sights_of c.args.checker.now.declared) (take_all c.loop-place.place c.args.lines.now past),
      c.loop-place.invariant.few,
      c.loop-place.invariant.numbers ∙ ap (λ ls. numbers_of [] (flat_map names_of ls)) (take_all c.loop-place.place c.args.lines.now past),
    )
