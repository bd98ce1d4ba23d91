use Rattle.blif.proofs.Prelude.{◌≡◌, ◌<◌, ◌∙◌, ap, sym, map, length, arith, flat_map, nil_from_length, number_of, first_fault, Sights, names_of, sights_of, DrivenNets, final_faults}
use Rattle.blif.proofs.Building.{built_is}
use Rattle.blif.proofs.reader.build.Goals as goal

pub returns-then-len-eq0 : goal.returns-then-len-eq0
unfolding final_faults
returns-then-len-eq0 c =
    let empty : length c.args.lines.now ≡ 0 = omega arith in
    rw c.fault_at.ensures (ap (λ lines. first_fault (final_faults c.args.checker.declared lines)) (nil_from_length c.args.lines.now empty))

pub build_driven-requires : goal.build_driven-requires
unfolding sights_of
build_driven-requires c =
    let same = ap (λ d. let driven : DrivenNets = d in driven.nets) c.in-Ok.ensures in
    record {
      nets = same ∙ ap (λ s. let sights : Sights = s in sights.nets) c.requires.sights;
      numbers = c.requires.numbers ∙ ap (λ nets. map (number_of nets) (flat_map names_of c.args.lines.now)) (sym same);
    }

pub returns-in-Ok : goal.returns-in-Ok
returns-in-Ok c =
    let driven : DrivenNets = c.in-Ok.driven in
    let nets = ap (λ d. let t : DrivenNets = d in t.nets) c.in-Ok.ensures in
    let clocks = ap (λ d. let t : DrivenNets = d in t.clocks) c.in-Ok.ensures in
    let drivers = ap (λ d. let t : DrivenNets = d in t.drivers) c.in-Ok.ensures in
    let some : 0 < length c.args.lines.now = omega arith in
    built_is c.args.checker c.args.lines.now driven.nets driven.clocks driven.drivers c.requires.sights nets clocks drivers some c.build_driven.result c.build_driven.ensures
