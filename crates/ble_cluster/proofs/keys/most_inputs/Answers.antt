use Rattle.ble_cluster.proofs.Prelude.{◌<◌, length, arith, below_more}
use Rattle.ble_cluster.proofs.KeyLemmas.{count_is, inputs_few}
use Rattle.ble_cluster.proofs.keys.most_inputs.Goals as goal
use Rattle.ble_cluster.proofs.keys.most_inputs.Goals.{then-most-inputs, else-most-inputs}

pub loop-number-preserved : goal.loop-number-preserved
loop-number-preserved c =
    let i = c.loop-number.invariant in
    let bles = c.args.bles.now in
    let number = c.loop-number.number in
    let small : number < length bles = omega arith in
    let here = count_is bles number _ c.ble.ensures in
    let few = inputs_few bles c.args.count number c.requires.few c.requires.lawful small in
    elim c.if-most-inputs.branch [
      | then-most-inputs w ↦ record {
        most = below_more _ _ (λ other below. omega (arith, i.most other below)) (omega (arith, here));
        few = omega (arith, few, here);
      }
      | else-most-inputs w ↦ record {
        most = below_more _ _ (λ other below. omega (arith, i.most other below)) (omega (arith, here));
        few = omega (arith, i.few);
      }
    ]
