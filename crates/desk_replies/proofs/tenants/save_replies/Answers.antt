use Rattle.desk_replies.proofs.Prelude.{◌≡◌, Some, subst, AreAdded, replies_by_number, replies_file}
use Rattle.std.proofs.Common.{slice_get}
use Rattle.desk_replies.proofs.SavedFiles.{added_number, lines_added, of_value}
use Rattle.desk_replies.proofs.tenants.save_replies.Goals as goal

pub loop-number-preserved : goal.loop-number-preserved
loop-number-preserved g c =
    let folder = c.args.folder.now in
    let told = c.args.told.now in
    let replies = c.args.replies.now in
    let number = c.loop-number.number in
    let before = g.O.FileOutputs.written c.loop-number.outputs in
    let after = g.O.FileOutputs.written c.save_name.new.outputs in
    let named = subst (λ names. slice_get names number ≡ Some c.name.result.now) c.names-names.ensures c.name.ensures in
    let saved = of_value c.own_text-own.result (λ text. text.items) _ (λ bytes. AreAdded before after (replies_file folder c.name.result.now bytes)) c.own_text-own.ensures c.in_ok-save_name.ensures in
    added_number (replies_by_number folder told replies) number _ before after c.loop-number.invariant
    (lines_added folder told replies number c.name.result.now c.places_of.result.now before after named c.places_of.ensures saved)
