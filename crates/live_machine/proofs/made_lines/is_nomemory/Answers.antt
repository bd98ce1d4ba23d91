use Rattle.live_machine.proofs.Prelude.{◌≡◌, [], ◌∷◌, ◌++◌, codes, sym, ◌∙◌, rules}
use Rattle.live_machine.proofs.MadeLemmas.{nomemory_is}
use Rattle.live_machine.proofs.made_lines.is_nomemory.Goals as goal

pub returns : goal.returns
returns c = λ name is.
    let same : c.args.reply.now ≡ codes "op lines 1" ++ 10 ∷ (codes "op nomemory" ++ 10 ∷ []) = search (rules, is) in
    same ∙ sym (nomemory_is name)
