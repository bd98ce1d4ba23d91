use Rattle.operator.proofs.Prelude.{newest_first}
use Rattle.operator.proofs.OperatorLemmas.{AreLastIds-insert, newest_first-push}
use Rattle.operator.proofs.operator.note.Goals as goal

pub returns-clause-names : goal.returns-clause-names
returns-clause-names c = rw (c.push.ensures.items, c.unwrap-2.ensures) (newest_first-push c.args.admitted.now.items c.args.name)

pub returns-clause-last : goal.returns-clause-last
returns-clause-last c =
    let updates = rw c.unwrap.ensures at c.insert.ensures.updates in
    rw (c.push.ensures.items, c.unwrap-2.ensures, newest_first-push)
    (AreLastIds-insert c.args.ids.now.entries c.insert.new.self.entries (newest_first c.args.admitted.now.items) c.args.name c.args.id updates.0 c.requires.next c.requires.last)
