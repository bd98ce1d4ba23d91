use Rattle.printed_replies.proofs.Prelude.{rules, ◌<◌, length}
use Rattle.printed_replies.proofs.SectionLemmas.{place_added}
use Rattle.printed_replies.proofs.sections.add_place.Goals as goal

pub returns-in_ok-push : goal.returns-in_ok-push
returns-in_ok-push c =
    let within : c.args.number < length c.args.lists.now.items = search rules in
    place_added c.args.lists.now.items (λ list. list.items) c.args.number c.args.place c.index_mut.result.now c.push.new.self within c.index_mut.ensures.value c.in_ok-push.ensures.items
