use Rattle.desk_replies.proofs.page_items.write_present.Goals as goal

pub returns-in-Some : goal.returns-in-Some
returns-in-Some g c = rw c.in-Some.is c.write_text.ensures
