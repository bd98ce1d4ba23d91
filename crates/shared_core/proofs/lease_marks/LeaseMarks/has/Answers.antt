use Rattle.shared_core.proofs.Prelude.{rules, ◌≡◌, ◌∙◌}
use Rattle.shared_core.proofs.Searching.{found}
use Rattle.shared_core.proofs.lease_marks.LeaseMarks.has.Goals as goal

pub returns : goal.returns
returns c =
    let same : c.deref.result.now ≡ c.args.self.now.places = search rules in
    c.is_ok.ensures.value ∙ found c.args.self.now.places c.args.place c.binary_search.result c.requires (rw same at c.binary_search.ensures.position)
