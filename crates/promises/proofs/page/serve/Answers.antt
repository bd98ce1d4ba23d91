use Rattle.promises.proofs.page.serve.Goals as goal

pub returns-clause-ends : goal.returns-clause-ends
returns-clause-ends g c =
    (λ none. let in_order = c.run.ensures.in_order none in (in_order.0, in_order.1), λ some. (c.run.ensures.on_threads some).0)

pub returns-clause-written : goal.returns-clause-written
returns-clause-written g c = λ none. (c.run.ensures.in_order none).2

pub returns-clause-alone : goal.returns-clause-alone
returns-clause-alone g c = c.headline.ensures.alone

pub returns-clause-journals : goal.returns-clause-journals
returns-clause-journals g c = c.headline.ensures.journals

pub returns-clause-parted : goal.returns-clause-parted
returns-clause-parted g c = c.headline.ensures.parted

pub returns-clause-book : goal.returns-clause-book
returns-clause-book g c = c.headline.ensures.book

pub returns-clause-one_owner : goal.returns-clause-one_owner
returns-clause-one_owner g c = c.headline.ensures.exact

pub returns-clause-untouched : goal.returns-clause-untouched
returns-clause-untouched g c = c.no_switch_joins.ensures

pub returns-clause-as_one_run : goal.returns-clause-as_one_run
returns-clause-as_one_run g c = c.one_run.ensures

pub returns-clause-same_with_workers : goal.returns-clause-same_with_workers
returns-clause-same_with_workers g c = c.same_with_workers.ensures
