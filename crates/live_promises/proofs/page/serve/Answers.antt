use Rattle.live_promises.proofs.page.serve.Goals as goal

pub returns-clause-one_day : goal.returns-clause-one_day
returns-clause-one_day g c = λ begun first calls now run.
    let a = c.machine_law.ensures.account begun first calls now run in
    record { account = a; answered = c.machine_law.ensures.answered begun first calls now a }

pub returns-clause-tenancies : goal.returns-clause-tenancies
returns-clause-tenancies g c = λ begun first calls now run name h held some. c.machine_law.ensures.tenancy begun first calls now name h run held some

pub returns-clause-moments : goal.returns-clause-moments
returns-clause-moments g c = λ begun first calls now run events n cut. c.moments_promises.ensures begun first calls now events n run cut
