use Rattle.settling.proofs.Prelude.{rules, ◌≡◌, ◌+◌, length, sym, ap, ◌∙◌, All, CoreState, AreAllThere, IsBorneOut, IsFullIfTold, claims_of}
use Rattle.settling.proofs.Agreeing.{settled}
use Rattle.settling.proofs.AllCalls.{all_calls}
use Rattle.settling.proofs.Totals.{enough}
use Rattle.settling.proofs.settled.settle.Goals as goal

pub close-service-requires-clause-leases : goal.close-service-requires-clause-leases
close-service-requires-clause-leases g c =
    let same : c.no_puts-no_puts.new.self ≡ c.args.core = c.no_puts-no_puts.ensures.same ∙ c.no_commands-nothing.ensures.same in
    let ts : c.deref.result.now ≡ c.args.transcripts.items = c.deref.ensures.value in
    let there : AreAllThere c.args.core c.args.transcripts.items c.len.result = rw ts at c.in_default.ensures.0 in
    rw (same, c.merge_leases-commands.ensures.parts) (enough c.args.transcripts.items c.args.core.marks there.leases)

pub returns-clause-settled : goal.returns-clause-settled
returns-clause-settled g c =
    let core : CoreState = c.args.core in
    let same : c.no_puts-no_puts.new.self ≡ core = c.no_puts-no_puts.ensures.same ∙ c.no_commands-nothing.ensures.same in
    let ts : c.deref.result.now ≡ c.args.transcripts.items = c.deref.ensures.value in
    let many : c.len.result ≡ length c.args.shares.items = search rules in
    let there : AreAllThere core c.args.transcripts.items (length c.args.shares.items) = rw (ts, many) at c.in_default.ensures.0 in
    let good : All (IsBorneOut core) (claims_of c.args.transcripts.items) = rw ts at c.in_default.ensures.1 in
    let full : All (IsFullIfTold core.service) c.args.transcripts.items = rw ts at c.in_default.ensures.2 in
    settled g.C.Begun.begun core c.args.transcripts.items c.args.shares.items
    (rw same at c.close-service.ensures.account)
    there good
    (sym c.merge_leases-commands.ensures.parts ∙ (rw same at c.close-service.ensures.leases))
    (sym c.merge_leases-commands.ensures.amount ∙ (rw same at c.close-service.ensures.commands))
    full
    (ap (λ n. n + core.own_puts) (sym c.merge_shares-puts.ensures.amount) ∙ (rw same at c.close-service.ensures.puts))

pub returns-clause-follows : goal.returns-clause-follows
returns-clause-follows g c =
    let same : c.no_puts-no_puts.new.self ≡ c.args.core = c.no_puts-no_puts.ensures.same ∙ c.no_commands-nothing.ensures.same in
    rw (c.close-service.ensures.service, same) (rw same at c.close-service.ensures.follows)

pub returns-clause-stays : goal.returns-clause-stays
returns-clause-stays g c = λ stay.
    let same : c.no_puts-no_puts.new.self ≡ c.args.core = c.no_puts-no_puts.ensures.same ∙ c.no_commands-nothing.ensures.same in
    rw (c.close-service.ensures.service, same) (rw same at (c.close-service.ensures.stays stay))

pub returns-clause-calls : goal.returns-clause-calls
returns-clause-calls g c = λ stay.
    let same : c.no_puts-no_puts.new.self ≡ c.args.core = c.no_puts-no_puts.ensures.same ∙ c.no_commands-nothing.ensures.same in
    rw (c.close-service.ensures.service, same) (all_calls g.C.Begun.begun c.args.core c.args.transcripts.items c.args.shares.items (returns-clause-settled g c) (rw same at (c.close-service.ensures.reached stay)))
