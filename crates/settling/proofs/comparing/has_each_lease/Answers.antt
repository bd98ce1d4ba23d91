use Rattle.settling.proofs.Prelude.{arith, ◌≡◌, ◌<◌, ◌≤◌, length, true, false, refl, ap, nat_lt, nat_tests, given_in, is_leased, marked_of-past, marked_of-zero, has_id}
use Rattle.settling.proofs.comparing.has_each_lease.Goals as goal

pub loop-index-init : goal.loop-index-init
loop-index-init g c = λ id few leased.
    let zero_is : id ≡ 0 = omega (arith, few) in
    let never : is_leased c.args.core.now.marks 0 ≡ true = rw zero_is at leased in
    let no : is_leased c.args.core.now.marks 0 ≡ false = ap given_in (marked_of-zero c.args.core.now.marks) in
    absurd (cc)

pub returns : goal.returns
returns g c = λ id leased.
    elim (nat_lt c.admissions-index-end.result id) as (λ b. nat_lt c.admissions-index-end.result id ≡ b → has_id c.args.transcripts.now id ≡ true) [
      | true ↦ λ e.
          let count = c.admissions-index-end.ensures.marks in
          let past : length c.args.core.now.marks < id = grind (arith, nat_tests) in
          let no : is_leased c.args.core.now.marks id ≡ false = ap given_in (marked_of-past c.args.core.now.marks id past) in
          absurd (cc)
      | false ↦ λ e.
          let ends : c.admissions-index-end.result ≤ c.loop-index.index = c.loop-index-test.false in
          let few : id ≤ c.loop-index.index = grind (arith, nat_tests) in
          c.loop-index.invariant id few leased
    ] refl
