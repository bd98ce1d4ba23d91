use Rattle.longest_path.proofs.Prelude.{ℕ, ◌≡◌, ◌<◌, List, length, subst, sym, ap, arith, ◌∙◌, All, IfOk, MatchOption-at_some, IsTableWithin, Circuit, Reach, IsEnd, HasLoop, starts_of, IsSettled}
use Rattle.longest_path.proofs.Ending.{ends_within, if_longest, starts_within}
use Rattle.longest_path.proofs.longest.longest_path.Goals as goal

pub longest_ways-requires-clause-starts : goal.longest_ways-requires-clause-starts
longest_ways-requires-clause-starts c =
    subst (λ n. All (λ net. net < n) c.deref.result.now) (sym c.len-nets.ensures)
    (subst (λ (nets : List ℕ). All (λ net. net < length c.args.circuit.now.nets) nets) (sym (c.deref.ensures.value ∙ c.in_ok-starts.ensures)) (starts_within c.args.circuit.now c.requires))

pub longest_in-longest-requires-clause-ends : goal.longest_in-longest-requires-clause-ends
longest_in-longest-requires-clause-ends c =
    let circuit : Circuit = c.args.circuit.now in
    let nets : ℕ = c.len-nets.result in
    let same : nets ≡ length circuit.nets = c.len-nets.ensures in
    let settled : IsSettled nets circuit.tables c.deref.result.now c.in-Some.reach.items =
    MatchOption-at_some (HasLoop circuit.tables) (λ reach. IsSettled nets circuit.tables c.deref.result.now reach.items) c.in-Some.reach c.in-Some.is c.in_ok-found.ensures in
    let long : length circuit.nets ≡ length c.deref-in-Some.result.now = sym (ap length c.deref-in-Some.ensures.value ∙ (settled.long ∙ same)) in
    subst (λ n. All (λ net. net < n) c.deref-in-Some-2.result.now) long
    (subst (λ (nets : List ℕ). All (λ net. net < length circuit.nets) nets) (sym (c.deref-in-Some-2.ensures.value ∙ c.in_ok-ends.ensures)) (ends_within circuit c.requires))

pub longest_in-longest-requires-clause-within : goal.longest_in-longest-requires-clause-within
longest_in-longest-requires-clause-within c =
    let circuit : Circuit = c.args.circuit.now in
    let nets : ℕ = c.len-nets.result in
    let same : nets ≡ length circuit.nets = c.len-nets.ensures in
    let settled : IsSettled nets circuit.tables c.deref.result.now c.in-Some.reach.items =
    MatchOption-at_some (HasLoop circuit.tables) (λ reach. IsSettled nets circuit.tables c.deref.result.now reach.items) c.in-Some.reach c.in-Some.is c.in_ok-found.ensures in
    let long : length circuit.nets ≡ length c.deref-in-Some.result.now = sym (ap length c.deref-in-Some.ensures.value ∙ (settled.long ∙ same)) in
    subst (λ n. All (IsTableWithin n) circuit.tables) long c.requires.tables

pub longest_in-longest-requires-clause-settled : goal.longest_in-longest-requires-clause-settled
longest_in-longest-requires-clause-settled c =
    let circuit : Circuit = c.args.circuit.now in
    let nets : ℕ = c.len-nets.result in
    let settled : IsSettled nets circuit.tables c.deref.result.now c.in-Some.reach.items =
    MatchOption-at_some (HasLoop circuit.tables) (λ reach. IsSettled nets circuit.tables c.deref.result.now reach.items) c.in-Some.reach c.in-Some.is c.in_ok-found.ensures in (
      c.deref.result.now,
      subst (λ (reach : List Reach). IsSettled (length reach) circuit.tables c.deref.result.now reach) (sym c.deref-in-Some.ensures.value)
          (subst (λ n. IsSettled n circuit.tables c.deref.result.now c.in-Some.reach.items) (sym settled.long) settled),
    )

pub returns : goal.returns
returns c =
    let circuit : Circuit = c.args.circuit.now in
    let nets : ℕ = c.len-nets.result in
    let reach : List Reach = c.in-Some.reach.items in
    let none : HasLoop circuit.tables → ⊥ = λ loop. (let yes = c.in_ok-has_loop.ensures.1 loop in let no = c.if-branch.false in grind arith) in
    let settled : IsSettled nets circuit.tables c.deref.result.now reach =
    MatchOption-at_some (HasLoop circuit.tables) (λ reach. IsSettled nets circuit.tables c.deref.result.now reach.items) c.in-Some.reach c.in-Some.is c.in_ok-found.ensures in
    let here : IsSettled nets circuit.tables (starts_of circuit) reach = subst (λ (starts : List ℕ). IsSettled nets circuit.tables starts reach) (c.deref.ensures.value ∙ c.in_ok-starts.ensures) settled in
    if_longest circuit nets reach c.longest_in-longest.result none here
    (subst (λ (ends : List ℕ). IfOk c.longest_in-longest.result (IsEnd circuit.tables reach ends)) (c.deref-in-Some-2.ensures.value ∙ c.in_ok-ends.ensures)
    (subst (λ (r : List Reach). IfOk c.longest_in-longest.result (IsEnd circuit.tables r c.deref-in-Some-2.result.now)) c.deref-in-Some.ensures.value c.longest_in-longest.ensures))
