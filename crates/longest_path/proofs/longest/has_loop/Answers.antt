use Rattle.longest_path.proofs.Prelude.{ℕ, ◌≡◌, ◌∙◌, ◌<◌, List, length, get_or, ap, subst, sym, arith, All, All-from_get_or, MatchOption-at_some, IsTableWithin, HasLoop, IsSettled}
use Rattle.longest_path.proofs.Ending.{no_loop}
use Rattle.longest_path.proofs.longest.has_loop.Goals as goal

pub longest_ways-requires-clause-starts : goal.longest_ways-requires-clause-starts
longest_ways-requires-clause-starts c =
    let count : length c.loop-net.starts.items ≡ c.loop-net.net = c.loop-net.invariant.count in
    let all : c.loop-net.net ≡ c.len-nets.result = omega arith in
    subst (λ (nets : List ℕ). All (λ net. net < c.len-nets.result) nets) (sym c.deref.ensures.value)
    (All-from_get_or (λ net. net < c.len-nets.result) c.loop-net.starts.items 0
    (λ k within. (let e : get_or c.loop-net.starts.items k 0 ≡ k = c.loop-net.invariant.each k (omega arith) in omega arith)))

pub returns-in-Some : goal.returns-in-Some
returns-in-Some c =
    let nets : ℕ = c.len-nets.result in
    let starts : List ℕ = c.deref.result.now in
    let count : length c.loop-net.starts.items ≡ c.loop-net.net = c.loop-net.invariant.count in
    let all : c.loop-net.net ≡ nets = omega arith in
    let same : nets ≡ length c.args.circuit.now.nets = c.len-nets.ensures in
    let settled : IsSettled nets c.args.circuit.now.tables starts c.in-Some.reach.items =
    MatchOption-at_some (HasLoop c.args.circuit.now.tables) (λ reach. IsSettled nets c.args.circuit.now.tables starts reach.items) c.in-Some.reach c.in-Some.is c.in_ok-found.ensures in (
      λ h. absurd (grind arith),
      λ loop. absurd (no_loop nets c.args.circuit.now.tables starts c.in-Some.reach.items
          (subst (λ n. All (IsTableWithin n) c.args.circuit.now.tables) (sym same) c.requires.tables)
          (ap length c.deref.ensures.value ∙ (count ∙ all))
          (λ k within. subst (λ (nets : List ℕ). get_or nets k 0 ≡ k) (sym c.deref.ensures.value) (c.loop-net.invariant.each k (omega arith)))
          settled loop),
    )
