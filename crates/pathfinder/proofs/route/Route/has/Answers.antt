use Rattle.pathfinder.proofs.Prelude.{◌≡◌, ◌∙◌, ◌<◌, ◌||◌, [], List, ℕ, get_or, length, sym, ap, subst, true, false, eqb, arith, list_any, take_all, get_or_from_slice_get, Tree, holds}
use Rattle.pathfinder.proofs.Adding.{holds_at, holds_more}
use Rattle.pathfinder.proofs.route.Route.has.Goals as goal

pub returns-then-contains : goal.returns-then-contains
returns-then-contains c =
    let tree = c.args.self.now in
    let number = c.loop-number.number in
    let here : number < length tree = omega (arith, c.loop-number-test.true, c.len-number-end.ensures) in
    let path : get_or tree number [] ≡ c.path.result.now = get_or_from_slice_get tree number c.path.result.now [] c.path.ensures in
    sym (holds_at c.args.node tree number here (subst (λ (nodes : List ℕ). list_any (λ other. eqb other c.args.node) nodes ≡ true) (sym path) (sym c.contains.ensures.value ∙ c.if-contains.true)))

pub loop-number-preserved : goal.loop-number-preserved
loop-number-preserved c =
    let tree = c.args.self.now in
    let number = c.loop-number.number in
    let here : number < length tree = omega (arith, c.loop-number-test.true, c.len-number-end.ensures) in
    let path : get_or tree number [] ≡ c.path.result.now = get_or_from_slice_get tree number c.path.result.now [] c.path.ensures in
    let none : list_any (λ other. eqb other c.args.node) (get_or tree number []) ≡ false = subst (λ (nodes : List ℕ). list_any (λ other. eqb other c.args.node) nodes ≡ false) (sym path) (sym c.contains.ensures.value ∙ c.if-contains.false) in
    holds_more c.args.node tree number here ∙ ap (λ b. b || list_any (λ other. eqb other c.args.node) (get_or tree number [])) c.loop-number.invariant ∙ none

pub returns : goal.returns
returns c =
    let all = take_all c.loop-number.number c.args.self.now (omega (arith, c.loop-number-test.false, c.len-number-end.ensures)) in
    sym c.loop-number.invariant ∙ ap (λ (t : Tree). holds c.args.node t) all
