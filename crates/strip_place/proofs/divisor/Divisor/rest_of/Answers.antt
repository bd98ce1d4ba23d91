use Rattle.strip_place.proofs.Prelude.{◌≡◌, ◌+◌, ◌*◌, ◌/◌, ◌<◌, ◌≤◌, ℕ, arith, sym, subst, div-mul-le_self, lt-div-mul-add}
use Rattle.strip_place.proofs.Remainders.{is_rest, is_rest_past, not_above, not_far_below}
use Rattle.strip_place.proofs.divisor.Divisor.rest_of.Goals as goal

pub overflow_sub-rest : goal.overflow_sub-rest
overflow_sub-rest c =
    let by : ℕ = c.self.inside.by in
    let inverse : ℕ = c.self.inside.inverse in
    let some : 0 < by = subst (λ n. 0 < n) (sym c.self.view_is) c.requires in
    let few : inverse * by ≤ 4294967296 = subst (λ n. n * by ≤ 4294967296) (sym (c.self.invariant some)) (div-mul-le_self 4294967296 by) in
    rw (c.from.ensures, c.from-2.ensures, c.from-3.ensures) (not_above 4294967296 c.args.word by inverse (omega arith) few)

pub returns-then-rest-from : goal.returns-then-rest-from
returns-then-rest-from c =
    let by : ℕ = c.self.inside.by in
    let inverse : ℕ = c.self.inside.inverse in
    let some : 0 < by = subst (λ n. 0 < n) (sym c.self.view_is) c.requires in
    let few : inverse * by ≤ 4294967296 = subst (λ n. n * by ≤ 4294967296) (sym (c.self.invariant some)) (div-mul-le_self 4294967296 by) in
    let within = not_above 4294967296 c.args.word by inverse (omega arith) few in
    let small = rw (c.from.ensures, c.from-2.ensures, c.from-3.ensures, c.from-4.ensures) at c.if-rest-from.true in
    rw (c.from.ensures, c.from-2.ensures, c.from-3.ensures, ← c.self.view_is) (is_rest c.args.word by (c.args.word * inverse / 4294967296) within small)

pub returns-else-rest-from : goal.returns-else-rest-from
returns-else-rest-from c =
    let by : ℕ = c.self.inside.by in
    let inverse : ℕ = c.self.inside.inverse in
    let some : 0 < by = subst (λ n. 0 < n) (sym c.self.view_is) c.requires in
    let is : inverse ≡ 4294967296 / by = c.self.invariant some in
    let near : 4294967296 < inverse * by + by = subst (λ n. 4294967296 < n * by + by) (sym is) (lt-div-mul-add some) in
    let below = not_far_below 4294967296 c.args.word by inverse some c.ranges.word.fits near in
    let past = rw (c.from.ensures, c.from-2.ensures, c.from-3.ensures, c.from-4.ensures) at c.if-rest-from.false in
    rw (c.from.ensures, c.from-2.ensures, c.from-3.ensures, c.from-else-rest-from.ensures, ← c.self.view_is) (is_rest_past c.args.word by (c.args.word * inverse / 4294967296) some past below)
