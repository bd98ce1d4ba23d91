use Rattle.live_machine.proofs.Prelude.{ℕ, List, refl, sym, subst, AllByRecursion, Item, IsSaidBy, TakesOf, held_of, ServesAll, machine_of, state_with}
use Rattle.backlog.specs.declared.backlog.Turn.{Turn}
use Rattle.backlog.specs.declared.backlog.Turn.TheVariants.{Lost, Nothing}
use Rattle.live_machine.proofs.MachineLemmas.{none_taken, one_item, one_lost, taken_as, taken_said}
use Rattle.live_machine.proofs.machine.Machine.serve_item.Goals as goal

pub serve_lines-requires-clause-said : goal.serve_lines-requires-clause-said
serve_lines-requires-clause-said c =
    let names = c.args.self.now.held in
    let name = c.args.name.now in
    let T : Turn (List (List ℕ)) → Type 0 = λ t. TakesOf (held_of names name) names t c.take.new.self in
    let A : List (List ℕ) → Type 0 = λ ls. AllByRecursion (IsSaidBy name) ls in
    subst A (sym c.as_bytes.ensures.lines) (taken_said (held_of names name) names name c.in-Item.lines c.take.new.self refl (subst T c.in-Item.is c.take.ensures))

pub returns-in-Nothing-clause-serves : goal.returns-in-Nothing-clause-serves
returns-in-Nothing-clause-serves c =
    let names = c.args.self.now.held in
    let held = c.take.new.self in
    let name = c.args.name.now in
    let T : Turn (List (List ℕ)) → Type 0 = λ t. TakesOf (held_of names name) names t held in
    none_taken (held_of names name) (machine_of c.args.self.now) name held refl (taken_as (held_of names name) names name Nothing held refl (subst T c.in-Nothing.is c.take.ensures))

pub returns-in_ok-serve_lines-in-Item-clause-serves : goal.returns-in_ok-serve_lines-in-Item-clause-serves
returns-in_ok-serve_lines-in-Item-clause-serves c =
    let names = c.args.self.now.held in
    let held = c.take.new.self in
    let name = c.args.name.now in
    let T : Turn (List (List ℕ)) → Type 0 = λ t. TakesOf (held_of names name) names t held in
    let P : List (List ℕ) → Type 0 = λ lines. ServesAll name lines (state_with c.args.self.now.server held) (state_with c.serve_lines.new.self held) in
    one_item (held_of names name) _ _ name c.in-Item.lines held refl (taken_as (held_of names name) names name (Item c.in-Item.lines) held refl (subst T c.in-Item.is c.take.ensures)) (subst P c.as_bytes.ensures.lines (c.in_ok-serve_lines-in-Item.ensures.serves held))

pub returns-in_ok-tell_lost-in-Lost-clause-serves : goal.returns-in_ok-tell_lost-in-Lost-clause-serves
returns-in_ok-tell_lost-in-Lost-clause-serves c =
    let names = c.args.self.now.held in
    let held = c.take.new.self in
    let name = c.args.name.now in
    let T : Turn (List (List ℕ)) → Type 0 = λ t. TakesOf (held_of names name) names t held in
    one_lost (held_of names name) _ _ name held refl (taken_as (held_of names name) names name Lost held refl (subst T c.in-Lost.is c.take.ensures)) (c.in_ok-tell_lost-in-Lost.ensures.tells held)
