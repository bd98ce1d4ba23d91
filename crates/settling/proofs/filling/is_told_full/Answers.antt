use Rattle.settling.proofs.Prelude.{rules, ◌≡◌, ◌<◌, ℕ, List, length, get_or, subst, take, take-length, All-more, TellsFull, Item}
use Rattle.settling.proofs.filling.is_told_full.Goals as goal

pub loop-i-preserved : goal.loop-i-preserved
loop-i-preserved c =
    let items : List Item = c.args.items.now in
    let i : ℕ = c.loop-i.i in
    let item : Item = c.index-items-i.result in
    let within : i < length items = search rules in
    let is : item ≡ get_or items i item = search rules in
    let none : TellsFull item → ⊥ = rw c.if-tells_full.false at c.tells_full.ensures in
    All-more (λ (x : Item). TellsFull x → ⊥) items i item within c.loop-i.invariant (subst (λ (x : Item). TellsFull x → ⊥) is none)

pub returns : goal.returns
returns c =
    let items : List Item = c.args.items.now in
    let ends : c.loop-i.i ≡ length items = search rules in
    let whole : take c.loop-i.i items ≡ items = rw ends (take-length items) in
    rw whole at c.loop-i.invariant
