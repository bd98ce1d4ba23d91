use Rattle.desk_replies.proofs.Prelude.{ℕ, ◌≡◌, ◌∙◌, ◌+◌, List, length, map, drop, ap, sym, arith, length-map, AnsweredLine, answered_line, named_act, Act, Wish, wish_from, wish_now}
use Rattle.desk_replies.proofs.WishLemmas.{no_more, wish_next}
use Rattle.desk_replies.proofs.layout_wish.add_acts.Goals as goal

pub loop-place-preserved : goal.loop-place-preserved
loop-place-preserved c =
    let place : ℕ = c.loop-place.place in
    let acts : List (Act (List ℕ)) = map named_act c.args.acts.now in
    let lines : List AnsweredLine = map answered_line c.args.lines.now in
    let next = wish_next c.args.name.now (wish_now c.loop-place.wish) c.args.acts.now c.args.lines.now place c.index-acts-place.result _ (omega arith) (omega arith) c.index-acts-place.is in
    ap (λ (w : Wish). wish_from c.args.name.now w (drop (place + 1) acts) (drop (place + 1) lines)) c.with_act.ensures ∙ (sym next ∙ c.loop-place.invariant)

pub returns : goal.returns
returns c =
    let acts : List (Act (List ℕ)) = map named_act c.args.acts.now in
    let lines : List AnsweredLine = map answered_line c.args.lines.now in
    let long_acts : length acts ≡ length c.args.acts.now = length-map c.args.acts.now named_act in
    let long_lines : length lines ≡ length c.args.lines.now = length-map c.args.lines.now answered_line in
    let none : wish_from c.args.name.now (wish_now c.loop-place.wish) (drop c.loop-place.place acts) (drop c.loop-place.place lines) ≡ wish_now c.loop-place.wish = no_more c.args.name.now (wish_now c.loop-place.wish) acts lines c.loop-place.place (omega arith) in
    sym none ∙ c.loop-place.invariant
