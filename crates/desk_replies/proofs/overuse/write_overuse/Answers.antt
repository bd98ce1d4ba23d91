use Rattle.desk_replies.proofs.Prelude.{◌≡◌, [], Ok, inl, inr, refl, true, false, all_none, writes_then, wish_now, IsCrowded, changed_text}
use Rattle.desk_replies.proofs.OveruseLemmas.{overuse_so}
use Rattle.desk_replies.proofs.WrittenTexts.{some_written}
use Rattle.desk_replies.proofs.overuse.write_overuse.Goals as goal

pub returns-in_default-plan_of : goal.returns-in_default-plan_of
returns-in_default-plan_of g c =
    let name = c.args.name.now in
    overuse_so g.W.Sink.contents g.W.Sink.has_failed _ _ c.args.served.device c.in-Some.device (wish_now c.wish_of-wish.result) _ false name c.write_slices.result c.in-Some.is c.wish_of-wish.ensures c.in_default-plan_of.ensures.placed
    (some_written g.W.Sink.contents g.W.Sink.has_failed _ _ _ (λ text. text ≡ changed_text name) c.write_slices.result c.write_slices.ensures refl)

pub returns-in_default-crowding_with : goal.returns-in_default-crowding_with
returns-in_default-crowding_with g c =
    overuse_so g.W.Sink.contents g.W.Sink.has_failed _ _ c.args.served.device c.in-Some.device (wish_now c.wish_of-wish.result) _ true c.args.name.now (Ok tt) c.in-Some.is c.wish_of-wish.ensures c.in-Some-plan_of.ensures.placed
    ([], inl refl, all_none g.W.Sink.contents g.W.Sink.has_failed _)

pub returns : goal.returns
returns g c =
    let device = c.in-Some.device in
    let wish = wish_now c.wish_of-wish.result in
    let name = c.args.name.now in
    let r = c.write_crowding.result in
    overuse_so g.W.Sink.contents g.W.Sink.has_failed _ _ c.args.served.device device wish _ true name r c.in-Some.is c.wish_of-wish.ensures c.in-Some-plan_of.ensures.placed
    (some_written g.W.Sink.contents g.W.Sink.has_failed _ _ _ (IsCrowded device wish name) r (writes_then c.in_ok-write_slices.ensures _ _ r c.write_crowding.ensures)
    (inr (
      c.in-Ok-Some.crowding,
      record {
        plan = c.in-Some-plan_of.plan;
        request = c.in-Some-plan_of.request;
        of = c.in-Some-plan_of.ensures.planned;
        found = rw c.in-Ok-Some.field-0-is at c.in-Ok-Some.ensures.crowding;
      },
      refl,
    )))
