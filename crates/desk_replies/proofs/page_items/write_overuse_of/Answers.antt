use Rattle.desk_replies.proofs.Prelude.{codes, map, named_act, IsOveruse, IsItem}
use Rattle.desk_replies.proofs.PageLemmas.{item_made}
use Rattle.desk_replies.proofs.WrittenTexts.{sink_has, some_written}
use Rattle.desk_replies.proofs.page_items.write_overuse_of.Goals as goal

pub returns : goal.returns
returns g c =
    let name = c.args.name.now in
    let overuse = IsOveruse c.args.served.device (map named_act c.args.served.acts.now) c.args.served.replies.now name in
    some_written g.W.Sink.contents g.W.Sink.has_failed _ _ _ (IsItem overuse (codes "overuse") name) c.write_present.result c.write_present.ensures
    (item_made overuse (codes "overuse") name _ _ c.write_overuse-made.result c.is_ok.result
    (sink_has _ _ _ _ _ overuse c.write_overuse-made.result c.new-text.ensures.bytes c.as_bytes.ensures c.write_overuse-made.ensures)
    c.is_ok.ensures.value c.text_if-shown.ensures)
