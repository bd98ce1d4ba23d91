use Rattle.desk_replies.proofs.Prelude.{map, account_now, named_act, IsOveruse, text_items}
use Rattle.desk_replies.proofs.PageLemmas.{around_written}
use Rattle.desk_replies.proofs.page_items.write_page_of.Goals as goal

pub returns : goal.returns
returns g c =
    around_written g.W.Sink.contents g.W.Sink.has_failed _ _ _ _ _ (IsOveruse c.args.served.device (map named_act c.args.served.acts.now) c.args.served.replies.now) (text_items c.args.texts.now) c.args.states.now.entries (map account_now c.args.accounts.now) c.viewer-viewer.result c.write_fixed-2.result
    c.in_ok-write_fixed.ensures c.in_ok-write_texts.ensures c.in_ok-write_names.ensures c.write_fixed-2.ensures
