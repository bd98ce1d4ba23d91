use Rattle.desk_replies.proofs.Prelude.{map, account_now, named_act, IsOveruse}
use Rattle.desk_replies.proofs.PageLemmas.{name_written}
use Rattle.desk_replies.proofs.page_items.write_name.Goals as goal

pub returns : goal.returns
returns g c =
    name_written g.W.Sink.contents g.W.Sink.has_failed _ _ _ _ (IsOveruse c.args.served.device (map named_act c.args.served.acts.now) c.args.served.replies.now) c.args.states.now.entries (account_now c.args.account) c.write_if_unrouted.result
    c.in_ok-write_files.ensures c.in_ok-write_stops_of.ensures c.write_if_unrouted.ensures
