use Rattle.desk_replies.proofs.Prelude.{◌∙◌, ap, map, account_now, accounts_of, named_act, IsOveruse, text_items, script_items, on_ok_weaker}
use Rattle.desk_replies.proofs.Ended.{or_outcome}
use Rattle.desk_replies.proofs.PageLemmas.{around_as, items_same}
use Rattle.desk_replies.proofs.page_tool.print_served.Goals as goal

pub returns : goal.returns
returns g c =
    let acts = map named_act c.args.served.acts.now in
    let replies = c.args.served.replies.now in
    let last = c.in_ok-states.states.entries in
    let texts = c.in_ok-texts.texts in
    let told = c.in_ok-texts.ensures.texts in
    rw c.or.ensures (or_outcome _ c.write_page_of.result _ (on_ok_weaker c.write_page_of.result (λ around. record {
      last = last;
      are_last = c.in_ok-states.ensures;
      told = told.0;
      refused = told.1;
      are_told = told.2;
      shown = around_as (IsOveruse c.args.served.device acts replies) (text_items texts) (script_items c.args.wishes told.0 last) last _ (accounts_of acts replies)
          (items_same c.args.wishes told.0 last texts told.3 c.in_ok-texts.ensures.device) (ap (map account_now) c.deref.ensures.value ∙ c.in_ok-accounts.ensures) around;
    }) c.write_page_of.ensures))
