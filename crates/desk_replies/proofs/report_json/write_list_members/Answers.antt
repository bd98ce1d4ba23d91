use Rattle.desk_replies.proofs.Prelude.{ℕ, List, [], ◌∷◌, ◌++◌, codes, map, ◌∙◌, ap, ChannelUse, Json, json_tokens, list_of, members_more, ok_then, one_member, channel_json, tenancy_json, widest_json}
use Rattle.desk_replies.proofs.report_json.write_list_members.Goals as goal

pub returns : goal.returns
returns c =
    let report = c.args.report.now in
    let widest : Json = widest_json report.widest in
    let channels : Json = list_of (map channel_json report.fullest.items) in
    let tenancies : Json = list_of (map tenancy_json c.args.facts.now) in
    let second : List (List ℕ × Json) = (codes "fullest_channels", channels) ∷ [] in
    let third : List (List ℕ × Json) = (codes "tenancies", tenancies) ∷ [] in
    ok_then c.write_tenancy_list.result
    (λ e. members_more ((codes "widest", widest) ∷ []) (second ++ third) c.args.pen.now c.write_widest.new.pen c.write_tenancy_list.new.pen
    (one_member (codes "widest") widest c.args.pen.now c.key.new.self c.write_widest.new.pen c.in_ok-key.ensures c.in_ok-write_widest.ensures)
    (members_more second third c.write_widest.new.pen c.write_channel_list.new.pen c.write_tenancy_list.new.pen
    (one_member (codes "fullest_channels") channels c.write_widest.new.pen c.key-2.new.self c.write_channel_list.new.pen c.in_ok-key-2.ensures
    (c.in_ok-write_channel_list.ensures ∙ ap (λ (all : List ChannelUse). c.key-2.new.self ++ json_tokens (list_of (map channel_json all))) c.deref.ensures.value))
    (one_member (codes "tenancies") tenancies c.write_channel_list.new.pen c.key-3.new.self c.write_tenancy_list.new.pen c.in_ok-key-3.ensures e)))
    c.write_tenancy_list.ensures
