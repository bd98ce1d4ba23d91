use Rattle.desk_replies.proofs.Prelude.{ℕ, List, [], ◌∷◌, ◌++◌, codes, Json, members_more, ok_then, use_json}
use Rattle.desk_replies.proofs.report_json.write_use_members.Goals as goal

pub returns : goal.returns
returns c =
    let uses = c.args.uses in
    let blocks : List (List ℕ × Json) = (codes "blocks", use_json uses.tenancy uses.blocks) ∷ [] in
    let pads : List (List ℕ × Json) = (codes "pads", use_json uses.tenancy uses.pads) ∷ [] in
    let across : List (List ℕ × Json) = (codes "across", use_json uses.tenancy uses.across) ∷ [] in
    let up : List (List ℕ × Json) = (codes "up", use_json uses.tenancy uses.up) ∷ [] in
    ok_then c.write_use-4.result
    (λ e. members_more blocks (pads ++ (across ++ up)) c.args.pen.now c.write_use.new.pen c.write_use-4.new.pen c.in_ok-write_use.ensures
    (members_more pads (across ++ up) c.write_use.new.pen c.write_use-2.new.pen c.write_use-4.new.pen c.in_ok-write_use-2.ensures
    (members_more across up c.write_use-2.new.pen c.write_use-3.new.pen c.write_use-4.new.pen c.in_ok-write_use-3.ensures e)))
    c.write_use-4.ensures
