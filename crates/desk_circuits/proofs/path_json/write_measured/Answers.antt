use Rattle.desk_circuits.proofs.Prelude.{[], ◌∷◌, codes, Json, members_more, ok_then, one_member, count_members, longest_json}
use Rattle.desk_circuits.proofs.path_json.write_measured.Goals as goal

pub returns : goal.returns
returns c =
    let measured = c.args.measured.now in
    let path : Json = longest_json measured measured.longest in
    ok_then c.write_longest.result
    (λ e. members_more (count_members measured.circuit) ((codes "longest_path", path) ∷ []) c.args.pen.now c.write_counts.new.pen c.write_longest.new.pen c.in_ok-write_counts.ensures
    (one_member (codes "longest_path") path c.write_counts.new.pen c.key.new.self c.write_longest.new.pen c.in_ok-key.ensures e))
    c.write_longest.ensures
