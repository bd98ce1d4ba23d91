use Rattle.desk_netlists.proofs.Prelude.{ℕ, List, [], ◌∷◌, ◌++◌, codes, Json, members_more, ok_then, one_member, part_json}
use Rattle.desk_netlists.proofs.routed_json.write_part_members.Goals as goal

pub returns : goal.returns
returns c =
    let facts = c.args.facts in
    let blocks : Json = part_json facts.figures.blocks in
    let bles : Json = part_json facts.elements.bles in
    let pads : Json = part_json facts.figures.pads in
    let wires : Json = part_json facts.figures.wires in
    let one : List (List ℕ × Json) = (codes "logic_blocks", blocks) ∷ [] in
    let two : List (List ℕ × Json) = (codes "bles", bles) ∷ [] in
    let three : List (List ℕ × Json) = (codes "pads", pads) ∷ [] in
    let four : List (List ℕ × Json) = (codes "wires", wires) ∷ [] in
    ok_then c.write_part-4.result
    (λ e. members_more one (two ++ (three ++ four)) c.args.pen.now c.write_part.new.pen c.write_part-4.new.pen
    (one_member (codes "logic_blocks") blocks c.args.pen.now c.key.new.self c.write_part.new.pen c.in_ok-key.ensures c.in_ok-write_part.ensures)
    (members_more two (three ++ four) c.write_part.new.pen c.write_part-2.new.pen c.write_part-4.new.pen
    (one_member (codes "bles") bles c.write_part.new.pen c.key-2.new.self c.write_part-2.new.pen c.in_ok-key-2.ensures c.in_ok-write_part-2.ensures)
    (members_more three four c.write_part-2.new.pen c.write_part-3.new.pen c.write_part-4.new.pen
    (one_member (codes "pads") pads c.write_part-2.new.pen c.key-3.new.self c.write_part-3.new.pen c.in_ok-key-3.ensures c.in_ok-write_part-3.ensures)
    (one_member (codes "wires") wires c.write_part-3.new.pen c.key-4.new.self c.write_part-4.new.pen c.in_ok-key-4.ensures e))))
    c.write_part-4.ensures
