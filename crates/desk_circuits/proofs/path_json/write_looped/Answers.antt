use Rattle.desk_circuits.proofs.Prelude.{[], ◌∷◌, codes, Json, object_written, ok_then, one_member, loop_json}
use Rattle.std.specs.Prelude.{option_map}
use Rattle.desk_circuits.proofs.path_json.write_looped.Goals as goal

pub returns : goal.returns
returns c =
    let measured = c.args.measured.now in
    let value : Json = loop_json measured.circuit (option_map (λ tables. tables.items) measured.looped) in
    ok_then c.close_object.result
    (object_written ((codes "loop", value) ∷ []) c.args.pen.now c.open_object.new.self c.write_loop_of.new.pen c.close_object.new.self c.in_ok-open_object.ensures
    (one_member (codes "loop") value c.open_object.new.self c.key.new.self c.write_loop_of.new.pen c.in_ok-key.ensures c.in_ok-write_loop_of.ensures))
    c.close_object.ensures
