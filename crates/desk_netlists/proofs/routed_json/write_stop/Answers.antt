use Rattle.desk_netlists.proofs.Prelude.{◌≡◌, ◌∙◌, ℕ, List, [], ◌∷◌, ◌++◌, ap, codes, sym, Json, string, Token, json_tokens, known_number, name_of, object_of, object_tokens, ok_then, stop_json, stop_word}
use Rattle.desk_netlists.proofs.routed_json.write_stop.Goals as goal

pub returns : goal.returns
returns c =
    let stop = c.args.stop in
    let word = c.stop_word.result.now in
    let name = c.name_of.result.now in
    let members : List ℕ → List ℕ → List (List ℕ × Json) =
    λ w n. (codes "stop", string w) ∷ (codes "net", name_of n) ∷ (codes "wires", known_number stop.wires) ∷ (codes "x", known_number stop.x)
    ∷ (codes "y", known_number stop.y) ∷ (codes "pad", known_number stop.pad) ∷ [] in
    let named : json_tokens (object_of (members word name)) ≡ json_tokens (stop_json c.args.circuit.now stop) =
    ap (λ (w : List ℕ). json_tokens (object_of (members w name))) c.stop_word.ensures
    ∙ ap (λ (n : List ℕ). json_tokens (object_of (members (stop_word stop.kind) n))) c.name_of.ensures in
    ok_then c.object.result
    (λ e. e ∙ ap (λ (ts : List Token). c.args.pen.now ++ ts) (sym (object_tokens (members word name)) ∙ named))
    c.object.ensures
