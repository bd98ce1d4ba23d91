-- Small values.
use Rattle.json_text.proofs.Prelude.{◌≡◌, ◌∷◌, [], codes, refl, string, pretty_from, escape_byte, json_text, known_number, list_of, object_of, None}

-- a quote in a name is escaped, and an empty list stays on its line
escaped : json_text (object_of ((codes "net", string (codes "a\"b")) ∷ (codes "stops", list_of []) ∷ [])) ≡ codes "{\n  \"net\": \"a\\\"b\",\n  \"stops\": []\n}\n"
unfolding escape_byte pretty_from
escaped = refl

-- a number that is not known
unknown : json_text (object_of ((codes "wires", known_number None) ∷ [])) ≡ codes "{\n  \"wires\": null\n}\n"
unfolding escape_byte pretty_from
unknown = refl
