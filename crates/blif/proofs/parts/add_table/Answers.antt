use Rattle.blif.proofs.Prelude.{◌<◌, ◌++◌, ◌∷◌, [], ◌∙◌, length, map, ap, sym, arith, length-map, nat_tests, has_name, number_of}
use Rattle.blif.proofs.Named.{list_all-take}
use Rattle.blif.proofs.NetNumbers.{front_numbers, last_number, table_with_names}
use Rattle.blif.proofs.parts.add_table.Goals as goal

pub first_undriven-requires : goal.first_undriven-requires
first_undriven-requires c =
    let f = number_of c.args.driven.now.nets in
    record {
      named = rw c.front_of.ensures (list_all-take (has_name c.args.driven.now.nets) _ c.args.args.now.words c.requires.named);
      numbers = front_numbers f c.args.args.now.words c.args.nets.now c.requires.numbers ∙ ap (map f) (sym c.front_of.ensures);
    }

pub returns-clause-tables : goal.returns-clause-tables
returns-clause-tables c =
    let f = number_of c.args.driven.now.nets in
    let names = c.args.args.now.words in
    let nets = c.args.nets.now in
    let some : 0 < length nets = grind (arith, nat_tests) in
    let named : 0 < length names = omega (arith, some, ap length c.requires.numbers, length-map names f) in
    let inputs = front_numbers f names nets c.requires.numbers in
    let line = c.number.ensures in
    let output = last_number f names nets c.requires.numbers some in
    c.in_ok-push.ensures
    ∙ (λ i. c.args.tables.now ++ record { line = line i; inputs = inputs i; output = output i } ∷ [])
    ∙ ap (λ tables. c.args.tables.now ++ tables) (sym (table_with_names c.args.driven.now.nets c.args.args.now.number names named))
