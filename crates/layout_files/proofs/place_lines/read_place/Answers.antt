use Rattle.layout_files.proofs.Prelude.{◌++◌, ◌∷◌, ◌∙◌, [], Some, ap, codes, decimal, refl, sym, append_assoc, laid_name, left_after}
use Rattle.layout_files.proofs.Printing.{took}
use Rattle.layout_files.proofs.Reading.{laid_plain, place_parts, same_place}
use Rattle.layout_files.proofs.place_lines.read_place.Goals as goal

pub returns-clause-read : goal.returns-clause-read
returns-clause-read c = λ circuit laid after names small e.
    let name = laid_name circuit laid in
    let x = decimal laid.place.x in
    let y = decimal laid.place.y in
    let s = decimal laid.place.subblock in
    let number = decimal c.args.number in
    let tail = number ++ (10 ∷ after) in
    let parts = c.expect.ensures ∙ e ∙ ap Some (place_parts name (32 ∷ []) x y s (32 ∷ 35 ∷ []) number (10 ∷ []) after) in
    let named = c.word.ensures.read name (32 ∷ (x ++ (32 ∷ (y ++ (32 ∷ (s ++ (32 ∷ 35 ∷ tail))))))) (laid_plain circuit laid names) refl parts in
    let column = c.number-x.ensures.read laid.place.x (32 ∷ (y ++ (32 ∷ (s ++ (32 ∷ 35 ∷ tail))))) small.x refl (c.text.ensures.left ∙ ap (λ v. left_after v (codes " ")) named.1) in
    let row = c.number-y.ensures.read laid.place.y (32 ∷ (s ++ (32 ∷ 35 ∷ tail))) small.y refl (c.text-2.ensures.left ∙ ap (λ v. left_after v (codes " ")) column.1) in
    let pad = c.number-subblock.ensures.read laid.place.subblock (32 ∷ 35 ∷ tail) small.subblock refl (c.text-3.ensures.left ∙ ap (λ v. left_after v (codes " ")) row.1) in
    let marked = c.expect-2.ensures ∙ c.text-4.ensures.left ∙ ap (λ v. left_after v (codes " #")) pad.1 in (
      same_place laid.place c.number-x.result c.number-y.result c.number-subblock.result column.0 row.0 pad.0,
      took c.expect-2.new.self c.print.new.self (number ++ (10 ∷ [])) after (marked ∙ ap Some (sym (append_assoc number (10 ∷ []) after))) c.print.ensures.left,
    )
