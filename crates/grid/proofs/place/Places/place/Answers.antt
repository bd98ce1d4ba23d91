use Rattle.grid.proofs.Prelude.{◌∙◌, Some, sym, ap, arith, Place}
use Rattle.grid.proofs.Columns.{column_found, place_found}
use Rattle.grid.proofs.place.Places.place.Goals as goal

pub overflow_cast-number : goal.overflow_cast-number
overflow_cast-number c =
    let len = c.column_len-column_len in
    let column = column_found c.args.self.strip c.args.self.kind c.args.number len.result len.ensures.count len.ensures.some c.requires in
    let wide = c.args.self.lawful.width.1 in
    omega (arith, column, wide)

pub overflow_add-number : goal.overflow_add-number
overflow_add-number c =
    let len = c.column_len-column_len in
    let column = column_found c.args.self.strip c.args.self.kind c.args.number len.result len.ensures.count len.ensures.some c.requires in
    let wide = c.args.self.lawful.width.1 in
    omega (arith, column, wide)

pub returns : goal.returns
returns c =
    let len = c.column_len-column_len in
    place_found c.args.self.strip c.args.self.kind c.args.number len.result len.ensures.count len.ensures.some c.requires
    ∙ ap (λ (place : Place). Some place) (sym c.place_in.ensures)
