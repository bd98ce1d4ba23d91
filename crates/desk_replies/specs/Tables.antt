-- What the tenancies of a device use, as a table.
use Rattle.std.specs.Prelude.{ℕ, List, [], ◌∷◌, ◌++◌, codes, decimal, flat_map}
use Rattle.std.specs.List.{concat}
use Rattle.desk_replies.specs.Prelude.{Report, TenancyUse, used_text}

abbrev pub line_end : List ℕ
line_end = codes "\n"

-- the headings of a table, and the row of a tenancy, each as fields and with its line's end
abbrev pub heading_fields : List ℕ
heading_fields = concat (codes "id,name,offset,width,state,blocks,blocks_there,pads,pads_there," ∷ codes "across,across_there,up,up_there" ∷ [])

abbrev pub headings : List ℕ
headings = heading_fields ++ line_end

abbrev pub row_fields : TenancyUse → List ℕ
row_fields uses = concat (
    decimal uses.tenancy.id ∷ codes "," ∷ uses.tenancy.name.now ∷ codes "," ∷ decimal uses.tenancy.offset ∷ codes "," ∷ decimal uses.tenancy.width
    ∷ codes "," ∷ uses.tenancy.state.now ∷ codes "," ∷ used_text uses.tenancy uses.blocks ∷ codes "," ∷ decimal uses.blocks.there
    ∷ codes "," ∷ used_text uses.tenancy uses.pads ∷ codes "," ∷ decimal uses.pads.there ∷ codes "," ∷ used_text uses.tenancy uses.across ∷ codes "," ∷ decimal uses.across.there
    ∷ codes "," ∷ used_text uses.tenancy uses.up ∷ codes "," ∷ decimal uses.up.there ∷ [])

abbrev pub row_text : TenancyUse → List ℕ
row_text uses = row_fields uses ++ line_end

-- a table: its headings, and a row for each tenancy
abbrev pub table_text : Report → List ℕ
table_text report = headings ++ flat_map row_text report.tenancies.items
