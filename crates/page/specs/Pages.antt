-- The text of a page.
use Rattle.std.specs.Prelude.{ℕ, List, [], ◌∷◌, ◌++◌, codes}
use Rattle.std.specs.List.{concat, flat_map}
use Rattle.page.specs.declared.page.PageItem.{PageItem}
use Rattle.page.specs.declared.page.Viewer.{Viewer}
use Rattle.page.specs.Shown.{escape_of}

-- the beginning of an element: its kind and its name as HTML shows them
abbrev pub kind_text : List ℕ → List ℕ
kind_text kind = concat (codes "<pre hidden class=\"data\" data-kind=\"" ∷ []) ++ flat_map escape_of kind

abbrev pub name_text : List ℕ → List ℕ
name_text name = concat (codes "\" data-name=\"" ∷ []) ++ flat_map escape_of name

abbrev pub start_text : List ℕ → List ℕ → List ℕ
start_text kind name = kind_text kind ++ (name_text name ++ concat (codes "\">\n" ∷ []))

-- the hidden element of a text with that kind and name, as HTML shows it
abbrev pub element_text : List ℕ → List ℕ → List ℕ → List ℕ
element_text kind name text = start_text kind name ++ (flat_map escape_of text ++ concat (codes "</pre>\n" ∷ []))

-- that of an item
abbrev pub item_text : PageItem → List ℕ
item_text item = element_text item.kind.now item.name.now item.text.now

-- the page: the viewer around the items
abbrev pub page_text : Viewer → List PageItem → List ℕ
page_text viewer items = viewer.head.now ++ (flat_map item_text items ++ viewer.tail.now)
