-- The data of a graph are correct for any number of columns.
use Rattle.rr_graph.proofs.Prelude.{ℕ, zero, suc, ◌≡◌, ◌+◌, ◌*◌, ◌<◌, ◌≤◌, List, arith, true, Node, Numbering, Tables, is_node, IsNumbering, node_of, column_count, IsRowBelow, IsTable, IsKept, IsPart, AreTables, with_width}

-- the nodes of a column don't depend on the number of columns
pub numbering_of_width : (nodes : Numbering) (width : ℕ) → IsNumbering nodes → 1 ≤ width → width ≤ 256 → IsNumbering (with_width nodes width)
numbering_of_width nodes width lawful some few = grind arith

-- the ends of a column's nodes don't depend on the number of columns
row_of_width : (nodes : Numbering) (width : ℕ) (a : Node) (row : List ℕ) (cursor : ℕ) → IsRowBelow nodes a row cursor → IsRowBelow (with_width nodes width) a row cursor
row_of_width nodes width a row cursor is = record { rising = is.rising; below = is.below; sound = is.sound; complete = is.complete }

tables_of_width : (nodes : Numbering) (width : ℕ) (tables : Tables) → AreTables nodes tables → AreTables (with_width nodes width) tables
tables_of_width nodes width tables are beside count one e =
    let rows = are beside count one e in
    record {
      many = rows.many;
      order = rows.order;
      within = rows.within;
      end = rows.end;
      rows = λ i few. row_of_width nodes width (node_of nodes i) _ (((node_of nodes i).x + beside + 1) * column_count nodes) (rows.rows i few);
    }

-- the first columns are a graph
pub part_of : (nodes : Numbering) (width : ℕ) (tables : Tables) (inputs : ℕ) → IsKept nodes tables inputs →
    1 ≤ width → width ≤ nodes.strip.width → IsPart nodes width tables inputs
part_of nodes width tables inputs kept some few = search (tables_of_width, arith)

-- a node of the first columns is one of all columns
pub node_of_all : (nodes : Numbering) (width : ℕ) (node : Node) → width ≤ nodes.strip.width → is_node nodes.arch (with_width nodes width).strip node ≡ true →
    is_node nodes.arch nodes.strip node ≡ true
node_of_all nodes width node few is = search arith

-- its number is within the first columns
pub number_of_width : (c x i before width : ℕ) → i + before < (x + 1) * c → x ≤ width → i + before < (width + 1) * c
number_of_width c x i before width less few = grind arith

-- the tables for both kinds of columns
pub both_tables : (nodes : Numbering) (tables : Tables) →
    ((count : ℕ) → count + nodes.before ≡ 3 * column_count nodes → IsTable nodes 1 tables.inner.starts.items tables.inner.ends.items count) →
    ((count : ℕ) → count + nodes.before ≡ 3 * column_count nodes → IsTable nodes 0 tables.last.starts.items tables.last.ends.items count) → AreTables nodes tables
both_tables nodes tables inner last zero count one e = last count e
both_tables nodes tables inner last (suc zero) count one e = inner count e
both_tables nodes tables inner last (suc (suc beside)) count one e = absurd (omega arith)
