-- A table that is filled entry by entry.
use Rattle.kept_places.proofs.Prelude.{ℕ, ◌≡◌, ◌+◌, ◌<◌, ◌≤◌, List, [], ◌∷◌, ◌++◌, length, take, map, get_or, refl, ap, ◌∙◌, arith, length-append, get_or_default, map_push, map_more, take_all, part_of-append, part_of-added, KeptPlace, Row, entries_of, entry_of, AreNamed, entries_at}

-- the rows of the first `index` entries
pub record IsFilling (entries : List KeptPlace) (index : ℕ) (names : List ℕ) (rows : List Row) : Type 0 where
  pub named : AreNamed (length names) rows
  pub listed : entries_at names rows ≡ map entry_of (take index entries)

pub filling_none : (entries : List KeptPlace) (names : List ℕ) (rows : List Row) → names ≡ [] → rows ≡ [] → IsFilling entries 0 names rows
filling_none entries names rows no_names no_rows = rw (no_names, no_rows) (record { named = tt; listed = refl })

named_push : (count more : ℕ) (rows : List Row) (row : Row) → AreNamed count rows → count ≤ more → row.name.start ≤ row.name.end → row.name.end ≤ more → AreNamed more (rows ++ row ∷ [])
named_push count more [] row named grows ordered within = ((ordered, within), tt)
named_push count more (first ∷ rows) row named grows ordered within = ((named.0.0, omega (arith, named.0.1, grows)), named_push count more rows row named.1 grows ordered within)

-- rows keep their entries when more names are appended
entries_stay : (names more : List ℕ) (rows : List Row) → AreNamed (length names) rows → entries_at (names ++ more) rows ≡ entries_at names rows
entries_stay names more [] named = refl
entries_stay names more (row ∷ rows) named = grind (arith, part_of-append, entries_stay names more rows named.1)

abbrev row_of : KeptPlace → ℕ → ℕ → Row
row_of entry start end = record { kind = entry.key.kind; name = record { start = start; end = end }; place = entry.place }

pub filling_more : (entries : List KeptPlace) (index : ℕ) (names : List ℕ) (rows : List Row) (entry : KeptPlace) (start end : ℕ) → index < length entries → get_or entries index entry ≡ entry → start ≡ length names → end ≡ length (names ++ entry.key.name.now) →
    IsFilling entries index names rows → IsFilling entries (index + 1) (names ++ entry.key.name.now) (rows ++ row_of entry start end ∷ [])
filling_more entries index names rows entry start end lt is starts ends filling = grind (arith, length-append, part_of-added, named_push, map_push, entries_stay, map_more entry_of entries index entry lt)

pub filling_next : (entries : List KeptPlace) (index : ℕ) (names : List ℕ) (rows : List Row) (d : KeptPlace) (start end : ℕ) → index < length entries → start ≡ length names → end ≡ length (names ++ (get_or entries index d).key.name.now) →
    IsFilling entries index names rows → IsFilling entries (index + 1) (names ++ (get_or entries index d).key.name.now) (rows ++ row_of (get_or entries index d) start end ∷ [])
filling_next entries index names rows d start end lt starts ends filling = grind (arith, filling_more entries index names rows (get_or entries index d) start end lt (get_or_default entries index (get_or entries index d) d lt) starts ends filling)

pub filling_all : (entries : List KeptPlace) (index : ℕ) (names : List ℕ) (rows : List Row) → length entries ≤ index → IsFilling entries index names rows → entries_at names rows ≡ entries_of entries
filling_all entries index names rows past filling = filling.listed ∙ ap (map entry_of) (take_all index entries past)
