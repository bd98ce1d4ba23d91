-- The printed list is read back, tenancy after tenancy.
use Rattle.device_law.proofs.Prelude.{◌≡◌, ℕ, ◌+◌, true, not, List, [], ◌∷◌, ◌++◌, length, Option, Some, None, refl, sym, ap, ◌∙◌, append_assoc, arith, unwrap_or, list_all, History, state_of, live_of, offset_of, state_text, list_text, list_lines, listed_text, Listed, listed_on, Seen, after_line, seen_in_list, is_feed, lines_of, lines_read, list_line, plus, ArePrintable, IsInside, IsListReadBack, IsPrintable, Reading, entries, entries_read, entry_of}
use Rattle.device_law.proofs.LineLemmas.{first_of_lines, line_is, line_solid, list_bytes, state_solid}

-- what was read, with one more tenancy
abbrev added : Seen → Listed → Seen
added seen one = record (seen_in_list seen one.id) { listed = (seen_in_list seen one.id).listed ++ one ∷ [] }

-- two continuations that agree after a tenancy agree after its line
by_one : (xs ys : Seen → ℕ → Reading) (seen : Seen) (number : ℕ) (o : Option Listed) → ((one : Listed) → xs (added seen one) number ≡ ys (added seen one) number) → after_line xs number (list_line seen o) ≡ after_line ys number (list_line seen o)
by_one xs ys seen number o same = grind arith

-- the continuation matters only where the section goes on
under : (xs : List Listed) (seen : Seen) (number : ℕ) (next other : Seen → ℕ → Reading) → IsInside seen → ((s : Seen) (n : ℕ) → IsInside s → next s n ≡ other s n) → entries_read xs seen number next ≡ entries_read xs seen number other
under [] seen number next other inside same = same seen number inside
under (x ∷ xs) seen number next other inside same =
    by_one (λ s n. entries_read xs s n next) (λ s n. entries_read xs s n other) seen (plus number 1) (listed_on seen.size x)
    (λ one. under xs (added seen one) (plus number 1) next other (record { place = inside.place; awaited = inside.awaited }) same)

joined : (xs ys : List Listed) (seen : Seen) (number : ℕ) (next : Seen → ℕ → Reading) → entries_read (xs ++ ys) seen number next ≡ entries_read xs seen number (λ s n. entries_read ys s n next)
joined [] ys seen number next = refl
joined (x ∷ xs) ys seen number next =
    by_one (λ s n. entries_read (xs ++ ys) s n next) (λ s n. entries_read xs s n (λ t m. entries_read ys t m next)) seen (plus number 1) (listed_on seen.size x)
    (λ one. joined xs ys (added seen one) (plus number 1) next)

print_front : (xs ys : List Listed) → ArePrintable (xs ++ ys) → ArePrintable xs
print_front [] ys all = tt
print_front (x ∷ xs) ys all = (all.0, print_front xs ys all.1)

print_back : (xs ys : List Listed) → ArePrintable (xs ++ ys) → ArePrintable ys
print_back [] ys all = all
print_back (x ∷ xs) ys all = print_back xs ys all.1

-- a tenancy's line before others
line_read_first : (one : Listed) (rest : List ℕ) (seen : Seen) (number : ℕ) → IsPrintable one → list_all (λ b. not (is_feed b)) one.state ≡ true → IsInside seen →
    lines_read (lines_of ((list_bytes one ++ 10 ∷ []) ++ rest)) seen number ≡ entries_read (one ∷ []) seen number (λ s n. lines_read (lines_of rest) s n)
unfolding lines_read
line_read_first one rest seen number fits state inside = search (append_assoc, first_of_lines, line_solid, line_is, arith)

one_read : (live : Option History) (offset : Option ℕ) (id : ℕ) (name rest : List ℕ) (seen : Seen) (number : ℕ) → ArePrintable (entry_of live offset id name) → IsInside seen →
    lines_read (lines_of (listed_text live offset id name ++ rest)) seen number ≡ entries_read (entry_of live offset id name) seen number (λ s n. lines_read (lines_of rest) s n)
one_read None offset id name rest seen number fits inside = refl
one_read (Some h) offset id name rest seen number fits inside = grind (arith, line_read_first (record { id = id; name = name; offset = unwrap_or offset 0; width = h.strip.width; state = state_text (state_of h).name }) rest seen number fits.0 (state_solid (state_of h).name) inside)

pub list_is_read : IsListReadBack
list_is_read service [] rest seen number fits inside = refl
list_is_read service (newest ∷ older) rest seen number fits inside =
    let id = length older + 1 in
    let live = live_of service.histories id in
    let offset = offset_of service.plan.strips id in
    let front = entries service older in
    let last = entry_of live offset id newest in
    ap (λ (t : List ℕ). lines_read (lines_of t) seen number) (append_assoc (list_text service older) (list_lines service id newest) rest)
    ∙ list_is_read service older (list_lines service id newest ++ rest) seen number (print_front front last fits) inside
    ∙ under front seen number (λ s n. lines_read (lines_of (list_lines service id newest ++ rest)) s n) (λ s n. entries_read last s n (λ t m. lines_read (lines_of rest) t m)) inside
    (λ s n is. one_read live offset id newest rest s n (print_back front last fits) is)
    ∙ sym (joined front last seen number (λ s n. lines_read (lines_of rest) s n))
