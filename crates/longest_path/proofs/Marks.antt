-- Marks of nets, and passes that take some away.
use Rattle.longest_path.proofs.Prelude.{ℕ, ◌≡◌, ◌+◌, ◌<◌, ◌≤◌, ◌∙◌, Bool, true, false, List, [], ◌∷◌, length, get_or, set, length-set, replicate, Some, sym, refl, subst, arith, suc, zero, cond, All, count_by, slice_get, cases_lt, get_or-replicate, get_or-set_other, get_or-set_same, get_or_past, count_by-le-length, sum_by-cons, same_Some, slice_get_within, MAX_NETS, IsTableWithin, LookupTable, AreLedTo, IsFirstLost, IsLasting, IsLedTo, IsMarked, IsMarkedAmong, IsOnLoop, NoneIsLost, NoneIsMarked, IsIn, IsTable, IsWay}
use Rattle.longest_path.proofs.Raising.{table_within}
use Rattle.longest_path.proofs.Tracing.{extend}

-- no net is both marked and not
both : (b : Bool) → b ≡ true → b ≡ false → ⊥
both b marked off = absurd (cc)

-- a marked net has a place among the marks
pub mark_within : (marks : List Bool) (net : ℕ) → IsMarked marks net → net < length marks
mark_within marks net marked = grind (arith, both, get_or_past)

-- ---- one pass

-- the table drives its net from a marked net
pub led_more : (tables : List LookupTable) (place : ℕ) {before : ℕ} (table : LookupTable) (marks next : List Bool) → slice_get tables place ≡ Some table → IsMarkedAmong marks table.inputs before
    → table.output < length next → AreLedTo tables place marks next → AreLedTo tables (place + 1) marks (set next table.output true)
led_more tables place table marks next here among within led = search (length-set, get_or-set_other, get_or-set_same, cases_lt, same_Some, arith)

-- the table reads no marked net
pub led_same : (tables : List LookupTable) (place : ℕ) (table : LookupTable) (marks next : List Bool) → slice_get tables place ≡ Some table → NoneIsMarked marks table.inputs
    → AreLedTo tables place marks next → AreLedTo tables (place + 1) marks next
led_same tables place table marks next here none led = grind arith

-- ---- all passes

counted : (mark : Bool) (marks : List Bool) → count_by (λ (b : Bool). b) (mark ∷ marks) ≡ cond {A = ℕ} mark 1 0 + count_by (λ (b : Bool). b) marks
counted mark marks = sum_by-cons (λ (b : Bool). cond {A = ℕ} b 1 0) mark marks

not_more : (olds news : List Bool) → length news ≡ length olds → ((net : ℕ) → IsMarked news net → IsMarked olds net) → count_by (λ (b : Bool). b) news ≤ count_by (λ (b : Bool). b) olds
not_more [] [] long kept = omega arith
not_more [] (new ∷ news) long kept = absurd (omega (arith, long))
not_more (old ∷ olds) [] long kept = absurd (omega (arith, long))
not_more (true ∷ olds) (true ∷ news) long kept =
    let rest = not_more olds news (omega (arith, long)) (λ net. kept (suc net)) in
    let a = counted true news in let b = counted true olds in omega arith
not_more (true ∷ olds) (false ∷ news) long kept =
    let rest = not_more olds news (omega (arith, long)) (λ net. kept (suc net)) in
    let a = counted false news in let b = counted true olds in omega arith
not_more (false ∷ olds) (true ∷ news) long kept = absurd (both false (kept 0 refl) refl)
not_more (false ∷ olds) (false ∷ news) long kept =
    let rest = not_more olds news (omega (arith, long)) (λ net. kept (suc net)) in
    let a = counted false news in let b = counted false olds in omega arith

pub fewer : (olds news : List Bool) (lost : ℕ) → length news ≡ length olds → ((net : ℕ) → IsMarked news net → IsMarked olds net) → IsFirstLost olds news lost
    → count_by (λ (b : Bool). b) news + 1 ≤ count_by (λ (b : Bool). b) olds
fewer [] [] lost long kept gone = absurd (both (get_or {A = Bool} [] lost false) gone.0 (get_or_past {X = Bool} [] lost false (omega arith)))
fewer [] (new ∷ news) lost long kept gone = absurd (omega (arith, long))
fewer (old ∷ olds) [] lost long kept gone = absurd (omega (arith, long))
fewer (true ∷ olds) (true ∷ news) zero long kept gone = absurd (both true refl gone.1)
fewer (true ∷ olds) (false ∷ news) zero long kept gone =
    let rest = not_more olds news (omega (arith, long)) (λ net. kept (suc net)) in
    let a = counted false news in let b = counted true olds in omega arith
fewer (false ∷ olds) (new ∷ news) zero long kept gone = absurd (both false gone.0 refl)
fewer (true ∷ olds) (true ∷ news) (suc lost) long kept gone =
    let rest = fewer olds news lost (omega (arith, long)) (λ net. kept (suc net)) gone in
    let a = counted true news in let b = counted true olds in omega arith
fewer (true ∷ olds) (false ∷ news) (suc lost) long kept gone =
    let rest = fewer olds news lost (omega (arith, long)) (λ net. kept (suc net)) gone in
    let a = counted false news in let b = counted true olds in omega arith
fewer (false ∷ olds) (true ∷ news) (suc lost) long kept gone = absurd (both false (kept 0 refl) refl)
fewer (false ∷ olds) (false ∷ news) (suc lost) long kept gone =
    let rest = fewer olds news lost (omega (arith, long)) (λ net. kept (suc net)) gone in
    let a = counted false news in let b = counted false olds in omega arith

-- what is led to has a place
led_within : (nets : ℕ) (tables : List LookupTable) (marks : List Bool) (net : ℕ) → All (IsTableWithin nets) tables → IsLedTo tables (length tables) marks net → net < nets
led_within nets tables marks net all it = subst (λ n. n < nets) it.drives (table_within tables nets it.number it.table all it.is).output

on_loop_within : (nets : ℕ) (tables : List LookupTable) (net : ℕ) → All (IsTableWithin nets) tables → IsOnLoop tables net → net < nets
on_loop_within nets tables net all on = subst (λ n. n < nets) on.2.1 (table_within tables nets on.2.0.0 on.0 all on.2.0.1).output

-- the net that comes before one of a loop is on a loop
before_on_loop : (tables : List LookupTable) (table : LookupTable) (net before : ℕ) (others : List LookupTable) → IsTable tables table → table.output ≡ net → IsIn table.inputs before
    → IsWay tables net others before → IsOnLoop tables before
before_on_loop tables table net before [] is drives reads way = (table, [], (is, drives ∙ way, (before, reads, refl)))
before_on_loop tables table net before (first ∷ others) is drives reads way = grind (arith, extend tables net before before (first ∷ others) table way is drives reads)

-- a pass keeps the nets of loops, and those that are led to
pub loops_kept : (tables : List LookupTable) (marks next : List Bool) → AreLedTo tables (length tables) marks next → ((net : ℕ) → IsOnLoop tables net → IsMarked marks net)
    → (net : ℕ) → IsOnLoop tables net → IsMarked next net
loops_kept tables marks next led loops net on =
    let way : IsWay tables net (on.0 ∷ on.1) net = on.2 in
    let before : ℕ = way.2.0 in
    led.all net (record {
      number = way.0.0;
      table = on.0;
      early = slice_get_within tables way.0.0 on.0 way.0.1;
      is = way.0.1;
      drives = way.1;
      before = before;
      among = (way.2.1, loops before (before_on_loop tables on.0 net before on.1 way.0 way.1 way.2.1 way.2.2));
    })

pub led_kept : (tables : List LookupTable) (marks next : List Bool) → AreLedTo tables (length tables) marks next → ((net : ℕ) → IsLedTo tables (length tables) marks net → IsMarked marks net)
    → (net : ℕ) → IsLedTo tables (length tables) next net → IsMarked next net
led_kept tables marks next led closed net it =
    led.all net (record {
      number = it.number;
      table = it.table;
      early = it.early;
      is = it.is;
      drives = it.drives;
      before = it.before;
      among = (it.among.0, closed it.before (led.led it.before it.among.1));
    })

-- a pass only takes marks away
pub only_fewer : (tables : List LookupTable) (marks next : List Bool) → AreLedTo tables (length tables) marks next → ((net : ℕ) → IsLedTo tables (length tables) marks net → IsMarked marks net)
    → (net : ℕ) → IsMarked next net → IsMarked marks net
only_fewer tables marks next led closed net marked = closed net (led.led net marked)

-- at first all nets are marked
pub all_marked : (nets : ℕ) (net : ℕ) → net < nets → IsMarked (replicate nets true) net
all_marked nets net within = get_or-replicate nets net true false within

pub led_first : (nets : ℕ) (tables : List LookupTable) (marks : List Bool) → All (IsTableWithin nets) tables → marks ≡ replicate nets true → (net : ℕ) → IsLedTo tables (length tables) marks net → IsMarked marks net
led_first nets tables marks all is net it = subst (λ (m : List Bool). IsMarked m net) (sym is) (all_marked nets net (led_within nets tables marks net all it))

pub loops_first : (nets : ℕ) (tables : List LookupTable) (marks : List Bool) → All (IsTableWithin nets) tables → marks ≡ replicate nets true → (net : ℕ) → IsOnLoop tables net → IsMarked marks net
loops_first nets tables marks all is net on = subst (λ (m : List Bool). IsMarked m net) (sym is) (all_marked nets net (on_loop_within nets tables net all on))

pub few_first : (marks : List Bool) → count_by (λ (b : Bool). b) marks ≤ length marks
few_first marks = count_by-le-length (λ (b : Bool). b) marks

-- what a pass leaves that takes no mark away
pub lasts : (nets : ℕ) (tables : List LookupTable) (marks next : List Bool) → All (IsTableWithin nets) tables → nets ≤ MAX_NETS → length marks ≡ nets → AreLedTo tables (length tables) marks next
    → ((net : ℕ) → IsOnLoop tables net → IsMarked marks net) → NoneIsLost marks next → IsLasting tables next
lasts nets tables marks next all few long led loops none =
    let same : length next ≡ nets = led.long ∙ long in
    record {
      few = subst (λ n. n ≤ MAX_NETS) (sym same) few;
      within = subst (λ n. All (IsTableWithin n) tables) (sym same) all;
      led = λ net marked. (
          let it = led.led net marked in
          record {
            number = it.number;
            table = it.table;
            early = it.early;
            is = it.is;
            drives = it.drives;
            before = it.before;
            among = (it.among.0, none it.before it.among.1);
          });
      loops = loops_kept tables marks next led loops;
    }
