-- What is read of a whole output.
use Rattle.device_law.proofs.Prelude.{◌≡◌, ℕ, ◌+◌, ◌-◌, List, [], ◌∷◌, ◌++◌, map, codes, Result, Ok, refl, sym, ap, ◌∙◌, subst, append_assoc, arith, ◌==◌, flat_map, Basis, Device, IsDevice, empty_service, Stage, section_text, Telling, Tells, sections_after, told_operator, replies_text, InputFault, DeviceSize, Seen, device_in, end_of, lines_of, lines_read, nothing_seen, after_heading, IsReadFrom, nothing_shown, shown_after, size_of, IsOutputRead, shown_in, own_graph, device_of}
use Rattle.device_law.proofs.AdmittedNames.{HasName, start_has}
use Rattle.device_law.proofs.Each.{Each}
use Rattle.device_law.proofs.LineLemmas.{first_of_lines}
use Rattle.device_law.proofs.OwnThere.{Laws}
use Rattle.device_law.proofs.Shows.{Shows}
use Rattle.device_law.proofs.Stages.{Fine, stands_in}
use Rattle.device_law.proofs.StripEntries.{bare_entries}
use Rattle.device_law.proofs.Finish.{finish}
use Rattle.device_law.proofs.Sections.{rest_read}
use Rattle.device_law.proofs.Tellings.{tells_then}

-- the whole output
heading_is : (size : DeviceSize) (rest : List ℕ) → lines_read (lines_of ((codes "== op" ++ 10 ∷ []) ++ rest)) (nothing_seen size) 0 ≡ lines_read (lines_of rest) (after_heading size) 1
unfolding lines_read
heading_is size rest = grind (arith, first_of_lines (codes "== op") rest refl)

start_shows : (size : DeviceSize) → Shows size [] [] nothing_shown (after_heading size)
start_shows size = record { size_is = refl; inside = record { place = refl; awaited = refl }; live_is = refl; listed_is = refl; list_now = tt; owned_is = refl; has_is = refl; owned_now = tt }

output_read : Laws → (device : Device) (known : IsDevice device) → (graph : Basis) (ts : List Telling) (last : Stage) →
    (told : Tells (record { names = []; jobs = []; service = empty_service device; graph = graph }) ts last) → Each HasName (map (λ (t : Telling). t.act) ts) →
    IsReadFrom (shown_after (record { names = []; jobs = []; service = empty_service device; graph = graph }) ts last told nothing_shown) last (device_in (size_of device known) (replies_text ts))
unfolding device_in
output_read laws device known graph ts last told named =
    let size = size_of device known in
    let start : Stage = record { names = []; jobs = []; service = empty_service device; graph = graph } in
    let fine : Fine device start = record { before = []; runs = refl; names = record { even = refl; named = tt } } in
    let all = tells_then laws device known start ts last told named fine nothing_shown (after_heading size) 1 (start_shows size) in
    let shows = all.after.shows in
    let operator = flat_map (λ (t : Telling). told_operator t.act t.text) ts in
    let sections = sections_after [] ts in
    let text = flat_map section_text sections in
    let rest = rest_read all.after.new all.after.reads.next sections shows.inside in
    let shown = shown_after start ts last told nothing_shown in
    let read : lines_read (lines_of (replies_text ts)) (nothing_seen size) 0 ≡ Ok (rest.new, rest.lines) =
    ap (λ (t : List ℕ). lines_read (lines_of t) (nothing_seen size) 0) (append_assoc (codes "== op" ++ 10 ∷ []) operator text) ∙ heading_is size (operator ++ text) ∙ all.after.reads.reads text ∙ rest.reads in
    let P : Result (Seen × ℕ) InputFault → Type 0 = λ r. IsReadFrom shown last (end_of r) in
    subst P (sym read)
    (finish last.service.plan.strips last.names shown last rest.new rest.lines rest.awaited_is rest.missing_is (rest.listed_is ∙ shows.listed_is) shows.list_now (rest.live_is ∙ shows.live_is)
    (rest.owned_is ∙ shows.owned_is) (rest.has_is ∙ shows.has_is) shows.owned_now (bare_entries last.service last.names (stands_in device last all.fine).kept.linked))

-- in the words of the law
pub run_read : Laws → IsOutputRead
run_read laws options tracks architecture input output r known =
    let device = device_of options r.arch in
    let named = subst (Each HasName) (sym r.all) (start_has tracks architecture input r.arch r.acts r.begins) in
    let P : List ℕ → Type 0 = λ o. IsReadFrom (shown_in r) r.last (device_in (size_of device known) o) in
    subst P (sym r.output_is) (output_read laws device known (own_graph device) r.tellings r.last r.told named)
