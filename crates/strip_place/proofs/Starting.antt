-- The start, block by block, with marks on the taken sites.
use Rattle.strip_place.proofs.Prelude.{ℕ, zero, suc, ◌≡◌, ◌+◌, ◌-◌, ◌<◌, ◌≤◌, Bool, true, false, List, [], ◌∷◌, ◌++◌, Option, Some, None, drop, length, get_or, set, refl, sym, ap, subst, ◌∙◌, arith, append-nil, append_assoc, drop_all, drop_more, prefix_len-drop_no, prefix_len-drop_yes, Strip, Kind, Logic, Pad, first_site, is_among, kept_sites, least_free, seated_behind, site_count, site_for, AreKeptSites, Vacancies, all_free, first_from, lowest_vacant, marks_with, without_lowest}
use Rattle.std.proofs.lemmas.List.{get_or-set_same, get_or-set_other, length-set}
use Rattle.strip_place.proofs.Vacant.{IsLeast, among_before, among_last, among_other}
use Rattle.strip_place.proofs.Seatings.{Comer, HasRoom, least_seat, nobody, room_more}

-- exactly the taken sites are marked
abbrev pub AreMarks : List ℕ → List Bool → Type 0
AreMarks taken marks = (site : ℕ) → site < length marks → get_or marks site false ≡ is_among taken site

marks_more : (taken : List ℕ) (marks : List Bool) (site : ℕ) → site < length marks → AreMarks taken marks → AreMarks (taken ++ site ∷ []) (set marks site true)
marks_more taken marks site lt are other inside = grind (arith, get_or-set_same, among_last, get_or-set_other, length-set, among_other)

pub length-marked : (marks : List Bool) (kept : List (Option ℕ)) → length (marks_with marks kept) ≡ length marks
length-marked marks [] = refl
length-marked marks (None ∷ kept) = length-marked marks kept
length-marked marks (Some site ∷ kept) = length-marked (set marks site true) kept ∙ length-set marks site true

marks_kept : (taken : List ℕ) (marks : List Bool) (kept : List (Option ℕ)) → ((block site : ℕ) → block < length kept → get_or kept block None ≡ Some site → site < length marks) → AreMarks taken marks → AreMarks (taken ++ kept_sites kept) (marks_with marks kept)
marks_kept taken marks [] inside are = rw append-nil are
marks_kept taken marks (None ∷ kept) inside are = marks_kept taken marks kept (λ b s lt is. inside (suc b) s (omega (arith, lt)) is) are
marks_kept taken marks (Some site ∷ kept) inside are =
    let here : site < length marks = inside 0 site (omega arith) refl in
    let rest = marks_kept (taken ++ site ∷ []) (set marks site true) kept (λ b s lt is. omega (arith, inside (suc b) s (omega (arith, lt)) is, length-set marks site true)) (marks_more taken marks site here are) in
    subst (λ (t : List ℕ). AreMarks t (marks_with (set marks site true) kept)) (append_assoc taken (site ∷ []) (kept_sites kept)) rest

no_marks : (count : ℕ) → AreMarks [] (all_free count)
no_marks zero site lt = refl
no_marks (suc count) zero lt = refl
no_marks (suc count) (suc site) lt = no_marks count site (omega (arith, lt))

-- the first site without a mark
first_at : (marks : List Bool) (from gap : ℕ) → from + gap < length marks → ((site : ℕ) → from ≤ site → site < from + gap → get_or marks site false ≡ true) → get_or marks (from + gap) false ≡ false → first_from marks from ≡ from + gap
first_at marks from zero lt before free =
    let none = prefix_len-drop_no (λ (mark : Bool). mark) marks from false (omega (arith, lt)) (ap (λ s. get_or marks s false) (omega arith) ∙ free) in
    omega (arith, none)
first_at marks from (suc gap) lt before free =
    let next = first_at marks (from + 1) gap (omega (arith, lt)) (λ site past less. before site (omega (arith, past)) (omega (arith, less))) (ap (λ s. get_or marks s false) (omega arith) ∙ free) in
    let one = prefix_len-drop_yes (λ (mark : Bool). mark) marks from false (omega (arith, lt)) (before from (omega arith) (omega arith)) in
    omega (arith, next, one)

-- all sites of a kind below this one are taken
pub record IsLow (strip : Strip) (taken : List ℕ) (kind : Kind) (low : ℕ) : Type 0 where
  pub from : first_site strip kind ≤ low
  pub below : (site : ℕ) → first_site strip kind ≤ site → site < low → is_among taken site ≡ true

low_stays : (strip : Strip) (taken : List ℕ) (site : ℕ) (kind : Kind) (low : ℕ) → IsLow strip taken kind low → IsLow strip (taken ++ site ∷ []) kind low
low_stays strip taken site kind low is = record { from = is.from; below = λ s past lt. among_before taken site s (is.below s past lt) }

-- the sites of the first `index` blocks, and the state for the others
pub record IsStarting (strip : Strip) (blocks : List Comer) (kept : List ℕ) (index : ℕ) (vacancies : Vacancies) (sites : List ℕ) : Type 0 where
  pub all : seated_behind strip kept blocks ≡ sites ++ seated_behind strip (kept ++ sites) (drop index blocks)
  pub room : HasRoom strip (kept ++ sites) (drop index blocks)
  pub long : length vacancies.marks ≡ site_count strip Logic + site_count strip Pad
  pub marks : AreMarks (kept ++ sites) vacancies.marks
  pub logic : IsLow strip (kept ++ sites) Logic vacancies.logic
  pub pads : IsLow strip (kept ++ sites) Pad vacancies.pads

-- the lowest site without a mark is the least free one
lowest_by : (strip : Strip) (taken : List ℕ) (kind : Kind) (marks : List Bool) (low : ℕ) → AreMarks taken marks → first_site strip kind + site_count strip kind ≤ length marks → IsLow strip taken kind low → IsLeast taken (first_site strip kind) (site_count strip kind) (least_free strip kind taken) → first_from marks low ≡ least_free strip kind taken
lowest_by strip taken kind marks low are inside is least =
    let site = least_free strip kind taken in
    let past : low ≤ site = grind arith in
    let gap : low + (site - low) ≡ site = omega (arith, past) in
    grind (arith, first_at)

module _ (strip : Strip) (blocks : List Comer) (kept : List ℕ) (index : ℕ) (vacancies : Vacancies) (sites : List ℕ) (so_far : IsStarting strip blocks kept index vacancies sites) where
  abbrev taken : List ℕ
  taken = kept ++ sites

  module _ (block : Comer) (lt : index < length blocks) (here : get_or blocks index nobody ≡ block) where
    next : drop index blocks ≡ block ∷ drop (index + 1) blocks
    next = drop_more blocks index nobody lt ∙ ap (λ (b : Comer). b ∷ drop (index + 1) blocks) here

    room_here : HasRoom strip taken (block ∷ drop (index + 1) blocks)
    room_here = subst (λ (b : List Comer). HasRoom strip taken b) next so_far.room

    joined : (site : ℕ) → kept ++ (sites ++ site ∷ []) ≡ taken ++ site ∷ []
    joined site = sym (append_assoc kept sites (site ∷ []))

    one_more : seated_behind strip kept blocks ≡ (sites ++ site_for strip taken block ∷ []) ++ seated_behind strip (kept ++ (sites ++ site_for strip taken block ∷ [])) (drop (index + 1) blocks)
    one_more = grind (arith, next, append_assoc)

    room_then : HasRoom strip (kept ++ (sites ++ site_for strip taken block ∷ [])) (drop (index + 1) blocks)
    room_then = subst (λ (t : List ℕ). HasRoom strip t (drop (index + 1) blocks)) (sym (joined (site_for strip taken block))) (room_more strip taken block (drop (index + 1) blocks) room_here)

  -- a block that has a kept site
  pub starting_kept : (kind : Kind) (site : ℕ) → index < length blocks → get_or blocks index nobody ≡ (kind, Some site) → IsStarting strip blocks kept (index + 1) vacancies (sites ++ site ∷ [])
  starting_kept kind site lt here =
      let block : Comer = (kind, Some site) in
      let among : is_among taken site ≡ true = (room_here block lt here).kept 0 site (omega arith) refl in
      let are : AreMarks (taken ++ site ∷ []) vacancies.marks = grind (arith, among_last, among_other) in
      record {
        all = one_more block lt here;
        room = room_then block lt here;
        long = so_far.long;
        marks = subst (λ (t : List ℕ). AreMarks t vacancies.marks) (sym (joined block lt here site)) are;
        logic = subst (λ (t : List ℕ). IsLow strip t Logic vacancies.logic) (sym (joined block lt here site)) (low_stays strip taken site Logic vacancies.logic so_far.logic);
        pads = subst (λ (t : List ℕ). IsLow strip t Pad vacancies.pads) (sym (joined block lt here site)) (low_stays strip taken site Pad vacancies.pads so_far.pads);
      }

  -- a block that takes a free site
  module _ (kind : Kind) (lt : index < length blocks) (here : get_or blocks index nobody ≡ (kind, None)) where
    least : IsLeast taken (first_site strip kind) (site_count strip kind) (least_free strip kind taken)
    least = least_seat strip kind taken (drop (index + 1) blocks) (room_here (kind, None) lt here)

    inside : (k : Kind) → first_site strip k + site_count strip k ≤ length vacancies.marks
    inside k = grind arith

    pub lowest_is : lowest_vacant vacancies kind ≡ least_free strip kind taken
    lowest_is = grind (arith, least, lowest_by)

    pub lowest_inside : lowest_vacant vacancies kind < length vacancies.marks
    lowest_inside = omega (arith, lowest_is, least.below, inside kind)

    low_next : (site : ℕ) → site ≡ least_free strip kind taken → IsLow strip (taken ++ site ∷ []) kind site
    low_next site is = record {
      from = omega (arith, is, least.from);
      below = λ s past less. among_before taken site s (least.least s past (omega (arith, is, less)));
    }

    after : (kind : Kind) (site : ℕ) → lowest_vacant vacancies kind ≡ site → IsLow strip (taken ++ site ∷ []) kind site → site < length vacancies.marks →
        (length (without_lowest vacancies kind).marks ≡ length vacancies.marks) × AreMarks (taken ++ site ∷ []) (without_lowest vacancies kind).marks × IsLow strip (taken ++ site ∷ []) Logic (without_lowest vacancies kind).logic × IsLow strip (taken ++ site ∷ []) Pad (without_lowest vacancies kind).pads
    after Logic site is low small = rw is (length-set vacancies.marks site true, marks_more taken vacancies.marks site small so_far.marks, low, low_stays strip taken site Pad vacancies.pads so_far.pads)
    after Pad site is low small = rw is (length-set vacancies.marks site true, marks_more taken vacancies.marks site small so_far.marks, low_stays strip taken site Logic vacancies.logic so_far.logic, low)

    pub starting_free : (site : ℕ) → site ≡ lowest_vacant vacancies kind → IsStarting strip blocks kept (index + 1) (without_lowest vacancies kind) (sites ++ site ∷ [])
    starting_free site is =
        let block : Comer = (kind, None) in
        let free : least_free strip kind taken ≡ site = sym (is ∙ lowest_is) in
        let then = after kind site (sym is) (low_next site (sym free)) (omega (arith, is, lowest_inside)) in
        grind (arith, joined, one_more, room_then)

  pub starting_all : length blocks ≤ index → sites ≡ seated_behind strip kept blocks
  starting_all past = sym (so_far.all ∙ (ap (λ (b : List Comer). sites ++ seated_behind strip taken b) (drop_all index blocks past) ∙ append-nil sites))

pub starting_none : (strip : Strip) (blocks : List Comer) (kept : List (Option ℕ)) (total : ℕ) → HasRoom strip (kept_sites kept) blocks → total ≡ site_count strip Logic + site_count strip Pad → ((block site : ℕ) → block < length kept → get_or kept block None ≡ Some site → site < total) →
    IsStarting strip blocks (kept_sites kept) 0 (record { marks = marks_with (all_free total) kept; logic = 0; pads = first_site strip Pad }) []
starting_none strip blocks kept total room whole inside =
    let nothing : kept_sites kept ++ [] ≡ kept_sites kept = append-nil (kept_sites kept) in
    record {
      all = ap (λ (t : List ℕ). seated_behind strip t blocks) (sym nothing);
      room = rw nothing room;
      long = length-marked (all_free total) kept ∙ (length_free total ∙ whole);
      marks = rw nothing (marks_kept [] (all_free total) kept (λ b s lt is. omega (arith, inside b s lt is, length_free total)) (no_marks total));
      logic = record { from = omega arith; below = λ s past lt. absurd (omega (arith, lt)) };
      pads = record { from = omega arith; below = λ s past lt. absurd (omega (arith, past, lt)) };
    }
  where
    length_free : (count : ℕ) → length (all_free count) ≡ count
    length_free zero = refl
    length_free (suc count) = ap suc (length_free count)

-- the kept sites are in the strip
pub kept_inside : (strip : Strip) (kinds : List Kind) (kept : List (Option ℕ)) → AreKeptSites strip kinds kept → (block site : ℕ) → block < length kept → get_or kept block None ≡ Some site → site < site_count strip Logic + site_count strip Pad
kept_inside strip kinds kept lawful block site lt is = grind arith
