-- The faults that are found at the end of the text.
use Rattle.arch_file.proofs.Prelude.{◌≡◌, ◌∙◌, ℕ, List, [], ◌∷◌, ◌++◌, Bool, true, false, cond, not, Some, None, map, filter, refl, ap, sym, arith, nat_le, nat_lt, ◌==◌, ◌&&◌, ◌≤◌, ◌<◌, Ok, slice_index_or, zero, suc, length, get_or, and_parts, eqb-true, ltb-true, nat_tests, Pin, Draft, find, JoinedLine, Each, InOrder, InOrder-append, InOrder-filter, InOrder-map, by_number-same, first_of, least_by_in_order, ArchFaultKind, BadClass, Missing, ArchKeyword, decimal_at, end_faults, has_its_pins, is_fractional, pins_of, stands, IoRat, SubblocksPerClb, SubblockLutSize, FcOutput, FcInput, FcPad, IsWithin, Ends, FollowsLines, is_fractional_type, clock_count, reach, comes_before, only_if, word_of, least_kind, rank_of, required_keywords}
use Rattle.arch_file.specs.Pins.{output_count}

-- keywords are ordered by their index among the required ones
abbrev Rise : ArchKeyword → ArchKeyword → Type 0
Rise first second = word_of (Missing first) ≤ word_of (Missing second)

abbrev rise_from : ℕ → List ArchKeyword → Bool
rise_from low [] = true
rise_from low (keyword ∷ keywords) = nat_le low (word_of (Missing keyword)) && rise_from (word_of (Missing keyword)) keywords

each_above : (low other : ℕ) (keywords : List ArchKeyword) → low ≤ other → rise_from other keywords ≡ true → Each (λ keyword. low ≤ word_of (Missing keyword)) keywords
each_above low other [] fits rise = tt
each_above low other (keyword ∷ keywords) fits rise =
    let parts = and_parts (nat_le other (word_of (Missing keyword))) (rise_from (word_of (Missing keyword)) keywords) rise in
    let here : low ≤ word_of (Missing keyword) = grind (arith, nat_tests, parts.0) in
    (here, each_above low (word_of (Missing keyword)) keywords here parts.1)

rising : (low : ℕ) (keywords : List ArchKeyword) → rise_from low keywords ≡ true → InOrder Rise keywords
rising low [] rise = tt
rising low (keyword ∷ keywords) rise =
    let parts = and_parts (nat_le low (word_of (Missing keyword))) (rise_from (word_of (Missing keyword)) keywords) rise in
    (each_above (word_of (Missing keyword)) (word_of (Missing keyword)) keywords (omega arith) parts.1, rising (word_of (Missing keyword)) keywords parts.1)

-- a fault comes before another one
abbrev Comes : ArchFaultKind → ArchFaultKind → Type 0
Comes first second = comes_before first second ≡ true

only_order : (b : Bool) → InOrder Comes (only_if b BadClass)
only_order true = (tt, tt)
only_order false = tt

before_class : (b : Bool) (keywords : List ArchKeyword) → Each (λ kind. Each (Comes kind) (only_if b BadClass)) (map (λ k. Missing k) keywords)
before_class b [] = tt
before_class b (keyword ∷ keywords) = (one b, before_class b keywords)
  where
    one : (b : Bool) → Each (Comes (Missing keyword)) (only_if b BadClass)
    one true = (refl, tt)
    one false = tt

-- the faults of the end are listed in order
end_order : (q : ArchKeyword → Bool) (b : Bool) → InOrder Comes (map (λ k. Missing k) (filter q required_keywords) ++ only_if b BadClass)
end_order q b =
    InOrder-append Comes (map (λ k. Missing k) (filter q required_keywords)) (only_if b BadClass)
    (InOrder-map Rise Comes (λ k. Missing k) (filter q required_keywords)
    (λ x y le. let test : nat_le (word_of (Missing x)) (word_of (Missing y)) ≡ true = grind (arith, nat_tests) in by_number-same 3 (nat_le (word_of (Missing x)) (word_of (Missing y))) ∙ test)
    (InOrder-filter Rise q required_keywords (rising 0 required_keywords refl)))
    (only_order b) (before_class b (filter q required_keywords))

first_of_filter : (q : ArchKeyword → Bool) (xs : List ArchKeyword) (keyword : ArchKeyword) (rest : List ArchFaultKind) → find q xs ≡ Some keyword → first_of (map (λ k. Missing k) (filter q xs) ++ rest) ≡ Some (Missing keyword)
first_of_filter q [] keyword rest found = let never : None ≡ Some keyword = found in cc
first_of_filter q (x ∷ xs) keyword rest found = by_test (q x) (first_of_filter q xs keyword rest) found
  where
    by_test : (t : Bool) → (find q xs ≡ Some keyword → first_of (map (λ k. Missing k) (filter q xs) ++ rest) ≡ Some (Missing keyword)) → cond t (Some x) (find q xs) ≡ Some keyword → first_of (map (λ k. Missing k) (cond t (x ∷ filter q xs) (filter q xs)) ++ rest) ≡ Some (Missing keyword)
    by_test true others here = let same : x ≡ keyword = cc in ap (λ k. Some (Missing k)) same
    by_test false others later = others later

find_same : (p q : ArchKeyword → Bool) (xs : List ArchKeyword) → ((k : ArchKeyword) → p k ≡ q k) → find p xs ≡ find q xs
find_same p q [] same = refl
find_same p q (x ∷ xs) same = rw (same x, find_same p q xs same) refl

-- a required keyword is missing
pub end_faults-missing : (stood : ArchKeyword → Bool) (lines : List JoinedLine) (keyword : ArchKeyword) → ((k : ArchKeyword) → stood k ≡ stands k lines) → find (λ k. not (stood k)) required_keywords ≡ Some keyword → least_kind (end_faults lines) ≡ Some (Missing keyword)
end_faults-missing stood lines keyword same found =
    least_by_in_order comes_before (end_faults lines) (end_order (λ k. not (stands k lines)) (not (has_its_pins lines)))
    ∙ first_of_filter (λ k. not (stands k lines)) required_keywords keyword (only_if (not (has_its_pins lines)) BadClass)
    (sym (find_same (λ k. not (stood k)) (λ k. not (stands k lines)) required_keywords (λ k. ap not (same k))) ∙ found)

none_here : (q : ArchKeyword → Bool) (x : ArchKeyword) (xs : List ArchKeyword) → find q (x ∷ xs) ≡ None → (q x ≡ false) × (find q xs ≡ None)
none_here q x xs none = by_test (q x) none
  where
    by_test : (t : Bool) → cond t (Some x) (find q xs) ≡ None → (t ≡ false) × (find q xs ≡ None)
    by_test true never = let wrong : Some x ≡ None = never in cc
    by_test false rest = (refl, rest)

filter_none : (q : ArchKeyword → Bool) (xs : List ArchKeyword) → find q xs ≡ None → filter q xs ≡ []
filter_none q [] none = refl
filter_none q (x ∷ xs) none =
    let here = none_here q x xs none in
    rw here.0 (filter_none q xs here.1)

-- nothing is missing
end_faults-none : (stood : ArchKeyword → Bool) (lines : List JoinedLine) → ((k : ArchKeyword) → stood k ≡ stands k lines) → find (λ k. not (stood k)) required_keywords ≡ None → has_its_pins lines ≡ true → end_faults lines ≡ []
end_faults-none stood lines same none pins =
    let nothing = filter_none (λ k. not (stands k lines)) required_keywords (sym (find_same (λ k. not (stood k)) (λ k. not (stands k lines)) required_keywords (λ k. ap not (same k))) ∙ none) in
    rw (nothing, pins) refl

not_false : (b : Bool) → not b ≡ false → b ≡ true
not_false true is = refl
not_false false is = sym is

-- the keywords of the numbers with limits are all marked
pub record HasNumbers (stood : ArchKeyword → Bool) : Type 0 where
  pub io_rat : stood IoRat ≡ true
  pub cluster_size : stood SubblocksPerClb ≡ true
  pub lut_size : stood SubblockLutSize ≡ true

none_at : (q : ArchKeyword → Bool) (xs : List ArchKeyword) (n : ℕ) (d : ArchKeyword) → find q xs ≡ None → n < length xs → q (get_or xs n d) ≡ false
none_at q [] n d none inside = absurd (omega arith)
none_at q (x ∷ xs) zero d none inside = (none_here q x xs none).0
none_at q (x ∷ xs) (suc n) d none inside = none_at q xs n d (none_here q x xs none).1 (omega arith)

HasNumbers-from_none : (stood : ArchKeyword → Bool) → find (λ k. not (stood k)) required_keywords ≡ None → HasNumbers stood
HasNumbers-from_none stood none =
    record {
      io_rat = not_false (stood IoRat) (none_at (λ k. not (stood k)) required_keywords 0 IoRat none (omega arith));
      cluster_size = not_false (stood SubblocksPerClb) (none_at (λ k. not (stood k)) required_keywords 4 IoRat none (omega arith));
      lut_size = not_false (stood SubblockLutSize) (none_at (λ k. not (stood k)) required_keywords 5 IoRat none (omega arith));
    }

one_clock : (count : ℕ) → nat_lt 0 count ≡ true → count ≤ 1 → count ≡ 1
one_clock count some most = let above : 0 < count = ltb-true 0 count some in omega arith

-- the architecture of a draft whose lines are complete
pub draft_arch : (draft : Draft) (lines : List JoinedLine) (tracks : ℕ) (pins : List Pin) (output input pad : ℕ)
    → FollowsLines draft lines → find (λ k. not (slice_index_or draft.stands (rank_of k) false)) required_keywords ≡ None
    → (nat_lt 0 draft.inputs && ((output_count draft.pins.items == draft.cluster_size) && draft.has_clock)) ≡ true
    → 1 ≤ tracks → tracks ≤ 64 → pins ≡ draft.pins.items
    → output ≡ reach (is_fractional_type draft.fc_type) draft.fc_output tracks → IsWithin 1 output tracks
    → input ≡ reach (is_fractional_type draft.fc_type) draft.fc_input tracks → IsWithin 1 input tracks
    → pad ≡ reach (is_fractional_type draft.fc_type) draft.fc_pad tracks → IsWithin 1 pad tracks
    → Ends lines tracks (Ok (record { io_rat = draft.io_rat; pins = pins; cluster_size = draft.cluster_size; lut_size = draft.lut_size; tracks = tracks; fc_output = output; fc_input = input; fc_pad = pad }))
draft_arch draft lines tracks pins output input pad follows none test few many is_pins is_output output_fits is_input input_fits is_pad pad_fits =
    let stood : ArchKeyword → Bool = λ k. slice_index_or draft.stands (rank_of k) false in
    let numbers = HasNumbers-from_none stood none in
    let parts = and_parts (nat_lt 0 draft.inputs) ((output_count draft.pins.items == draft.cluster_size) && draft.has_clock) test in
    let more = and_parts (output_count draft.pins.items == draft.cluster_size) draft.has_clock parts.1 in
    let its_pins : has_its_pins lines ≡ true = rw (← follows.inputs, ← follows.clock, ← follows.pins, ← follows.cluster_size) test in
    let all : pins ≡ pins_of lines = is_pins ∙ follows.pins in
    let some : 0 < draft.inputs = ltb-true 0 draft.inputs parts.0 in
    let outputs : output ≡ reach (is_fractional lines) (decimal_at FcOutput lines) tracks = rw (← follows.fc_type, ← follows.fc_output) is_output in
    let inputs : input ≡ reach (is_fractional lines) (decimal_at FcInput lines) tracks = rw (← follows.fc_type, ← follows.fc_input) is_input in
    let pads : pad ≡ reach (is_fractional lines) (decimal_at FcPad lines) tracks = rw (← follows.fc_type, ← follows.fc_pad) is_pad in (
      end_faults-none stood lines follows.stands none its_pins,
      rw (follows.io_rat, all, follows.cluster_size, follows.lut_size, outputs, inputs, pads) refl,
      record {
        io_rat = follows.io_rat_limit (sym (follows.stands IoRat) ∙ numbers.io_rat);
        cluster_size = follows.cluster_limit (sym (follows.stands SubblocksPerClb) ∙ numbers.cluster_size);
        lut_size = follows.lut_limit (sym (follows.stands SubblockLutSize) ∙ numbers.lut_size);
        tracks = (few, many);
        fc_output = output_fits;
        fc_input = input_fits;
        fc_pad = pad_fits;
        inputs = rw all ((rw (← follows.inputs) (omega arith)), follows.inputs_limit);
        outputs = rw is_pins (eqb-true (output_count draft.pins.items) draft.cluster_size more.0);
        clocks = rw all (one_clock (clock_count (pins_of lines)) (sym follows.clock ∙ more.1) follows.clock_limit);
        sides = rw all follows.sides;
      },
    )
