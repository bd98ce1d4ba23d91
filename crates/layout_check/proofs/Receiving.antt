-- Whether a BLE receives just some nets.
use Rattle.layout_check.proofs.Prelude.{◌≡◌, ℕ, ◌+◌, ◌<◌, ◌≤◌, Bool, true, false, ◌==◌, List, [], ◌∷◌, ◌++◌, drop, get_or, length, take, subst, sym, ap, refl, ◌∙◌, eq-eqb, eqb, arith, count_by, AllByRecursion, IsDistinct, list_all, is_member, and_parts, eqb-true, false_from_ne_true, false≢true, Decides-eqb, nat_tests, nat_eq_equiv, take-append-drop, take_more, count_by_more_yes, AllPairs-from_IsDistinct, IsDistinct-from_count, distinct_count-from_IsDistinct, length-from_keys, distinct_count, IsOnce, distinct_nets, has, LogicElement, has-distinct, once-distinct, once-push, receives, same_truth, from_all, from_has, count-append, some_counted, ReadFault, Lacks, Extra, Twice, IsReadFault}
use Rattle.layout_check.proofs.OneDriver.{once_counted}

apart : (net : ℕ) (nets : List ℕ) → has nets net ≡ false → AllByRecursion (λ other. eqb net other ≡ false) nets
apart net [] h = tt
apart net (other ∷ nets) h = (grind (arith, nat_tests, h), apart net nets (grind (arith, h)))

once_distinct : (nets : List ℕ) → IsOnce nets → IsDistinct eqb nets
unfolding IsDistinct
once_distinct [] once = tt
once_distinct (net ∷ nets) once = (apart net nets once.0, once_distinct nets once.1)

member_has : (nets : List ℕ) (net : ℕ) → is_member eqb nets net ≡ has nets net
member_has [] net = refl
member_has (other ∷ nets) net = let rest = member_has nets net in grind (arith, nat_tests, rest)

-- how many nets there are, if the inputs have the same
counted : (inputs nets : List ℕ) → list_all (has nets) inputs ≡ true → list_all (has inputs) nets ≡ true → length (distinct_nets nets) ≡ distinct_count eqb inputs
counted inputs nets all also = length-from_keys nat_eq_equiv (distinct_nets nets) inputs (once_distinct (distinct_nets nets) (once-distinct nets)) (λ q.
    member_has (distinct_nets nets) q ∙ has-distinct nets q
    ∙ same_truth (has nets q) (has inputs q) (λ is. from_all (has inputs) nets q also (from_has nets q is)) (λ is. from_all (has nets) inputs q all (from_has inputs q is))
    ∙ sym (member_has inputs q))

pub received : (element : LogicElement) (nets : List ℕ) → list_all (has element.inputs) nets ≡ true → list_all (has nets) element.inputs ≡ true → IsOnce element.inputs → receives element nets ≡ true
received element nets also all once = grind (arith, distinct_count-from_IsDistinct, once_distinct, counted)

pub read_refuted : (element : LogicElement) (nets : List ℕ) (fault : ReadFault) → IsReadFault element nets fault → receives element nets ≡ true → ⊥
read_refuted element nets fault said is = by fault said
  where
    long : (length element.inputs == length (distinct_nets nets)) ≡ true
    long = (and_parts (length element.inputs == length (distinct_nets nets)) _ is).0

    all : list_all (has nets) element.inputs ≡ true
    all = (and_parts (list_all (has nets) element.inputs) _ (and_parts (length element.inputs == length (distinct_nets nets)) _ is).1).0

    also : list_all (has element.inputs) nets ≡ true
    also = (and_parts (list_all (has nets) element.inputs) _ (and_parts (length element.inputs == length (distinct_nets nets)) _ is).1).1

    few : (net : ℕ) → count_by (λ input. input == net) element.inputs ≤ 1
    few net =
        let same : distinct_count eqb element.inputs ≡ length element.inputs = sym (counted element.inputs nets all also) ∙ sym (eqb-true (length element.inputs) (length (distinct_nets nets)) long) in
        once_counted element.inputs net (AllPairs-from_IsDistinct Decides-eqb element.inputs (IsDistinct-from_count nat_eq_equiv element.inputs same))

    by : (fault : ReadFault) → IsReadFault element nets fault → ⊥
    by (Lacks net) (c, none) = false≢true (sym none ∙ from_all (has element.inputs) nets net also c)
    by (Extra net) (c, none) = false≢true (sym none ∙ from_all (has nets) element.inputs net all c)
    by (Twice net) two = let once = few net in omega (arith, once, two)

pub never_received : (element : LogicElement) (nets : List ℕ) (fault : ReadFault) → IsReadFault element nets fault → receives element nets ≡ false
never_received element nets fault said = false_from_ne_true (receives element nets) (read_refuted element nets fault said)

-- the same over a copy of the inputs
pub received_told : (element : LogicElement) (nets inputs : List ℕ) → inputs ≡ element.inputs → list_all (has inputs) nets ≡ true → list_all (has nets) inputs ≡ true → IsOnce inputs → receives element nets ≡ true
received_told element nets inputs same also all once = grind (arith, received)

-- a net that is one of those before it
pub repeated : (nets : List ℕ) (place : ℕ) → place < length nets → has (take place nets) (get_or nets place 0) ≡ true → 1 < count_by (λ other. other == get_or nets place 0) nets
repeated nets place small is =
    let net = get_or nets place 0 in
    let test : ℕ → Bool = λ other. other == net in
    let before = some_counted test (take place nets) net (from_has (take place nets) net is) (eq-eqb net net refl) in
    let more = count_by_more_yes test nets place 0 small (eq-eqb net net refl) in
    let all = count-append test (take (place + 1) nets) (drop (place + 1) nets) in
    let whole : count_by test (take (place + 1) nets ++ drop (place + 1) nets) ≡ count_by test nets = ap (count_by test) (take-append-drop (place + 1) nets) in
    omega (arith, before, more, all, whole)

pub once_more : (nets : List ℕ) (place : ℕ) → place < length nets → IsOnce (take place nets) → has (take place nets) (get_or nets place 0) ≡ false → IsOnce (take (place + 1) nets)
once_more nets place small once new = subst IsOnce (sym (take_more nets place 0 small)) (once-push (take place nets) (get_or nets place 0) once new)
