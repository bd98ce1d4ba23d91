-- The printed owners are read back, node after node.
use Rattle.device_law.proofs.Prelude.{◌≡◌, subst, ℕ, ◌+◌, ◌-◌, ◌^◌, ◌<◌, suc, zero, Bool, true, false, cond, List, [], ◌∷◌, ◌++◌, length, map, codes, decimal, Option, Some, Result, Ok, Err, length-append, refl, sym, ap, ◌∙◌, arith, append_assoc, append-nil, ⊤, ◌==◌, All, AllPairs, nat_lt, slice_get, if◌then◌else◌, flat_map, list_all, nat_tests, All-head, All-tail, Resource, ResourceKind, IsEarlier, node_text_of, number_word, position_text, Owned, owned_text, owners_text, resource_text, DeviceFault, NotThere, OutOfOrder, DeviceSize, OwnedNode, first_counted, first_kind, is_within, owned_in, owner_count, owner_line, Seen, after_line, follows, is_earlier, last_of, line_read, lines_of, lines_read, owner_seen, plus, after_text, AreExactlyRead, AreOwnersReadBack, IsSmall, after_count, is_on, is_pad_on, last_line, node_of, owned_as, owners_read, IsInside, Reading, after_heading}
use Rattle.std.specs.Prelude.{◌&&◌, ◌||◌}
use Rattle.rr_graph.specs.declared.node.NodeKind.TheVariants as NodeKinds
use Rattle.rr_graph.specs.declared.resource.ResourceKind.TheVariants as Kind
use Rattle.device_law.proofs.FieldLemmas.{decimal_is, first_is}
use Rattle.device_law.proofs.LineLemmas.{decimal_solid, first_of_lines, is_solid, solid_append}

-- a resource of that kind, with its owner
abbrev owned_by : ResourceKind → ℕ → ℕ → ℕ → ℕ → Owned
owned_by kind x y n id = record { resource = record { x = x; kind = kind; y = y; n = n }; id = id }

-- the bytes of its line, after the word of its kind
abbrev after_kind : List ℕ → ℕ → ℕ → ℕ → ℕ → List ℕ
after_kind counted x y n id = decimal x ++ (44 ∷ (decimal y ++ (counted ++ (decimal n ++ (codes " owner " ++ decimal id)))))

abbrev owner_bytes : ℕ → Owned → List ℕ
owner_bytes rows owned = resource_text rows owned.resource owned.resource.kind ++ codes " owner " ++ decimal owned.id

-- what such bytes are read as
track_x : (size : DeviceSize) (x y n id : ℕ) → x < 2 ^ 32 → y < 2 ^ 32 → n < 2 ^ 32 → id < 2 ^ 32 → owned_in size (codes "CHANX (" ++ after_kind (codes ") Track: ") x y n id) ≡ owned_as size (owned_by Kind.ChanX x y n id)
unfolding owned_in owner_line first_kind first_counted after_text
track_x size x y n id one two three four = rw (first_is x _ one refl, first_is y _ two refl, first_is n _ three refl, decimal_is id four) refl

track_y : (size : DeviceSize) (x y n id : ℕ) → x < 2 ^ 32 → y < 2 ^ 32 → n < 2 ^ 32 → id < 2 ^ 32 → owned_in size (codes "CHANY (" ++ after_kind (codes ") Track: ") x y n id) ≡ owned_as size (owned_by Kind.ChanY x y n id)
unfolding owned_in owner_line first_kind first_counted after_text
track_y size x y n id one two three four = rw (first_is x _ one refl, first_is y _ two refl, first_is n _ three refl, decimal_is id four) refl

pad_is : (size : DeviceSize) (x y n id : ℕ) → x < 2 ^ 32 → y < 2 ^ 32 → n < 2 ^ 32 → id < 2 ^ 32 → owned_in size (codes "PAD (" ++ after_kind (codes ") Pad: ") x y n id) ≡ owned_as size (owned_by Kind.Pad x y n id)
unfolding owned_in owner_line first_kind first_counted after_text
pad_is size x y n id one two three four = rw (first_is x _ one refl, first_is y _ two refl, first_is n _ three refl, decimal_is id four) refl

-- a pin, by whether it is a pad's
abbrev PinRead : DeviceSize → Owned → Bool → List ℕ → Type 0
PinRead size owned pad bytes =
    let r : Resource = owned.resource in
    owned_in size bytes ≡ (if (if pad then is_pad_on size r else is_within r.x size.columns && (is_within r.y size.rows && nat_lt r.n 145)) then Ok (node_of owned) else Err NotThere)

opin_pad : (size : DeviceSize) (x y n id : ℕ) → x < 2 ^ 32 → y < 2 ^ 32 → n < 2 ^ 32 → id < 2 ^ 32 → PinRead size (owned_by Kind.Opin x y n id) true (codes "OPIN (" ++ after_kind (codes ") Pad: ") x y n id)
unfolding owned_in owner_line first_kind first_counted after_text
opin_pad size x y n id one two three four = rw (first_is x _ one refl, first_is y _ two refl, first_is n _ three refl, decimal_is id four) refl

opin_pin : (size : DeviceSize) (x y n id : ℕ) → x < 2 ^ 32 → y < 2 ^ 32 → n < 2 ^ 32 → id < 2 ^ 32 → PinRead size (owned_by Kind.Opin x y n id) false (codes "OPIN (" ++ after_kind (codes ") Pin: ") x y n id)
unfolding owned_in owner_line first_kind first_counted after_text
opin_pin size x y n id one two three four = rw (first_is x _ one refl, first_is y _ two refl, first_is n _ three refl, decimal_is id four) refl

ipin_pad : (size : DeviceSize) (x y n id : ℕ) → x < 2 ^ 32 → y < 2 ^ 32 → n < 2 ^ 32 → id < 2 ^ 32 → PinRead size (owned_by Kind.Ipin x y n id) true (codes "IPIN (" ++ after_kind (codes ") Pad: ") x y n id)
unfolding owned_in owner_line first_kind first_counted after_text
ipin_pad size x y n id one two three four = rw (first_is x _ one refl, first_is y _ two refl, first_is n _ three refl, decimal_is id four) refl

ipin_pin : (size : DeviceSize) (x y n id : ℕ) → x < 2 ^ 32 → y < 2 ^ 32 → n < 2 ^ 32 → id < 2 ^ 32 → PinRead size (owned_by Kind.Ipin x y n id) false (codes "IPIN (" ++ after_kind (codes ") Pin: ") x y n id)
unfolding owned_in owner_line first_kind first_counted after_text
ipin_pin size x y n id one two three four = rw (first_is x _ one refl, first_is y _ two refl, first_is n _ three refl, decimal_is id four) refl

-- the printed bytes: a line without a line feed, that is read as the node with its owner
record IsRead (size : DeviceSize) (owned : Owned) : Type 0 where
  word : List ℕ
  counted : List ℕ
  same : owner_bytes size.rows owned ≡ word ++ after_kind counted owned.resource.x owned.resource.y owned.resource.n owned.id
  word_solid : list_all is_solid word ≡ true
  counted_solid : list_all is_solid counted ≡ true
  read : owned_in size (word ++ after_kind counted owned.resource.x owned.resource.y owned.resource.n owned.id) ≡ owned_as size owned

abbrev node_bytes : List ℕ → List ℕ → ℕ → ℕ → ℕ → ℕ → List ℕ
node_bytes word counted x y n id = (word ++ 32 ∷ position_text x y ++ 32 ∷ counted ++ 32 ∷ decimal n) ++ codes " owner " ++ decimal id

abbrev owned_if : Bool → Owned → Result OwnedNode DeviceFault
owned_if b owned = if b then Ok (node_of owned) else Err NotThere

by_kind : (size : DeviceSize) (kind : ResourceKind) (x y n id : ℕ) → IsSmall (owned_by kind x y n id) → IsRead size (owned_by kind x y n id)
unfolding node_text_of
by_kind size Kind.ChanX x y n id small = record { word = codes "CHANX ("; counted = codes ") Track: "; same = simp append_assoc; word_solid = refl; counted_solid = refl; read = track_x size x y n id small.x small.y small.n small.id }
by_kind size Kind.ChanY x y n id small = record { word = codes "CHANY ("; counted = codes ") Track: "; same = simp append_assoc; word_solid = refl; counted_solid = refl; read = track_y size x y n id small.x small.y small.n small.id }
by_kind size Kind.Pad x y n id small = record { word = codes "PAD ("; counted = codes ") Pad: "; same = simp append_assoc; word_solid = refl; counted_solid = refl; read = pad_is size x y n id small.x small.y small.n small.id }
by_kind size Kind.Opin x y n id small = by_test ((y == 0) || nat_lt size.rows y) refl
  where
    r : Resource
    r = record { x = x; kind = Kind.Opin; y = y; n = n }

    by_test : (t : Bool) → ((y == 0) || nat_lt size.rows y) ≡ t → IsRead size (owned_by Kind.Opin x y n id)
    by_test true e = record {
      word = codes "OPIN (";
      counted = codes ") Pad: ";
      same = ap (λ b. node_bytes (codes "OPIN") (number_word NodeKinds.Opin b) x y n id) e ∙ simp append_assoc;
      word_solid = refl;
      counted_solid = refl;
      read = opin_pad size x y n id small.x small.y small.n small.id ∙ sym (ap (λ b. owned_if (if b then is_pad_on size r else is_within x size.columns && (is_within y size.rows && nat_lt n 145)) (owned_by Kind.Opin x y n id)) e);
    }
    by_test false e = record {
      word = codes "OPIN (";
      counted = codes ") Pin: ";
      same = ap (λ b. node_bytes (codes "OPIN") (number_word NodeKinds.Opin b) x y n id) e ∙ simp append_assoc;
      word_solid = refl;
      counted_solid = refl;
      read = opin_pin size x y n id small.x small.y small.n small.id ∙ sym (ap (λ b. owned_if (if b then is_pad_on size r else is_within x size.columns && (is_within y size.rows && nat_lt n 145)) (owned_by Kind.Opin x y n id)) e);
    }
by_kind size Kind.Ipin x y n id small = by_test ((y == 0) || nat_lt size.rows y) refl
  where
    r : Resource
    r = record { x = x; kind = Kind.Ipin; y = y; n = n }

    by_test : (t : Bool) → ((y == 0) || nat_lt size.rows y) ≡ t → IsRead size (owned_by Kind.Ipin x y n id)
    by_test true e = record {
      word = codes "IPIN (";
      counted = codes ") Pad: ";
      same = ap (λ b. node_bytes (codes "IPIN") (number_word NodeKinds.Ipin b) x y n id) e ∙ simp append_assoc;
      word_solid = refl;
      counted_solid = refl;
      read = ipin_pad size x y n id small.x small.y small.n small.id ∙ sym (ap (λ b. owned_if (if b then is_pad_on size r else is_within x size.columns && (is_within y size.rows && nat_lt n 145)) (owned_by Kind.Ipin x y n id)) e);
    }
    by_test false e = record {
      word = codes "IPIN (";
      counted = codes ") Pin: ";
      same = ap (λ b. node_bytes (codes "IPIN") (number_word NodeKinds.Ipin b) x y n id) e ∙ simp append_assoc;
      word_solid = refl;
      counted_solid = refl;
      read = ipin_pin size x y n id small.x small.y small.n small.id ∙ sym (ap (λ b. owned_if (if b then is_pad_on size r else is_within x size.columns && (is_within y size.rows && nat_lt n 145)) (owned_by Kind.Ipin x y n id)) e);
    }

its_read : (size : DeviceSize) (owned : Owned) → IsSmall owned → IsRead size owned
its_read size owned small = by_kind size owned.resource.kind owned.resource.x owned.resource.y owned.resource.n owned.id small

owned_is : (size : DeviceSize) (owned : Owned) → IsSmall owned → owned_in size (owner_bytes size.rows owned) ≡ owned_as size owned
owned_is size owned small = let is = its_read size owned small in ap (owned_in size) is.same ∙ is.read

owned_solid : (size : DeviceSize) (owned : Owned) → IsSmall owned → list_all is_solid (owner_bytes size.rows owned) ≡ true
owned_solid size owned small = grind (arith, solid_append, decimal_solid, its_read size owned small)

-- the line that announces them
heading_read : (seen : Seen) (number count : ℕ) → count < 2 ^ 32 → IsInside seen → line_read seen (codes "owners " ++ decimal count) number ≡ Ok (after_count seen number count)
unfolding owner_count after_text
heading_read seen number count small inside = grind (arith, decimal_is)

-- an owner's line
owner_read : (seen : Seen) (number rest : ℕ) (owned : Owned) → IsSmall owned → seen.place ≡ (after_heading seen.size).place → seen.awaited ≡ rest + 1 → line_read seen (owner_bytes seen.size.rows owned) number ≡ owner_seen seen (seen.awaited - 1) (owned_as seen.size owned)
owner_read seen number rest owned small place awaited = grind (arith, owned_is)

-- what was read, with one more node
abbrev with_one : Seen → ℕ → OwnedNode → Seen
with_one seen rest one = record seen { owned = seen.owned ++ one ∷ []; awaited = rest }

by_one : (xs ys : Seen → ℕ → Reading) (seen : Seen) (number rest : ℕ) (o : _) → ((one : OwnedNode) → xs (with_one seen rest one) number ≡ ys (with_one seen rest one) number) → after_line xs number (owner_seen seen rest o) ≡ after_line ys number (owner_seen seen rest o)
by_one xs ys seen number rest o same = grind arith

all_read : (owners : List Owned) (rest : List ℕ) (seen : Seen) (number : ℕ) → All IsSmall owners → seen.place ≡ (after_heading seen.size).place → seen.awaited ≡ length owners →
    lines_read (lines_of (flat_map (owned_text seen.size.rows) owners ++ rest)) seen number ≡ owners_read owners seen number (λ s n. lines_read (lines_of rest) s n)
unfolding lines_read
all_read [] rest seen number small place awaited = refl
all_read (one ∷ more) rest seen number small place awaited =
    let rows : ℕ = seen.size.rows in
    let line : List ℕ = owner_bytes rows one in
    let after : List ℕ = flat_map (owned_text rows) more ++ rest in
    let mine : IsSmall one = All-head IsSmall one more small in
    let regrouped : flat_map (owned_text rows) (one ∷ more) ++ rest ≡ line ++ 10 ∷ after = simp append_assoc in
    let left : seen.awaited - 1 ≡ length more = omega (arith, awaited) in
    ap (λ (t : List ℕ). lines_read (lines_of t) seen number) regrouped
    ∙ (ap (λ (ls : List (List ℕ)). lines_read ls seen number) (first_of_lines line after (owned_solid seen.size one mine))
    ∙ (ap (after_line (lines_read (lines_of after)) (plus number 1)) (owner_read seen (plus number 1) (length more) one mine place (omega (arith, awaited)))
    ∙ by_one (lines_read (lines_of after)) (λ s n. owners_read more s n (λ t m. lines_read (lines_of rest) t m)) seen (plus number 1) (seen.awaited - 1) (owned_as seen.size one)
    (λ node. all_read more rest (with_one seen (seen.awaited - 1) node) (plus number 1) (All-tail IsSmall one more small) place left)))

pub are_read_back : AreOwnersReadBack
unfolding lines_read
are_read_back owners rest seen number few small inside =
    let count : ℕ = length owners in
    let line : List ℕ = codes "owners " ++ decimal count in
    let after : List ℕ = flat_map (owned_text seen.size.rows) owners ++ rest in
    let regrouped : owners_text seen.size.rows owners ++ rest ≡ line ++ 10 ∷ after = simp append_assoc in
    ap (λ (t : List ℕ). lines_read (lines_of t) seen number) regrouped
    ∙ (ap (λ (ls : List (List ℕ)). lines_read ls seen number) (first_of_lines line after (solid_append (codes "owners ") (decimal count) refl (decimal_solid count few)))
    ∙ (ap (after_line (lines_read (lines_of after)) (plus number 1)) (heading_read seen (plus number 1) count few inside)
    ∙ all_read owners rest (after_count seen (plus number 1) count) (plus number 1) small inside.place refl))

-- in node order
is_before : (a b : Resource) → IsEarlier a b → is_earlier a b ≡ true
is_before a b is = grind (arith, nat_tests, is)

at_end : (xs : List OwnedNode) (x : OwnedNode) → slice_get (xs ++ x ∷ []) (length xs) ≡ Some x
at_end [] x = refl
at_end (y ∷ xs) x = at_end xs x

last_push : (xs : List OwnedNode) (x : OwnedNode) → last_of (xs ++ x ∷ []) ≡ Some x
last_push xs x = grind (arith, length-append xs (x ∷ []), at_end xs x)

abbrev GoesOn : Option OwnedNode → List Owned → Type 0
GoesOn last [] = ⊤
GoesOn last (one ∷ more) = follows last (node_of one) ≡ true

next_goes : (one : Owned) (more : List Owned) → AllPairs (λ a b. IsEarlier a.resource b.resource) (one ∷ more) → GoesOn (Some (node_of one)) more
next_goes one [] order = tt
next_goes one (two ∷ more) order = is_before one.resource two.resource (order zero (suc zero) one (omega arith) (omega arith))

abbrev Finished : Seen → List Owned → Seen
Finished seen owners = record seen { owned = seen.owned ++ map node_of owners; awaited = 0 }

exactly : (owners : List Owned) (seen : Seen) (number : ℕ) (next : Seen → ℕ → Reading) → All (λ o. is_on seen.size o.resource ≡ true) owners → AllPairs (λ a b. IsEarlier a.resource b.resource) owners → GoesOn (last_of seen.owned) owners → seen.awaited ≡ length owners →
    owners_read owners seen number next ≡ next (Finished seen owners) (last_line number owners)
exactly [] seen number next on order goes awaited = grind (arith, append-nil)
exactly (one ∷ more) seen number next on order goes awaited =
    let there : is_on seen.size one.resource ≡ true = All-head (λ (o : Owned). is_on seen.size o.resource ≡ true) one more on in
    let left : seen.awaited - 1 ≡ length more = omega (arith, awaited) in
    let mid : Seen = with_one seen (length more) (node_of one) in
    let step : owner_seen seen (seen.awaited - 1) (owned_as seen.size one) ≡ Ok mid =
    ap (λ b. owner_seen seen (seen.awaited - 1) (owned_if b one)) there
    ∙ (ap (λ b. cond b (Ok (with_one seen (seen.awaited - 1) (node_of one))) (Err OutOfOrder)) goes ∙ ap (λ k. Ok (with_one seen k (node_of one))) left) in
    let later : GoesOn (last_of mid.owned) more = (let P : Option OwnedNode → Type 0 = λ o. GoesOn o more in subst P (sym (last_push seen.owned (node_of one))) (next_goes one more order)) in
    ap (after_line (λ s n. owners_read more s n next) (plus number 1)) step
    ∙ (exactly more mid (plus number 1) next (All-tail (λ (o : Owned). is_on seen.size o.resource ≡ true) one more on) (λ i j d below within. order (suc i) (suc j) d (omega arith) (omega arith)) later refl
    ∙ ap (λ (ns : List OwnedNode). next (record seen { owned = ns; awaited = 0 }) (last_line (plus number 1) more)) (append_assoc seen.owned (node_of one ∷ []) (map node_of more)))

pub are_exactly_read : AreExactlyRead
are_exactly_read owners rest seen number few small inside on order = grind (arith, are_read_back, exactly)
