-- Tables and latches are in the order of their lines, and no line has two of them.
use Rattle.blif.proofs.Prelude.{◌≡◌, ◌≢◌, ℕ, ◌+◌, ◌-◌, ◌<◌, ◌≤◌, Bool, true, false, List, [], ◌∷◌, ◌++◌, All, AllPairs, length, if◌then◌else◌, refl, arith, flat_map, ltb-false, length-map, length-take-le, All-nil, All-cons, All-append, AllPairs-cons, JoinedLine, TooWide, Keyword, Names, Latch, LookupTable, number_of, args_of, is_latch, front_of, RisesFrom, Sights, kind_of, sights_of, fault_where, kind_faults, table_faults, latch_with, latches_in, table_with, tables_in, line_faults}
use Rattle.blif.specs.declared.latches.Latch.{Latch as StoredLatch}
use Rattle.blif.proofs.Faultless.{kept_by_lines, nil_left}
use Rattle.blif.proofs.Places.{flat_map_push}

-- a relation of each pair of elements of two lists, from properties of the elements
across : {X Y : Type 0} (P : X → Type 0) (Q : Y → Type 0) (R : X → Y → Type 0) → ((x : X) (y : Y) → P x → Q y → R x y) → (xs : List X) (ys : List Y) → All P xs → All Q ys → All (λ x. All (R x) ys) xs
across P Q R joins xs ys p q = λ k d within i e inside. joins _ _ (p k d within) (q i e inside)

beside : {X Y : Type 0} (R : X → Y → Type 0) (xs : List X) (ys zs : List Y) → All (λ x. All (R x) ys) xs → All (λ x. All (R x) zs) xs → All (λ x. All (R x) (ys ++ zs)) xs
beside R xs ys zs p q = λ k d within. All-append (R _) ys zs (p k d within) (q k d within)

module _ {X : Type 0} (parts : JoinedLine → List X) (line_of : X → ℕ) (at : (line : JoinedLine) → All (λ x. line_of x ≡ line.number) (parts line)) where
  -- the parts that lines add have line numbers from this one on
  pub from_number : (low : ℕ) (lines : List JoinedLine) → RisesFrom low lines → All (λ x. low ≤ line_of x) (flat_map parts lines)
  from_number low [] h = All-nil _
  from_number low (line ∷ lines) h =
      let here = at line in
      let rest = from_number (line.number + 1) lines h.1 in
      All-append (λ x. low ≤ line_of x) (parts line) (flat_map parts lines)
      (λ k d within. omega (arith, here k d within, h.0))
      (λ k d within. omega (arith, rest k d within, h.0))

  rising_more : (number : ℕ) (xs rest : List X) → length xs ≤ 1 → All (λ x. line_of x ≡ number) xs → All (λ y. number + 1 ≤ line_of y) rest → AllPairs (λ x y. line_of x < line_of y) rest → AllPairs (λ x y. line_of x < line_of y) (xs ++ rest)
  rising_more number [] rest few here above pairs = pairs
  rising_more number (x ∷ []) rest few here above pairs = AllPairs-cons (λ y z. line_of y < line_of z) x rest (λ k d within. omega (arith, here 0 x (omega arith), above k d within)) pairs
  rising_more number (x ∷ y ∷ xs) rest few here above pairs = absurd (omega (arith, few))

  -- the parts are in the order of their lines, if no line adds two
  pub rising : ((line : JoinedLine) → length (parts line) ≤ 1) → (low : ℕ) (lines : List JoinedLine) → RisesFrom low lines → AllPairs (λ x y. line_of x < line_of y) (flat_map parts lines)
  rising few low [] h = λ i j d before within. absurd (omega arith)
  rising few low (line ∷ lines) h = rising_more line.number (parts line) (flat_map parts lines) (few line) (at line) (from_number (line.number + 1) lines h.1) (rising few (line.number + 1) lines h.1)

module _ {X Y : Type 0} (parts : JoinedLine → List X) (line_of : X → ℕ) (at : (line : JoinedLine) → All (λ x. line_of x ≡ line.number) (parts line))
    (others : JoinedLine → List Y) (other_line : Y → ℕ) (others_at : (line : JoinedLine) → All (λ y. other_line y ≡ line.number) (others line))
    (few : (line : JoinedLine) → length (parts line) + length (others line) ≤ 1) where
  -- if each line adds at most one part, no two parts are on one line
  pub apart : (low : ℕ) (lines : List JoinedLine) → RisesFrom low lines → All (λ x. All (λ y. line_of x ≢ other_line y) (flat_map others lines)) (flat_map parts lines)
  apart low [] h = All-nil _
  apart low (line ∷ lines) h =
      let R : X → Y → Type 0 = λ x y. line_of x ≢ other_line y in
      let ps : List X = flat_map parts lines in
      let os : List Y = flat_map others lines in
      let ps_above = from_number parts line_of at (line.number + 1) lines h.1 in
      let os_above = from_number others other_line others_at (line.number + 1) lines h.1 in
      let here : All (λ x. All (R x) (others line)) (parts line) = λ k d within i e inside. absurd (omega (arith, few line, within, inside)) in
      let before : All (λ x. All (R x) os) (parts line) = across (λ x. line_of x ≡ line.number) (λ y. line.number + 1 ≤ other_line y) R (λ x y p q. omega (arith, p, q)) (parts line) os (at line) os_above in
      let after : All (λ x. All (R x) (others line)) ps = across (λ x. line.number + 1 ≤ line_of x) (λ y. other_line y ≡ line.number) R (λ x y p q. omega (arith, p, q)) ps (others line) ps_above (others_at line) in
      All-append (λ x. All (R x) (others line ++ os)) (parts line) ps
      (beside R (parts line) (others line) os here before)
      (beside R ps (others line) os after (apart (line.number + 1) lines h.1))

module _ (nets : List (List ℕ)) where
  table_at : (number : ℕ) (names : List (List ℕ)) → All (λ (table : LookupTable). table.line ≡ number) (table_with nets number names)
  table_at number [] = All-nil _
  table_at number (name ∷ names) = All-cons (λ (table : LookupTable). table.line ≡ number) _ [] refl (All-nil _)

  pub tables_at : (number : ℕ) (keyword : Keyword) (words : List (List ℕ)) → All (λ (table : LookupTable). table.line ≡ number) (tables_in nets number keyword words)
  tables_at number Names words = table_at number (args_of words)
  tables_at number keyword words = All-nil _

  latch_at : (number : ℕ) (args : List (List ℕ)) → All (λ (latch : StoredLatch). latch.line ≡ number) (latch_with nets number args)
  latch_at number args = by (is_latch args) _ refl
    where
      by : (b : Bool) (latch : StoredLatch) → latch.line ≡ number → All (λ (l : StoredLatch). l.line ≡ number) (if b then latch ∷ [] else [])
      by true latch at = All-cons (λ (l : StoredLatch). l.line ≡ number) latch [] at (All-nil _)
      by false latch at = All-nil _

  pub latches_at : (number : ℕ) (keyword : Keyword) (words : List (List ℕ)) → All (λ (latch : StoredLatch). latch.line ≡ number) (latches_in nets number keyword words)
  latches_at number Latch words = latch_at number (args_of words)
  latches_at number keyword words = All-nil _

  one_table : (number : ℕ) (names : List (List ℕ)) → length (table_with nets number names) ≤ 1
  one_table number [] = omega arith
  one_table number (name ∷ names) = omega arith

  one_latch : (number : ℕ) (args : List (List ℕ)) → length (latch_with nets number args) ≤ 1
  one_latch number args = by (is_latch args) _
    where
      by : (b : Bool) (latch : StoredLatch) → length (if b then latch ∷ [] else []) ≤ 1
      by true latch = omega arith
      by false latch = omega arith

  -- a line adds at most one table or latch
  pub one_part : (number : ℕ) (keyword : Keyword) (words : List (List ℕ)) → length (tables_in nets number keyword words) + length (latches_in nets number keyword words) ≤ 1
  one_part number Names words = omega (arith, one_table number (args_of words))
  one_part number Latch words = omega (arith, one_latch number (args_of words))
  one_part number keyword words = omega arith

  unless_wide : (b : Bool) → fault_where b TooWide ≡ [] → b ≡ false
  unless_wide true h = absurd cc
  unless_wide false h = refl

  table_narrow : (lut_size number : ℕ) (taken names : List (List ℕ)) → table_faults lut_size taken names ≡ [] → All (λ table. length table.inputs ≤ lut_size) (table_with nets number names)
  table_narrow lut_size number taken [] h = All-nil _
  table_narrow lut_size number taken (name ∷ names) h =
      let few : length names ≤ lut_size = ltb-false lut_size (length names) (unless_wide _ (nil_left _ _ h)) in
      let size : length (front_of (name ∷ names)) ≡ length (name ∷ names) - 1 = length-take-le (length (name ∷ names) - 1) (name ∷ names) (omega arith) in
      All-cons (λ (table : LookupTable). length table.inputs ≤ lut_size) _ []
      (omega (arith, length-map (front_of (name ∷ names)) (number_of nets), size, few))
      (All-nil _)

  tables_narrow : (lut_size number : ℕ) (above : Sights) (keyword : Keyword) (words : List (List ℕ)) → kind_faults lut_size above keyword words ≡ [] → All (λ table. length table.inputs ≤ lut_size) (tables_in nets number keyword words)
  tables_narrow lut_size number above Names words h = table_narrow lut_size number _ (args_of words) h
  tables_narrow lut_size number above keyword words h = All-nil _

  -- each table of lines without a fault has at most lut_size inputs
  pub all_narrow : (lut_size : ℕ) (declared : List (List ℕ)) (lines : List JoinedLine) → line_faults lut_size declared [] lines ≡ [] → All (λ table. length table.inputs ≤ lut_size) (flat_map (λ line. tables_in nets line.number (kind_of line) line.words) lines)
  all_narrow lut_size declared lines h =
      let tables : JoinedLine → List LookupTable = λ line. tables_in nets line.number (kind_of line) line.words in
      kept_by_lines lut_size declared (λ above. All (λ table. length table.inputs ≤ lut_size) (flat_map tables above))
      (λ above line none kept. rw (flat_map_push tables above line) (All-append (λ (table : LookupTable). length table.inputs ≤ lut_size) (flat_map tables above) (tables line) kept (tables_narrow lut_size line.number (sights_of declared above) (kind_of line) line.words none)))
      [] lines (All-nil _) h
