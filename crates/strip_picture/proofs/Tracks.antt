-- The tracks of channels as bits of numbers.
use Rattle.strip_picture.proofs.Prelude.{ℕ, ◌≡◌, ◌∙◌, ◌+◌, ◌*◌, ◌/◌, ◌%◌, ◌^◌, ◌<◌, ◌≤◌, Bool, true, false, ◌&&◌, ◌||◌, ◌==◌, cond, List, [], ◌∷◌, ◌++◌, length, set, get_or, refl, sym, ap, inl, inr, arith, eqb, bit_and, bit_or, w64, suc, zero, replicate, length-set, list_any, range_with_len, count_by, bit_at, get_or-set_same, get_or-set_other, get_or-replicate, list_any-append, sum_by-cons, bit_at_set_same, bit_at_set_other, shr_and_one, eqb_tells, NodeKind, Source, Sink, Opin, Ipin, ChanX, ChanY, Direction, Across, Up, RouteNode, MAX_TRACKS, CHANNELS, HasTracks, IsNoWire, IsWireOf, channel_number, goes, is_wire, tracks_in}

or-false : (b : Bool) → (b || false) ≡ b
or-false true = refl
or-false false = refl

or-true : (b : Bool) → (b || true) ≡ true
or-true true = refl
or-true false = refl

and-false : (b : Bool) → (b && false) ≡ false
and-false true = refl
and-false false = refl

-- a test of the elements, and of one more
any_last : (p : RouteNode → Bool) (nodes : List RouteNode) (read : RouteNode) → list_any p (nodes ++ read ∷ []) ≡ (list_any p nodes || p read)
any_last p nodes read = list_any-append p nodes (read ∷ []) ∙ ap (λ b. list_any p nodes || b) (or-false (p read))

-- one more bit is set, or the bits stay
set_bits : (used : List ℕ) (p q n t : ℕ) (b : Bool) → p < length used → n < 64 → bit_at (get_or used q 0) t ≡ cond {A = ℕ} b 1 0
    → bit_at (get_or (set used p (bit_or (get_or used p 0) (1 * 2 ^ n % 2 ^ 64))) q 0) t ≡ cond {A = ℕ} (b || (eqb p q && eqb n t)) 1 0
set_bits used p q n t b within low h =
    let v : ℕ = bit_or (get_or used p 0) (1 * 2 ^ n % 2 ^ 64) in
    elim (eqb_tells p q) [
      | inl here ↦
          let same : get_or (set used p v) q 0 ≡ v = ap (λ k. get_or (set used p v) k 0) (sym here.1) ∙ get_or-set_same used p v 0 within in
          elim (eqb_tells n t) [
            | inl at ↦
                ap (λ m. bit_at m t) same ∙ (ap (λ k. bit_at v k) (sym at.1) ∙ (bit_at_set_same w64 (get_or used p 0) n low
                ∙ sym (ap (λ c. cond {A = ℕ} c 1 0) (ap (λ c. b || (eqb p q && c)) at.0 ∙ (ap (λ c. b || (c && true)) here.0 ∙ or-true b)))))
            | inr off ↦
                ap (λ m. bit_at m t) same ∙ (bit_at_set_other w64 (get_or used p 0) n low t (λ e. off.1 (sym e)) ∙ (ap (λ k. bit_at (get_or used k 0) t) here.1 ∙ (h
                ∙ sym (ap (λ c. cond {A = ℕ} c 1 0) (ap (λ c. b || (eqb p q && c)) off.0 ∙ (ap (λ c. b || c) (and-false (eqb p q)) ∙ or-false b))))))
          ]
      | inr off ↦
          ap (λ m. bit_at m t) (get_or-set_other used p q v 0 (λ e. off.1 (sym e))) ∙ (h
          ∙ sym (ap (λ c. cond {A = ℕ} c 1 0) (ap (λ c. b || (c && eqb n t)) off.0 ∙ or-false b)))
    ]

-- the wire that a node is, by its kind
wire_of : (k : NodeKind) (read : RouteNode) (d : Direction) (x y t : ℕ) → read.node.kind ≡ k
    → is_wire d x y t read ≡ (goes k d && (read.node.x == x) && (read.node.y == y) && (read.node.n == t))
wire_of k read d x y t e = ap (λ (kind : NodeKind). goes kind d && (read.node.x == x) && (read.node.y == y) && (read.node.n == t)) e

-- the bit of a wire is set
pub marked_wire : (nodes : List RouteNode) (read : RouteNode) (used : List ℕ) (p : ℕ) → IsWireOf read p → HasTracks nodes used
    → HasTracks (nodes ++ read ∷ []) (set used p (bit_or (get_or used p 0) (1 * 2 ^ read.node.n % 2 ^ 64)))
marked_wire nodes read used p wire h = record {
  long = length-set used p (bit_or (get_or used p 0) (1 * 2 ^ read.node.n % 2 ^ 64)) ∙ h.long;
  bits = λ d x y t lx ly lt.
      (let within : p < length used = (let a = wire.within in let b = h.long in omega arith) in
      set_bits used p (channel_number d x y) read.node.n t (list_any (is_wire d x y t) nodes) within wire.small (h.bits d x y t lx ly lt)
      ∙ ap (λ b. cond {A = ℕ} b 1 0)
      (sym (any_last (is_wire d x y t) nodes read ∙ ap (λ b. list_any (is_wire d x y t) nodes || b) (wire.only d x y t ly))));
}

no_way : (k : NodeKind) → (k ≡ ChanX → ⊥) → (k ≡ ChanY → ⊥) → (d : Direction) → goes k d ≡ false
no_way ChanX across up d = absurd (across refl)
no_way ChanY across up d = absurd (up refl)
no_way Source across up d = refl
no_way Sink across up d = refl
no_way Opin across up d = refl
no_way Ipin across up d = refl

-- no other node is a wire
pub no_wire : (read : RouteNode) → (read.node.kind ≡ ChanX → ⊥) → (read.node.kind ≡ ChanY → ⊥) → IsNoWire read
no_wire read across up d x y t ly lt = ap (λ b. b && (read.node.x == x) && (read.node.y == y) && (read.node.n == t)) (no_way read.node.kind across up d)

-- tests that agree on a range of numbers count equally many
same_count : (p q : ℕ → Bool) (a n : ℕ) → ((t : ℕ) → a ≤ t → t < a + n → p t ≡ q t) → count_by p (range_with_len a n) ≡ count_by q (range_with_len a n)
same_count p q a zero h = refl
same_count p q a (suc n) h =
    let one : (Bool → ℕ) = λ b. cond {A = ℕ} b 1 0 in
    sum_by-cons (λ t. one (p t)) a (range_with_len (a + 1) n)
    ∙ (ap (λ b. one b + count_by p (range_with_len (a + 1) n)) (h a (omega arith) (omega arith))
    ∙ (ap (λ m. one (q a) + m) (same_count p q (a + 1) n (λ t least most. h t (omega arith) (omega arith)))
    ∙ sym (sum_by-cons (λ t. one (q t)) a (range_with_len (a + 1) n))))

one_bit : (b : Bool) (m : ℕ) → m ≡ cond {A = ℕ} b 1 0 → (m == 1) ≡ b
one_bit true m e = ap (λ k. k == 1) e
one_bit false m e = ap (λ k. k == 1) e

-- the number of set bits of a channel is the number of its used tracks
pub counted : (nodes : List RouteNode) (used : List ℕ) (d : Direction) (x y : ℕ) → x ≤ 256 → y ≤ 64 → HasTracks nodes used
    → count_by (λ t. bit_and (get_or used (channel_number d x y) 0 / 2 ^ t) 1 == 1) (range_with_len 0 MAX_TRACKS) ≡ tracks_in d x y nodes
unfolding tracks_in
counted nodes used d x y lx ly h =
    same_count (λ t. bit_and (get_or used (channel_number d x y) 0 / 2 ^ t) 1 == 1) (λ t. list_any (is_wire d x y t) nodes) 0 MAX_TRACKS
    (λ t least most. one_bit (list_any (is_wire d x y t) nodes) _ (shr_and_one (get_or used (channel_number d x y) 0) t ∙ h.bits d x y t lx ly most))

-- before any node is read, no bit is set
zeros : (channels : ℕ) (d : Direction) (x y : ℕ) → channels ≡ CHANNELS → x ≤ 256 → y ≤ 64 → ◌≡◌ {A = ℕ} (get_or (replicate channels 0) (channel_number d x y) 0) 0
zeros channels Across x y long lx ly = get_or-replicate channels (channel_number Across x y) 0 0 (omega arith)
zeros channels Up x y long lx ly = get_or-replicate channels (channel_number Up x y) 0 0 (omega arith)

pub counted_at : (nodes : List RouteNode) (used : List ℕ) (d : Direction) (x y number count : ℕ) → x ≤ 256 → y ≤ 64 → number ≡ channel_number d x y
    → count ≡ count_by (λ t. bit_and (get_or used number 0 / 2 ^ t) 1 == 1) (range_with_len 0 MAX_TRACKS) → HasTracks nodes used → count ≡ tracks_in d x y nodes
counted_at nodes used d x y number count lx ly is told h =
    told ∙ (ap (λ k. count_by (λ t. bit_and (get_or used k 0 / 2 ^ t) 1 == 1) (range_with_len 0 MAX_TRACKS)) is ∙ counted nodes used d x y lx ly h)
