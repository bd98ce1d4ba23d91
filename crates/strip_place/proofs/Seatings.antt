-- Blocks at the start.
use Rattle.strip_place.proofs.Prelude.{ℕ, zero, suc, ◌≡◌, ◌≢◌, ◌+◌, ◌<◌, ◌≤◌, ◌⊎◌, inl, inr, Bool, true, false, not, cond, ◌&&◌, List, [], ◌∷◌, ◌++◌, Option, Some, None, length, get_or, refl, sym, ap, subst, ◌∙◌, arith, zip, is_none, cases_order, nat_tests, append-nil, append_assoc, get_or-zip, Strip, Kind, Logic, Pad, is_same_kind, AreOneToOne, IsSiteFor, first_site, is_among, kept_sites, least_free, seated_behind, site_count, site_for, start_of, AreKeptSites, HaveRoom, logic_in, pads_in}
use Rattle.strip_place.proofs.Vacant.{IsLeast, all_free, among_before, among_last, free_count, free_less, free_past, free_same, least_found}

-- a block at the start: its kind, and the site that is kept for it
abbrev pub Comer : Type 0
Comer = Kind × Option ℕ

abbrev pub nobody : Comer
nobody = (Logic, None)

-- the number of free sites of a kind, and the number of blocks that need one of them
abbrev pub free : Strip → Kind → List ℕ → ℕ
free strip kind taken = free_count taken (first_site strip kind) (site_count strip kind)

abbrev pub needs : Kind → List Comer → ℕ
needs kind [] = 0
needs kind (block ∷ blocks) = cond {A = ℕ} (is_same_kind kind block.0 && is_none block.1) 1 0 + needs kind blocks

-- there are enough free sites, and the kept sites are taken
pub record HasRoom (strip : Strip) (taken : List ℕ) (blocks : List Comer) : Type 0 where
  pub room : (kind : Kind) → needs kind blocks ≤ free strip kind taken
  pub kept : (block site : ℕ) → block < length blocks → (get_or blocks block nobody).1 ≡ Some site → is_among taken site ≡ true

pub least_seat : (strip : Strip) (kind : Kind) (taken : List ℕ) (blocks : List Comer) → HasRoom strip taken ((kind, None) ∷ blocks) → IsLeast taken (first_site strip kind) (site_count strip kind) (least_free strip kind taken)
least_seat strip kind taken blocks room = grind (arith, least_found)

-- there are still enough sites for the remaining blocks
pub room_more : (strip : Strip) (taken : List ℕ) (block : Comer) (blocks : List Comer) → HasRoom strip taken (block ∷ blocks) → HasRoom strip (taken ++ site_for strip taken block ∷ []) blocks
room_more strip taken (kind, Some site) blocks room = record {
  room = λ k. omega (arith, room.room k, free_same taken site (first_site strip k) (site_count strip k) (room.kept 0 site (omega arith) refl), none_needed (is_same_kind k kind));
  kept = λ b s lt is. among_before taken site s (room.kept (suc b) s (omega (arith, lt)) is);
}
  where
    none_needed : (b : Bool) → cond {A = ℕ} (b && false) 1 0 ≡ 0
    none_needed true = refl
    none_needed false = refl
room_more strip taken (kind, None) blocks room =
    let least = least_seat strip kind taken blocks room in
    let site = least_free strip kind taken in
    record {
      room = λ k. by k kind (room.room k) (free_less taken site (first_site strip k) (site_count strip k)) (λ outside. free_past taken site (first_site strip k) (site_count strip k) outside) least.from least.below;
      kept = λ b s lt is. among_before taken site s (room.kept (suc b) s (omega (arith, lt)) is);
    }
  where
    by : (k kind : Kind) {now after need : ℕ} → cond {A = ℕ} (is_same_kind k kind && true) 1 0 + need ≤ now → now ≤ after + 1 → ((least_free strip kind taken < first_site strip k) ⊎ (first_site strip k + site_count strip k ≤ least_free strip kind taken) → after ≡ now)
        → first_site strip kind ≤ least_free strip kind taken → least_free strip kind taken < first_site strip kind + site_count strip kind → need ≤ after
    by Logic Logic room less past from below = omega (arith, room, less)
    by Logic Pad room less past from below = omega (arith, room, past (inr (omega (arith, from))))
    by Pad Logic room less past from below = omega (arith, room, past (inl (omega (arith, below))))
    by Pad Pad room less past from below = omega (arith, room, less)

-- the site of a block: the one that is kept for it, or one of its kind that was free
abbrev pub Sits : Strip → List ℕ → Comer → ℕ → Type 0
Sits strip taken block site = (block.1 ≡ Some site) ⊎ ((block.1 ≡ None) × (is_among taken site ≡ false) × IsSiteFor strip block.0 site)

not_before : (taken : List ℕ) (site other : ℕ) → is_among (taken ++ site ∷ []) other ≡ false → is_among taken other ≡ false
not_before taken site other isnt = grind (arith, among_before)

pub sits : (strip : Strip) (taken : List ℕ) (blocks : List Comer) (block : ℕ) → HasRoom strip taken blocks → block < length blocks → Sits strip taken (get_or blocks block nobody) (get_or (seated_behind strip taken blocks) block 0)
sits strip taken [] block room lt = absurd (omega (arith, lt))
sits strip taken ((kind, Some site) ∷ blocks) zero room lt = inl refl
sits strip taken ((kind, None) ∷ blocks) zero room lt =
    let least = least_seat strip kind taken blocks room in
    inr (refl, least.free, record { from = least.from; below = least.below })
sits strip taken (first ∷ blocks) (suc block) room lt =
    let site = site_for strip taken first in
    grind (arith, not_before, sits strip (taken ++ site ∷ []) blocks block (room_more strip taken first blocks room) (omega (arith, lt)))

-- no two blocks keep the same site
abbrev pub KeepApart : List Comer → Type 0
KeepApart blocks = (block other site : ℕ) → block < length blocks → other < length blocks → (get_or blocks block nobody).1 ≡ Some site → (get_or blocks other nobody).1 ≡ Some site → block ≡ other

-- no two blocks have the same site
differ : (strip : Strip) (taken : List ℕ) (blocks : List Comer) (i j : ℕ) → HasRoom strip taken blocks → KeepApart blocks → i < j → j < length blocks → get_or (seated_behind strip taken blocks) i 0 ≢ get_or (seated_behind strip taken blocks) j 0
differ strip taken [] i j room apart lt within same = absurd (omega (arith, within))
differ strip taken (first ∷ blocks) i zero room apart lt within same = absurd (omega (arith, lt))
differ strip taken (first ∷ blocks) zero (suc j) room apart lt within same =
    let site = site_for strip taken first in
    let later = get_or (seated_behind strip (taken ++ site ∷ []) blocks) j 0 in
    elim (sits strip (taken ++ site ∷ []) blocks j (room_more strip taken first blocks room) (omega (arith, within))) [
      | inr free ↦ let wrong = sym free.1 ∙ (ap (is_among (taken ++ site ∷ [])) (sym same) ∙ among_last taken site) in absurd cc
      | inl kept ↦ by first room apart same kept
    ]
  where
    by : (first : Comer) → HasRoom strip taken (first ∷ blocks) → KeepApart (first ∷ blocks) → site_for strip taken first ≡ get_or (seated_behind strip (taken ++ site_for strip taken first ∷ []) blocks) j 0 →
        (get_or blocks j nobody).1 ≡ Some (get_or (seated_behind strip (taken ++ site_for strip taken first ∷ []) blocks) j 0) → ⊥
    by (kind, Some site) room apart same kept =
        let second : (get_or blocks j nobody).1 ≡ Some site = kept ∙ ap (λ s. let o : Option ℕ = Some s in o) (sym same) in
        let wrong = apart 0 (suc j) site (omega arith) within refl second in
        omega (arith, wrong)
    by (kind, None) room apart same kept =
        let least = least_seat strip kind taken blocks room in
        let second : (get_or blocks j nobody).1 ≡ Some (least_free strip kind taken) = kept ∙ ap (λ s. let o : Option ℕ = Some s in o) (sym same) in
        let wrong = sym least.free ∙ room.kept (suc j) (least_free strip kind taken) within second in
        cc
differ strip taken (first ∷ blocks) (suc i) (suc j) room apart lt within same =
    differ strip (taken ++ site_for strip taken first ∷ []) blocks i j (room_more strip taken first blocks room)
    (λ b o s in_b in_o is_b is_o. (let e = apart (suc b) (suc o) s (omega (arith, in_b)) (omega (arith, in_o)) is_b is_o in omega (arith, e))) (omega (arith, lt)) (omega (arith, within)) same

pub length-seated : (strip : Strip) (taken : List ℕ) (blocks : List Comer) → length (seated_behind strip taken blocks) ≡ length blocks
length-seated strip taken [] = refl
length-seated strip taken (block ∷ blocks) = ap suc (length-seated strip (taken ++ site_for strip taken block ∷ []) blocks)

-- the number of blocks of a kind that keep a site
abbrev keeps : Kind → List Comer → ℕ
keeps kind [] = 0
keeps kind (block ∷ blocks) = cond {A = ℕ} (is_same_kind kind block.0 && not (is_none block.1)) 1 0 + keeps kind blocks

-- the number of all blocks of a kind
abbrev pub all_of : Kind → List Kind → ℕ
all_of Logic kinds = logic_in kinds
all_of Pad kinds = pads_in kinds

all_more : (k kind : Kind) (kinds : List Kind) → all_of k (kind ∷ kinds) ≡ cond {A = ℕ} (is_same_kind k kind) 1 0 + all_of k kinds
all_more k kind kinds = grind arith

split : (b : Bool) (kept : Option ℕ) → cond {A = ℕ} (b && is_none kept) 1 0 + cond {A = ℕ} (b && not (is_none kept)) 1 0 ≡ cond {A = ℕ} b 1 0
split b kept = grind arith

needs_and_keeps : (k : Kind) (kinds : List Kind) (kept : List (Option ℕ)) → length kept ≡ length kinds → needs k (zip kinds kept) + keeps k (zip kinds kept) ≡ all_of k kinds
needs_and_keeps Logic [] kept long = refl
needs_and_keeps Pad [] kept long = refl
needs_and_keeps k (kind ∷ kinds) [] long = absurd (omega (arith, long))
needs_and_keeps k (kind ∷ kinds) (site ∷ kept) long = grind (arith, needs_and_keeps k kinds kept (omega (arith, long)))

-- each kept site is of its block's kind
abbrev KeepTheirs : Strip → List Comer → Type 0
KeepTheirs strip blocks = (block site : ℕ) → block < length blocks → (get_or blocks block nobody).1 ≡ Some site → IsSiteFor strip (get_or blocks block nobody).0 site

free_kept : (strip : Strip) (k kind : Kind) (taken : List ℕ) (site : ℕ) → IsSiteFor strip kind site → free strip k taken ≤ free strip k (taken ++ site ∷ []) + cond {A = ℕ} (is_same_kind k kind && true) 1 0
free_kept strip k kind taken site is = grind (arith, free_less, free_past)

nothing_kept : (b : Bool) → cond {A = ℕ} (b && false) 1 0 ≡ 0
nothing_kept b = grind arith

room_left : (strip : Strip) (k : Kind) (taken : List ℕ) (kinds : List Kind) (kept : List (Option ℕ)) → length kept ≡ length kinds → KeepTheirs strip (zip kinds kept) → free strip k taken ≤ free strip k (taken ++ kept_sites kept) + keeps k (zip kinds kept)
room_left strip k taken [] [] long theirs = omega (arith, ap (free strip k) (append-nil taken))
room_left strip k taken [] (site ∷ kept) long theirs = absurd (omega (arith, long))
room_left strip k taken (kind ∷ kinds) [] long theirs = absurd (omega (arith, long))
room_left strip k taken (kind ∷ kinds) (Some site ∷ kept) long theirs =
    let rest = room_left strip k (taken ++ site ∷ []) kinds kept (omega (arith, long)) (λ b s lt is. theirs (suc b) s (omega (arith, lt)) is) in
    let joined = ap (free strip k) (append_assoc taken (site ∷ []) (kept_sites kept)) in
    omega (arith, rest, joined, free_kept strip k kind taken site (theirs 0 site (omega arith) refl))
room_left strip k taken (kind ∷ kinds) (None ∷ kept) long theirs =
    let rest = room_left strip k taken kinds kept (omega (arith, long)) (λ b s lt is. theirs (suc b) s (omega (arith, lt)) is) in
    omega (arith, rest, nothing_kept (is_same_kind k kind))

-- a block's kept site is among the kept sites
kept_among : (kinds : List Kind) (kept : List (Option ℕ)) (block site : ℕ) → block < length (zip kinds kept) → (get_or (zip kinds kept) block nobody).1 ≡ Some site → is_among (kept_sites kept) site ≡ true
kept_among [] kept block site lt is = absurd (omega (arith, lt))
kept_among (kind ∷ kinds) [] block site lt is = absurd (omega (arith, lt))
kept_among (kind ∷ kinds) (None ∷ kept) zero site lt is = absurd cc
kept_among (kind ∷ kinds) (Some other ∷ kept) zero site lt is = (let same : other ≡ site = cc in grind (arith, nat_tests, same))
kept_among (kind ∷ kinds) (None ∷ kept) (suc block) site lt is = kept_among kinds kept block site (omega (arith, lt)) is
kept_among (kind ∷ kinds) (Some other ∷ kept) (suc block) site lt is = (let rest = kept_among kinds kept block site (omega (arith, lt)) is in grind (arith, rest))

length_zip : (kinds : List Kind) (kept : List (Option ℕ)) → length kept ≡ length kinds → length (zip kinds kept) ≡ length kinds
length_zip [] kept long = refl
length_zip (kind ∷ kinds) [] long = absurd (omega (arith, long))
length_zip (kind ∷ kinds) (site ∷ kept) long = ap suc (length_zip kinds kept (omega (arith, long)))

module _ (strip : Strip) (kinds : List Kind) (kept : List (Option ℕ)) (lawful : AreKeptSites strip kinds kept) where
  pub zipped : (block : ℕ) → block < length kinds → get_or (zip kinds kept) block nobody ≡ (get_or kinds block Logic, get_or kept block None)
  zipped block lt = get_or-zip kinds kept block nobody lt (omega (arith, lt, lawful.long))

  pub long : length (zip kinds kept) ≡ length kinds
  long = length_zip kinds kept lawful.long

  theirs : KeepTheirs strip (zip kinds kept)
  theirs block site lt is = grind (arith, long, zipped)

  keep_apart : KeepApart (zip kinds kept)
  keep_apart block other site in_b in_o is_b is_o = grind (arith, long, zipped)

  module _ (room : HaveRoom strip kinds) where
    all_fit : (k : Kind) → all_of k kinds ≤ site_count strip k
    all_fit k = grind arith

    -- at the start there are enough sites
    pub room_first : HasRoom strip (kept_sites kept) (zip kinds kept)
    room_first = record {
      room = λ k. omega (arith, needs_and_keeps k kinds kept lawful.long, room_left strip k [] kinds kept lawful.long theirs, all_free (first_site strip k) (site_count strip k), all_fit k);
      kept = kept_among kinds kept;
    }

    -- the blocks are on different sites of their kinds
    pub start_standing : AreOneToOne strip kinds (start_of strip kinds kept)
    unfolding start_of
    start_standing = record {
      long = length-seated strip (kept_sites kept) (zip kinds kept) ∙ long;
      by_kind = λ block lt. site_by block lt (sits strip (kept_sites kept) (zip kinds kept) block room_first (omega (arith, lt, long)));
      apart = λ block other lt within same. apart_by block other lt within same (cases_order block other);
    }
      where
        site_by : (block : ℕ) → block < length kinds → Sits strip (kept_sites kept) (get_or (zip kinds kept) block nobody) (get_or (seated_behind strip (kept_sites kept) (zip kinds kept)) block 0) → IsSiteFor strip (get_or kinds block Logic) (get_or (seated_behind strip (kept_sites kept) (zip kinds kept)) block 0)
        site_by block lt (inl stays) = lawful.by_kind block _ lt (sym (ap (λ (b : Comer). b.1) (zipped block lt)) ∙ stays)
        site_by block lt (inr free) = subst (λ (b : Comer). IsSiteFor strip b.0 (get_or (seated_behind strip (kept_sites kept) (zip kinds kept)) block 0)) (zipped block lt) free.2

        apart_by : (block other : ℕ) → block < length kinds → other < length kinds → get_or (seated_behind strip (kept_sites kept) (zip kinds kept)) block 0 ≡ get_or (seated_behind strip (kept_sites kept) (zip kinds kept)) other 0 → (block ≡ other) ⊎ ((block < other) ⊎ (other < block)) → block ≡ other
        apart_by block other lt within same (inl e) = e
        apart_by block other lt within same (inr (inl less)) = absurd (differ strip (kept_sites kept) (zip kinds kept) block other room_first keep_apart less (omega (arith, within, long)) same)
        apart_by block other lt within same (inr (inr more)) = absurd (differ strip (kept_sites kept) (zip kinds kept) other block room_first keep_apart more (omega (arith, lt, long)) (sym same))
