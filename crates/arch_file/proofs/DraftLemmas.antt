-- The draft holds what the lines read so far describe.
use Rattle.arch_file.proofs.Prelude.{◌≡◌, ◌∙◌, ℕ, ◌<◌, ◌≤◌, List, Bool, true, false, cond, ◌||◌, eqb, length, get_or, set, Option, Some, None, is_some, refl, ap, sym, arith, option_or, eqb-true, nat_tests, length-set, get_or-set_same, get_or-set_other, Pin, Draft, ArchKeyword, IoRat, ChanWidthIo, ChanWidthX, ChanWidthY, Inpin, Outpin, SubblocksPerClb, SubblockLutSize, FcType, FcOutput, FcInput, FcPad, SwitchBlockType, Segment, Follows, IsLimited, Sets, found_with, is_fractional_type, decimal_from, is_fractional_from, whole_from, rank_of, same_keyword}
use Rattle.arch_file.proofs.KeywordRanks.{alike_by_rank}

abbrev Words : Type 0
Words = List (List ℕ)

-- all ranks are below 14
pub rank_below : (keyword : ArchKeyword) → rank_of keyword < 14
rank_below IoRat = omega arith
rank_below ChanWidthIo = omega arith
rank_below ChanWidthX = omega arith
rank_below ChanWidthY = omega arith
rank_below Inpin = omega arith
rank_below Outpin = omega arith
rank_below SubblocksPerClb = omega arith
rank_below SubblockLutSize = omega arith
rank_below FcType = omega arith
rank_below FcOutput = omega arith
rank_below FcInput = omega arith
rank_below FcPad = omega arith
rank_below SwitchBlockType = omega arith
rank_below Segment = omega arith

-- one more keyword, which was not found before
or_new : (b : Bool) (found : Option Words) (words : Words) → (b ≡ true → is_some found ≡ false) → option_or found (cond b (Some words) None) ≡ cond b (Some words) found
or_new true None words fresh = refl
or_new true (Some other) words fresh = let never : true ≡ false = fresh refl in cc
or_new false None words fresh = refl
or_new false (Some other) words fresh = refl

or_old : (b : Bool) (found : Option Words) (words : Words) → b ≡ false → option_or found (cond b (Some words) None) ≡ found
or_old true found words differs = let never : true ≡ false = differs in cc
or_old false None words differs = refl
or_old false (Some other) words differs = refl

is_some_or : (b : Bool) (found : Option Words) (words : Words) → is_some (option_or found (cond b (Some words) None)) ≡ (is_some found || b)
is_some_or true None words = refl
is_some_or false None words = refl
is_some_or true (Some other) words = refl
is_some_or false (Some other) words = refl

mark_place : (stands : List Bool) (place other : ℕ) (b : Bool) → eqb other place ≡ b → place < length stands → get_or (set stands place true) other false ≡ (get_or stands other false || b)
mark_place stands place other true same inside =
    let is : other ≡ place = eqb-true other place same in
    rw is (get_or-set_same stands place true false inside ∙ into_true (get_or stands place false))
  where
    into_true : (b : Bool) → true ≡ (b || true)
    into_true true = refl
    into_true false = refl
mark_place stands place other false differs inside =
    get_or-set_other stands place other true false (λ is. let yes : eqb other place ≡ true = rw is (eqb_self place) in cc) ∙ into_same (get_or stands other false)
  where
    into_same : (b : Bool) → b ≡ (b || false)
    into_same true = refl
    into_same false = refl

    eqb_self : (n : ℕ) → eqb n n ≡ true
    eqb_self n = grind (arith, nat_tests)

-- the keyword is not one that has a value
abbrev pub IsPlain : ArchKeyword → Type 0
IsPlain keyword = (other : ArchKeyword) → rank_of other < 11 → same_keyword other keyword ≡ false

pub IsPlain-from_rank : (keyword : ArchKeyword) → 11 ≤ rank_of keyword → IsPlain keyword
IsPlain-from_rank keyword high other low =
    let differs : rank_of other ≡ rank_of keyword → ⊥ = omega arith in
    alike_by_rank other keyword ∙ not_same (eqb (rank_of other) (rank_of keyword)) refl differs
  where
    not_same : (b : Bool) → eqb (rank_of other) (rank_of keyword) ≡ b → (rank_of other ≡ rank_of keyword → ⊥) → b ≡ false
    not_same true same differs = absurd (differs (eqb-true (rank_of other) (rank_of keyword) same))
    not_same false same differs = refl

pub mark_stands : (stands : List Bool) (found : ArchKeyword → Option Words) (keyword other : ArchKeyword) (words : Words) → length stands ≡ 14 → get_or stands (rank_of other) false ≡ is_some (found other) → get_or (set stands (rank_of keyword) true) (rank_of other) false ≡ is_some (found_with found keyword words other)
mark_stands stands found keyword other words ranks stood =
    mark_place stands (rank_of keyword) (rank_of other) (same_keyword other keyword) (sym (alike_by_rank other keyword)) (omega (arith, rank_below keyword))
    ∙ ap (λ b. b || same_keyword other keyword) stood ∙ sym (is_some_or (same_keyword other keyword) (found other) words)

-- a keyword without a value is marked
pub Follows-mark : (draft : Draft) (found : ArchKeyword → Option Words) (seen : List Pin) (keyword : ArchKeyword) (words : Words) → 11 ≤ rank_of keyword → Follows draft found seen → Follows (record draft { stands = set draft.stands (rank_of keyword) true }) (found_with found keyword words) seen
Follows-mark draft found seen keyword words high follows =
    let plain : IsPlain keyword = IsPlain-from_rank keyword high in
    let same = λ (other : ArchKeyword) (low : rank_of other < 11). or_old (same_keyword other keyword) (found other) words (plain other low) in
    let pads : found_with found keyword words IoRat ≡ found IoRat = same IoRat (omega arith) in
    let elements : found_with found keyword words SubblocksPerClb ≡ found SubblocksPerClb = same SubblocksPerClb (omega arith) in
    let inputs : found_with found keyword words SubblockLutSize ≡ found SubblockLutSize = same SubblockLutSize (omega arith) in
    let type : found_with found keyword words FcType ≡ found FcType = same FcType (omega arith) in
    let output : found_with found keyword words FcOutput ≡ found FcOutput = same FcOutput (omega arith) in
    let input : found_with found keyword words FcInput ≡ found FcInput = same FcInput (omega arith) in
    let pad : found_with found keyword words FcPad ≡ found FcPad = same FcPad (omega arith) in
    record {
      ranks = length-set draft.stands (rank_of keyword) true ∙ follows.ranks;
      stands = λ other. mark_stands draft.stands found keyword other words follows.ranks (follows.stands other);
      io_rat = follows.io_rat ∙ ap whole_from (sym pads);
      cluster_size = follows.cluster_size ∙ ap whole_from (sym elements);
      lut_size = follows.lut_size ∙ ap whole_from (sym inputs);
      fc_type = follows.fc_type ∙ ap is_fractional_from (sym type);
      fc_output = follows.fc_output ∙ ap decimal_from (sym output);
      fc_input = follows.fc_input ∙ ap decimal_from (sym input);
      fc_pad = follows.fc_pad ∙ ap decimal_from (sym pad);
      pins = follows.pins;
      inputs = follows.inputs;
      clock = follows.clock;
      io_rat_limit = λ is. follows.io_rat_limit (ap is_some (sym pads) ∙ is);
      cluster_limit = λ is. follows.cluster_limit (ap is_some (sym elements) ∙ is);
      lut_limit = λ is. follows.lut_limit (ap is_some (sym inputs) ∙ is);
      inputs_limit = follows.inputs_limit;
      clock_limit = follows.clock_limit;
      sides = follows.sides;
    }

value_set : {A : Type 0} (f : Option Words → A) (b : Bool) (found more : Option Words) (words : Words) (old new : A) → more ≡ cond b (Some words) found → old ≡ f found → new ≡ cond b (f (Some words)) old → new ≡ f more
value_set f true found more words old new is was sets = sets ∙ ap f (sym is)
value_set f false found more words old new is was sets = sets ∙ was ∙ ap f (sym is)

limit_set : (b : Bool) (found more : Option Words) (words : Words) (value old new limit : ℕ) → more ≡ cond b (Some words) found → new ≡ cond b value old → IsLimited (is_some found) old limit → IsLimited b new limit → IsLimited (is_some more) new limit
limit_set true found more words value old new limit is sets was limits is_there = limits refl
limit_set false found more words value old new limit is sets was limits is_there =
    rw sets (was (ap is_some (sym is) ∙ is_there))

-- a keyword that was not read gets its value and its mark
pub Follows-set : (old mid : Draft) (found : ArchKeyword → Option Words) (seen : List Pin) (keyword : ArchKeyword) (words : Words) → get_or old.stands (rank_of keyword) false ≡ false → Follows old found seen → Sets old keyword words mid → Follows (record mid { stands = set mid.stands (rank_of keyword) true }) (found_with found keyword words) seen
Follows-set old mid found seen keyword words fresh follows sets =
    let new = λ (other : ArchKeyword). or_new (same_keyword other keyword) (found other) words (λ same. sym (follows.stands other) ∙ ap (λ n. get_or old.stands n false) (eqb-true (rank_of other) (rank_of keyword) (sym (alike_by_rank other keyword) ∙ same)) ∙ fresh) in
    record {
      ranks = length-set mid.stands (rank_of keyword) true ∙ ap length sets.stands ∙ follows.ranks;
      stands = λ other. rw sets.stands (mark_stands old.stands found keyword other words follows.ranks (follows.stands other));
      io_rat = value_set whole_from (same_keyword IoRat keyword) (found IoRat) (found_with found keyword words IoRat) words old.io_rat mid.io_rat (new IoRat) follows.io_rat sets.io_rat;
      cluster_size = value_set whole_from (same_keyword SubblocksPerClb keyword) (found SubblocksPerClb) (found_with found keyword words SubblocksPerClb) words old.cluster_size mid.cluster_size (new SubblocksPerClb) follows.cluster_size sets.cluster_size;
      lut_size = value_set whole_from (same_keyword SubblockLutSize keyword) (found SubblockLutSize) (found_with found keyword words SubblockLutSize) words old.lut_size mid.lut_size (new SubblockLutSize) follows.lut_size sets.lut_size;
      fc_type = value_set is_fractional_from (same_keyword FcType keyword) (found FcType) (found_with found keyword words FcType) words (is_fractional_type old.fc_type) (is_fractional_type mid.fc_type) (new FcType) follows.fc_type sets.fc_type;
      fc_output = value_set decimal_from (same_keyword FcOutput keyword) (found FcOutput) (found_with found keyword words FcOutput) words old.fc_output mid.fc_output (new FcOutput) follows.fc_output sets.fc_output;
      fc_input = value_set decimal_from (same_keyword FcInput keyword) (found FcInput) (found_with found keyword words FcInput) words old.fc_input mid.fc_input (new FcInput) follows.fc_input sets.fc_input;
      fc_pad = value_set decimal_from (same_keyword FcPad keyword) (found FcPad) (found_with found keyword words FcPad) words old.fc_pad mid.fc_pad (new FcPad) follows.fc_pad sets.fc_pad;
      pins = sets.pins ∙ follows.pins;
      inputs = sets.inputs ∙ follows.inputs;
      clock = sets.clock ∙ follows.clock;
      io_rat_limit = limit_set (same_keyword IoRat keyword) (found IoRat) (found_with found keyword words IoRat) words (whole_from (Some words)) old.io_rat mid.io_rat 8 (new IoRat) sets.io_rat follows.io_rat_limit sets.io_rat_limit;
      cluster_limit = limit_set (same_keyword SubblocksPerClb keyword) (found SubblocksPerClb) (found_with found keyword words SubblocksPerClb) words (whole_from (Some words)) old.cluster_size mid.cluster_size 16 (new SubblocksPerClb) sets.cluster_size follows.cluster_limit sets.cluster_limit;
      lut_limit = limit_set (same_keyword SubblockLutSize keyword) (found SubblockLutSize) (found_with found keyword words SubblockLutSize) words (whole_from (Some words)) old.lut_size mid.lut_size 8 (new SubblockLutSize) sets.lut_size follows.lut_limit sets.lut_limit;
      inputs_limit = follows.inputs_limit;
      clock_limit = follows.clock_limit;
      sides = follows.sides;
    }
