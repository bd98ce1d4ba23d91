use Rattle.vpr_files.proofs.Prelude.{◌≡◌, ◌∙◌, ℕ, Bool, true, false, ◌&&◌, ◌<◌, List, length, sym, ap, Some, None, Option, slice_get, get_or, arith, refl, zip, slice_get-get_or, slice_get_within, Arch, Pin, Input, is_same_class, pins_of, PackedCircuit, pin_with}
use Rattle.vpr_files.proofs.Searches.{search_none, search_miss, search_hit, search_end}
use Rattle.vpr_files.proofs.ClusterLemmas.{carried_is, class_is, is_on, pin_at, pin_count, zip_count}
use Rattle.vpr_files.proofs.pin_words.pin_with.Goals as goal
use Rattle.vpr_files.proofs.pin_words.pin_with.Goals.{else-eq-via-then-eq+else-eq-2, else-eq-via-else-eq}

both : (a b : Bool) → a ≡ true → b ≡ true → (a && b) ≡ true
both true true e f = refl
both true false e f = f
both false b e f = e

not_first : (a b : Bool) → a ≡ false → (a && b) ≡ false
not_first true b e = absurd_true e
  where
    absurd_true : true ≡ false → (true && b) ≡ false
    absurd_true wrong = cc
not_first false b e = refl

not_second : (a b : Bool) → b ≡ false → (a && b) ≡ false
not_second true b e = e
not_second false b e = refl

abbrev none : Pin
none = record { class = Input; sides = record { top = false; bottom = false; left = false; right = false } }

-- the pin at a number
pin_here : (arch : Arch) (packed : PackedCircuit) (pins : List Pin) (number : ℕ) → arch ≡ packed.arch → pins ≡ arch.pins → number < length pins → slice_get packed.arch.pins number ≡ Some (get_or pins number none)
pin_here arch packed pins number e f within =
    ap (λ (ps : List Pin). slice_get ps number) (sym (f ∙ ap (λ (a : Arch). a.pins) e)) ∙ slice_get-get_or pins number none within

pub loop-number-init : goal.loop-number-init
loop-number-init c = search_none (λ (pin : Pin × Option ℕ). is_same_class c.args.class pin.0.class && is_on c.args.net pin.1) (zip c.args.packed.now.arch.pins (pins_of c.args.packed.now c.args.cluster))

pub returns-then-eq-2 : goal.returns-then-eq-2
returns-then-eq-2 c =
    let packed = c.args.packed.now in
    let number = c.loop-number.number in
    let pins = c.as_slice-pin-items.result.now in
    let pin = get_or pins number none in
    search_hit (λ (pin : Pin × Option ℕ). is_same_class c.args.class pin.0.class && is_on c.args.net pin.1) (zip packed.arch.pins (pins_of packed c.args.cluster)) number (pin, c.pin.result) (pin_with packed c.args.cluster c.args.class c.args.net)
    (pin_at packed c.args.cluster number pin c.pin.result (pin_here c.arch.result.now packed pins number c.arch.ensures.value c.as_slice-pin-items.ensures c.loop-number-test.true) c.pin.ensures)
    (both (is_same_class c.args.class pin.class) (is_on c.args.net c.pin.result) (sym (class_is pin.class c.args.class) ∙ sym c.if-eq.ensures) (sym (carried_is c.pin.result c.args.net) ∙ sym c.if-eq-2.ensures))
    c.loop-number.invariant

pub loop-number-preserved : goal.loop-number-preserved
loop-number-preserved c =
    let packed = c.args.packed.now in
    let number = c.loop-number.number in
    let pins = c.as_slice-pin-items.result.now in
    let pin = get_or pins number none in
    let here : slice_get packed.arch.pins number ≡ Some pin = pin_here c.arch.result.now packed pins number c.arch.ensures.value c.as_slice-pin-items.ensures c.loop-number-test.true in
    let miss = λ (carried : Option ℕ) (is : slice_get (pins_of packed c.args.cluster) number ≡ Some carried) (fails : (is_same_class c.args.class pin.class && is_on c.args.net carried) ≡ false).
    search_miss (λ (one : Pin × Option ℕ). is_same_class c.args.class one.0.class && is_on c.args.net one.1) (zip packed.arch.pins (pins_of packed c.args.cluster)) number (pin, carried) (pin_with packed c.args.cluster c.args.class c.args.net)
    (pin_at packed c.args.cluster number pin carried here is) fails c.loop-number.invariant in
    elim c.else-eq.branch [
      | else-eq-via-then-eq+else-eq-2 w ↦ miss w.pin.result w.pin.ensures (not_second (is_same_class c.args.class pin.class) (is_on c.args.net w.pin.result) (sym (carried_is w.pin.result c.args.net) ∙ sym w.if-eq-2.ensures))
      | else-eq-via-else-eq w ↦ miss (get_or (pins_of packed c.args.cluster) number None)
          (slice_get-get_or (pins_of packed c.args.cluster) number None (let count = pin_count packed c.args.cluster in let within = slice_get_within packed.arch.pins number pin here in omega arith))
          (not_first (is_same_class c.args.class pin.class) (is_on c.args.net (get_or (pins_of packed c.args.cluster) number None)) (sym (class_is pin.class c.args.class) ∙ sym w.if-eq.ensures))
    ]

pub returns : goal.returns
returns c =
    let packed = c.args.packed.now in
    let pins = c.as_slice-pin-items.result.now in
    let count : length (zip packed.arch.pins (pins_of packed c.args.cluster)) ≡ length packed.arch.pins = zip_count packed c.args.cluster in
    let same : length pins ≡ length packed.arch.pins = ap length c.as_slice-pin-items.ensures ∙ ap (λ (a : Arch). length a.pins) c.arch.ensures.value in
    search_end (λ (one : Pin × Option ℕ). is_same_class c.args.class one.0.class && is_on c.args.net one.1) (zip packed.arch.pins (pins_of packed c.args.cluster)) c.loop-number.number (pin_with packed c.args.cluster c.args.class c.args.net)
    (let h = c.loop-number-test.false in omega (arith, count, same)) c.loop-number.invariant
